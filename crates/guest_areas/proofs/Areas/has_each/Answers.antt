use Rattle.std.proofs.Common.{ℕ, ◌≡◌, ◌+◌, ◌-◌, arith, sym, ap, ◌∙◌}
use Rattle.guest_areas.specs.Space.{is_each, is_known}
use Rattle.guest_areas.proofs.KnownPages.{each_more, each_not}
use Rattle.guest_areas.proofs.Areas.has_each.Goals as goal

pub loop-page-init : goal.loop-page-init
loop-page-init c =
    ap (λ (n : ℕ). is_each (is_known c.args.self.now) c.args.first n) (let e : c.args.first + c.args.count - c.args.first ≡ c.args.count = omega arith in e)

pub loop-page-preserved : goal.loop-page-preserved
loop-page-preserved c =
    sym (each_more (is_known c.args.self.now) c.loop-page.page (c.args.first + c.args.count - c.loop-page.page) (c.args.first + c.args.count - (c.loop-page.page + 1)) (omega arith)
    (sym c.has.ensures ∙ c.if-not-has.false))
    ∙ c.loop-page.invariant

pub returns-then-not-has : goal.returns-then-not-has
returns-then-not-has c =
    sym (each_not (is_known c.args.self.now) c.loop-page.page (c.args.first + c.args.count - c.loop-page.page) (c.args.first + c.args.count - (c.loop-page.page + 1)) (omega arith)
    (sym c.has.ensures ∙ c.if-not-has.true))
    ∙ c.loop-page.invariant

pub returns : goal.returns
returns c =
    ap (λ (n : ℕ). is_each (is_known c.args.self.now) c.loop-page.page n) (let e : 0 ≡ c.args.first + c.args.count - c.loop-page.page = omega arith in e)
    ∙ c.loop-page.invariant
