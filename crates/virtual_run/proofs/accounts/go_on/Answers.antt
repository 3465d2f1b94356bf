use Rattle.std.proofs.Common.{◌≡◌, ℕ, List, [], ap, sym, subst, ◌∙◌}
use Rattle.delay_credits.specs.Delays.{Delays}
use Rattle.machines.specs.declared.Fate.TheVariants.{Goes}
use Rattle.virtual_run.specs.Credited.{with_raises, with_rest, raise_ticks, AllRun}
use Rattle.virtual_run.proofs.CreditedBegin.{raisers_run, goes-on-alone, none-any}
use Rattle.virtual_run.proofs.accounts.go_on.Goals as goal

pub raise_harts-requires-clause-run : goal.raise_harts-requires-clause-run
raise_harts-requires-clause-run c =
    let r = c.args.engine.now in
    let h : ℕ = c.args.hart.0 in
    let before : Delays = with_rest h Goes c.args.now c.args.credits.now in
    let started = c.start.ensures ∙ goes-on-alone h c.args.now r.ending Goes r.started c.args.credits.now c.requires.alone in
    subst (AllRun c.start.new.self) (sym c.harts-raisers.ensures)
    (raisers_run before r.guest h Goes r.started r.selected c.requires.can c.start.new.self started)

pub returns-then-has_any : goal.returns-then-has_any
returns-then-has_any c =
    let r = c.args.engine.now in
    let ticks : ℕ → ℕ = raise_ticks r.guest c.args.speedup in
    let started = c.start.ensures ∙ goes-on-alone c.args.hart.0 c.args.now r.ending Goes r.started c.args.credits.now c.requires.alone in
    c.raise_harts.ensures
    ∙ ap (λ (hs : List ℕ). with_raises ticks hs c.start.new.self) c.harts-raisers.ensures
    ∙ ap (with_raises ticks r.selected) started

pub returns-else-has_any : goal.returns-else-has_any
returns-else-has_any c =
    let r = c.args.engine.now in
    let none : r.selected ≡ [] = none-any r.selected (sym c.has_any.ensures ∙ c.if-has_any.false) in
    let started = c.start.ensures ∙ goes-on-alone c.args.hart.0 c.args.now r.ending Goes r.started c.args.credits.now c.requires.alone in
    rw none started
