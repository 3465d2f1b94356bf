use Rattle.std.proofs.Common.{ℕ, List, ap, sym, subst, ◌∙◌}
use Rattle.virtual_run.specs.Credited.{with_credits, with_starts, with_raises, raise_ticks, AllBelow, AllRun}
use Rattle.virtual_run.proofs.CreditedBegin.{again_below, others_below, started_is, raisers_run}
use Rattle.virtual_run.proofs.accounts.credit_started.Goals as goal

pub start_again-requires-clause-below : goal.start_again-requires-clause-below
start_again-requires-clause-below c =
    let r = c.args.engine.now in
    let credited = c.credit_each.ensures ∙ ap (λ (hs : List ℕ). with_credits hs c.args.credits.now) c.harts.ensures in
    again_below c.args.credits.now r.guest c.args.retired.hart.0 c.args.retired.fate r.started r.selected c.requires.can c.credit_each.new.credits credited

pub start_each-requires-clause-below : goal.start_each-requires-clause-below
start_each-requires-clause-below c =
    let r = c.args.engine.now in
    let credited = c.credit_each.ensures ∙ ap (λ (hs : List ℕ). with_credits hs c.args.credits.now) c.harts.ensures in
    subst (AllBelow c.start_again.new.credits) (sym c.harts-2.ensures)
    (others_below c.args.credits.now r.guest c.args.retired.hart.0 c.args.retired.fate r.started r.selected c.requires.can c.credit_each.new.credits c.start_again.new.credits credited c.start_again.ensures)

pub raise_harts-requires-clause-run : goal.raise_harts-requires-clause-run
raise_harts-requires-clause-run c =
    let r = c.args.engine.now in
    let credited = c.credit_each.ensures ∙ ap (λ (hs : List ℕ). with_credits hs c.args.credits.now) c.harts.ensures in
    let started = started_is c.args.credits.now r.guest c.args.retired.hart.0 c.args.retired.fate r.started r.selected c.requires.can c.credit_each.new.credits c.start_again.new.credits c.start_each.new.credits
    credited c.start_again.ensures (c.start_each.ensures ∙ ap (λ (hs : List ℕ). with_starts hs c.start_again.new.credits) c.harts-2.ensures) in
    subst (AllRun c.start_each.new.credits) (sym c.harts-3.ensures)
    (raisers_run c.args.credits.now r.guest c.args.retired.hart.0 c.args.retired.fate r.started r.selected c.requires.can c.start_each.new.credits started)

pub returns : goal.returns
returns c =
    let r = c.args.engine.now in
    let ticks : ℕ → ℕ = raise_ticks r.guest c.args.speedup in
    let credited = c.credit_each.ensures ∙ ap (λ (hs : List ℕ). with_credits hs c.args.credits.now) c.harts.ensures in
    let started = started_is c.args.credits.now r.guest c.args.retired.hart.0 c.args.retired.fate r.started r.selected c.requires.can c.credit_each.new.credits c.start_again.new.credits c.start_each.new.credits
    credited c.start_again.ensures (c.start_each.ensures ∙ ap (λ (hs : List ℕ). with_starts hs c.start_again.new.credits) c.harts-2.ensures) in
    c.raise_harts.ensures
    ∙ ap (λ (hs : List ℕ). with_raises ticks hs c.start_each.new.credits) c.harts-3.ensures
    ∙ ap (with_raises ticks r.selected) started
