use Rattle.std.proofs.Common.{◌≡◌, ℕ, List, ◌+◌, ◌≤◌, ◌∷◌, drop, get_or, ap, subst, sym, ◌∙◌}
use Rattle.delay_credits.specs.Delays.{Delays, with_raise}
use Rattle.run_engine.specs.Engine.{most_ticks}
use Rattle.virtual_run.specs.Credited.{raise_ticks, with_raises}
use Rattle.virtual_run.proofs.CreditedLists.{numbers, next_number, no_numbers, among_first, among_at, IsRaising, raised_one}
use Rattle.virtual_run.proofs.accounts.raise_harts.Goals as goal

pub raised_by-requires-clause-made : goal.raised_by-requires-clause-made
raised_by-requires-clause-made c =
    c.requires.made (get_or c.args.harts.now c.loop-hart.hart-index (record { 0 = 0 })).0 (among_at c.args.harts.now c.loop-hart.hart-index c.loop-hart-test.true)

pub raise-requires-clause-below : goal.raise-requires-clause-below
raise-requires-clause-below c =
    let hart : ℕ = (get_or c.args.harts.now c.loop-hart.hart-index (record { 0 = 0 })).0 in
    let rest : List ℕ = numbers (drop (c.loop-hart.hart-index + 1) c.args.harts.now) in
    (c.loop-hart.invariant.run hart (rw (next_number c.args.harts.now c.loop-hart.hart-index c.loop-hart-test.true) (among_first hart rest))).below

pub raise-requires-clause-running : goal.raise-requires-clause-running
raise-requires-clause-running c =
    let hart : ℕ = (get_or c.args.harts.now c.loop-hart.hart-index (record { 0 = 0 })).0 in
    let rest : List ℕ = numbers (drop (c.loop-hart.hart-index + 1) c.args.harts.now) in
    (c.loop-hart.invariant.run hart (rw (next_number c.args.harts.now c.loop-hart.hart-index c.loop-hart-test.true) (among_first hart rest))).runs

pub loop-hart-preserved : goal.loop-hart-preserved
loop-hart-preserved c =
    let ticks : ℕ → ℕ = raise_ticks c.args.guest.now c.args.speedup in
    let most : ℕ = most_ticks c.args.guest.now.beside.timing in
    let goal_is : Delays = with_raises ticks (numbers c.args.harts.now) c.args.credits.now in
    let hart : ℕ = (get_or c.args.harts.now c.loop-hart.hart-index (record { 0 = 0 })).0 in
    let rest : List ℕ = numbers (drop (c.loop-hart.hart-index + 1) c.args.harts.now) in
    let now : IsRaising most ticks c.args.now goal_is (hart ∷ rest) c.loop-hart.credits =
    subst (λ (left : List ℕ). IsRaising most ticks c.args.now goal_is left c.loop-hart.credits)
    (next_number c.args.harts.now c.loop-hart.hart-index c.loop-hart-test.true) c.loop-hart.invariant in
    let small : ticks hart ≤ most = subst (λ (n : ℕ). n ≤ most) c.raised_by.ensures.ticks c.raised_by.ensures.few in
    let is : c.raise.new.self ≡ with_raise hart (ticks hart) c.args.now c.loop-hart.credits = c.raise.ensures ∙ ap (λ (n : ℕ). with_raise hart n c.args.now c.loop-hart.credits) c.raised_by.ensures.ticks in
    subst (IsRaising most ticks c.args.now goal_is rest) (sym is)
    (raised_one most ticks hart c.args.now goal_is rest c.loop-hart.credits small now)

pub returns : goal.returns
returns c =
    subst (λ (left : List ℕ). with_raises (raise_ticks c.args.guest.now c.args.speedup) left c.loop-hart.credits ≡ with_raises (raise_ticks c.args.guest.now c.args.speedup) (numbers c.args.harts.now) c.args.credits.now)
    (no_numbers c.args.harts.now c.loop-hart.hart-index c.loop-hart-test.false) c.loop-hart.invariant.reaches
