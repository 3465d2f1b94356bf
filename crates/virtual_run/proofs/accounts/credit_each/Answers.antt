use Rattle.std.proofs.Common.{◌≡◌, ℕ, List, ◌+◌, ◌∷◌, drop, get_or, subst, sym}
use Rattle.delay_credits.specs.Delays.{Delays}
use Rattle.virtual_run.specs.Credited.{with_credits}
use Rattle.virtual_run.proofs.CreditedLists.{numbers, next_number, no_numbers, among_first, IsCrediting, credited_one}
use Rattle.virtual_run.proofs.accounts.credit_each.Goals as goal

pub take_credit-requires-clause-woken_below : goal.take_credit-requires-clause-woken_below
take_credit-requires-clause-woken_below c =
    let hart : ℕ = (get_or c.args.harts.now c.loop-hart.hart-index (record { 0 = 0 })).0 in
    let rest : List ℕ = numbers (drop (c.loop-hart.hart-index + 1) c.args.harts.now) in
    (c.loop-hart.invariant.rest hart (rw (next_number c.args.harts.now c.loop-hart.hart-index c.loop-hart-test.true) (among_first hart rest))).below

pub take_credit-requires-clause-waits : goal.take_credit-requires-clause-waits
take_credit-requires-clause-waits c =
    let hart : ℕ = (get_or c.args.harts.now c.loop-hart.hart-index (record { 0 = 0 })).0 in
    let rest : List ℕ = numbers (drop (c.loop-hart.hart-index + 1) c.args.harts.now) in
    (c.loop-hart.invariant.rest hart (rw (next_number c.args.harts.now c.loop-hart.hart-index c.loop-hart-test.true) (among_first hart rest))).rests

pub loop-hart-preserved : goal.loop-hart-preserved
loop-hart-preserved c =
    let goal_is : Delays = with_credits (numbers c.args.harts.now) c.args.credits.now in
    let hart : ℕ = (get_or c.args.harts.now c.loop-hart.hart-index (record { 0 = 0 })).0 in
    let rest : List ℕ = numbers (drop (c.loop-hart.hart-index + 1) c.args.harts.now) in
    let now : IsCrediting c.args.waker.0 goal_is (hart ∷ rest) c.loop-hart.credits =
    subst (λ (left : List ℕ). IsCrediting c.args.waker.0 goal_is left c.loop-hart.credits)
    (next_number c.args.harts.now c.loop-hart.hart-index c.loop-hart-test.true) c.loop-hart.invariant in
    subst (IsCrediting c.args.waker.0 goal_is rest) (sym c.take_credit.ensures)
    (credited_one c.args.waker.0 hart goal_is rest c.loop-hart.credits now)

pub returns : goal.returns
returns c =
    subst (λ (left : List ℕ). with_credits left c.loop-hart.credits ≡ with_credits (numbers c.args.harts.now) c.args.credits.now)
    (no_numbers c.args.harts.now c.loop-hart.hart-index c.loop-hart-test.false) c.loop-hart.invariant.reaches
