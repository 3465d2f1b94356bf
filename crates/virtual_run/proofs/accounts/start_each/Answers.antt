use Rattle.std.proofs.Common.{◌≡◌, ℕ, List, ◌+◌, ◌∷◌, drop, get_or, subst, sym}
use Rattle.delay_credits.specs.Delays.{Delays}
use Rattle.virtual_run.specs.Credited.{with_starts}
use Rattle.virtual_run.proofs.CreditedLists.{numbers, next_number, no_numbers, among_first, IsStarting, started_one}
use Rattle.virtual_run.proofs.accounts.start_each.Goals as goal

pub start-requires-clause-below : goal.start-requires-clause-below
start-requires-clause-below c =
    let hart : ℕ = (get_or c.args.harts.now c.loop-hart.hart-index (record { 0 = 0 })).0 in
    let rest : List ℕ = numbers (drop (c.loop-hart.hart-index + 1) c.args.harts.now) in
    c.loop-hart.invariant.below hart (rw (next_number c.args.harts.now c.loop-hart.hart-index c.loop-hart-test.true) (among_first hart rest))

pub loop-hart-preserved : goal.loop-hart-preserved
loop-hart-preserved c =
    let goal_is : Delays = with_starts (numbers c.args.harts.now) c.args.credits.now in
    let hart : ℕ = (get_or c.args.harts.now c.loop-hart.hart-index (record { 0 = 0 })).0 in
    let rest : List ℕ = numbers (drop (c.loop-hart.hart-index + 1) c.args.harts.now) in
    let now : IsStarting c.args.now goal_is (hart ∷ rest) c.loop-hart.credits =
    subst (λ (left : List ℕ). IsStarting c.args.now goal_is left c.loop-hart.credits)
    (next_number c.args.harts.now c.loop-hart.hart-index c.loop-hart-test.true) c.loop-hart.invariant in
    subst (IsStarting c.args.now goal_is rest) (sym c.start.ensures)
    (started_one hart c.args.now goal_is rest c.loop-hart.credits now)

pub returns : goal.returns
returns c =
    subst (λ (left : List ℕ). with_starts left c.loop-hart.credits ≡ with_starts (numbers c.args.harts.now) c.args.credits.now)
    (no_numbers c.args.harts.now c.loop-hart.hart-index c.loop-hart-test.false) c.loop-hart.invariant.reaches
