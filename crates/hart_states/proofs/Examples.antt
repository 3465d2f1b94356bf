-- Hart 0 makes hart 1 at 300, waits from 500 on, is woken by hart 1 at 900, and has a core at 950;
-- hart 1 exits then.
use Rattle.std.proofs.Common.{◌≡◌, ℕ, List, [], ◌∷◌, map, refl, Some}
use Rattle.hart_states.specs.declared.change.Activity.{Activity}
use Rattle.hart_states.specs.declared.change.Activity.TheVariants.{Running, Waiting, Ready, Gone}
use Rattle.hart_states.specs.declared.change.Change.{Change}
use Rattle.hart_states.specs.declared.change.Interval.{Interval}
use Rattle.hart_states.specs.Changes.{intervals, intervals_of, made_at, ticks_in}

abbrev pub change : ℕ → Activity → ℕ → ℕ → Change
change h a moment by = record { hart = record { 0 = h }; to = a; moment = moment; by = record { 0 = by }; place = 0 }

abbrev pub run : List Change
run =
    change 0 Running 950 1
    ∷ change 1 Gone 950 1
    ∷ change 0 Ready 900 1
    ∷ change 0 Waiting 500 0
    ∷ change 1 Running 300 0
    ∷ change 1 Ready 300 0
    ∷ change 0 Running 0 0
    ∷ []

runs_of_0 : ticks_in Running 0 1200 run ≡ 750
runs_of_0 = refl

waits_of_0 : ticks_in Waiting 0 1200 run ≡ 400
waits_of_0 = refl

ready_of_0 : ticks_in Ready 0 1200 run ≡ 50
ready_of_0 = refl

runs_of_1 : ticks_in Running 1 1200 run ≡ 650
runs_of_1 = refl

made_of_1 : made_at 1 run ≡ Some 300
made_of_1 = refl

-- hart 1 stood in line for no time, which is no interval
ends : map (λ (i : Interval). i.to.moment) (intervals run) ≡ 500 ∷ 900 ∷ 950 ∷ 950 ∷ []
ends = refl

of_0 : map (λ (i : Interval). i.from.moment) (intervals_of 0 run) ≡ 0 ∷ 500 ∷ 900 ∷ []
of_0 = refl

of_1 : map (λ (i : Interval). i.from.moment) (intervals_of 1 run) ≡ 300 ∷ []
of_1 = refl
