-- Small cases by hand.
use Rattle.std.proofs.Common.{◌≡◌, ℕ, true, false, List, [], ◌∷◌, Some, None, refl}
use Rattle.machines.specs.declared.Fate.TheVariants.{Goes, Waits, Sleeps}
use Rattle.timing_laws.specs.Noted.{notes_after, first_note}
use Rattle.timing_laws.specs.Cores.{Seats, Turned, turned_by}

-- hart 0 on the only core makes hart 1, which finds none free
seats_alone : Seats
seats_alone = record { ready = []; on = 1; slice_ends = 700 ∷ [] }

clone_finds_none : turned_by 1 900 0 false (1 ∷ []) Goes seats_alone ≡ record {
  seats = record { ready = 1 ∷ []; on = 1; slice_ends = 700 ∷ [] };
  fate = Goes;
  others = [];
}
unfolding seats_alone
clone_finds_none = refl

-- with two cores it starts
clone_finds_one : turned_by 2 900 0 false (1 ∷ []) Goes seats_alone ≡ record {
  seats = record { ready = []; on = 2; slice_ends = 700 ∷ 900 ∷ [] };
  fate = Goes;
  others = 1 ∷ [];
}
unfolding seats_alone
clone_finds_one = refl

-- two harts on one core: the slice of hart 0 is over, and hart 1, the eldest in line, starts
slice_ends_here : turned_by 1 1400 0 true [] Goes (record { ready = 1 ∷ 2 ∷ []; on = 1; slice_ends = 700 ∷ [] }) ≡ record {
  seats = record { ready = 2 ∷ 0 ∷ []; on = 1; slice_ends = 700 ∷ 1400 ∷ [] };
  fate = Waits;
  others = 1 ∷ [];
}
slice_ends_here = refl

-- nobody waits, so it has a new slice
slice_begins_anew : turned_by 1 1400 0 true [] Goes seats_alone ≡ record {
  seats = record { ready = []; on = 1; slice_ends = 1400 ∷ [] };
  fate = Goes;
  others = [];
}
unfolding seats_alone
slice_begins_anew = refl

-- a hart that sleeps leaves its core to the first in line, and its slice ends with its sleep
sleep_frees : turned_by 1 1400 0 false [] (Sleeps 5000) (record { ready = 1 ∷ []; on = 1; slice_ends = 700 ∷ [] }) ≡ record {
  seats = record { ready = []; on = 1; slice_ends = 5000 ∷ 1400 ∷ [] };
  fate = Sleeps 5000;
  others = 1 ∷ [];
}
sleep_frees = refl

-- it wakes to a full core and runs at once; at its first retirement, its slice over, it stands in
-- line though nobody else does
wakes_to_full_cores : turned_by 1 6500 0 true [] Goes (record { ready = []; on = 2; slice_ends = 5000 ∷ 9000 ∷ [] }) ≡ record {
  seats = record { ready = 0 ∷ []; on = 1; slice_ends = 5000 ∷ 9000 ∷ [] };
  fate = Waits;
  others = [];
}
wakes_to_full_cores = refl

-- a made hart has the last line of its maker after the instruction that made it
made_has_last_line : notes_after (Some 7) 0 (1 ∷ []) (Some first_note ∷ []) ≡
    Some (record { last = Some 7; count = 1 }) ∷ Some (record { last = Some 7; count = 0 }) ∷ []
made_has_last_line = refl

-- a woken one keeps its own
woken_keeps_its_line : notes_after (Some 7) 0 (1 ∷ []) (Some first_note ∷ Some (record { last = Some 3; count = 9 }) ∷ []) ≡
    Some (record { last = Some 7; count = 1 }) ∷ Some (record { last = Some 3; count = 9 }) ∷ []
woken_keeps_its_line = refl
