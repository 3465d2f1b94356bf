-- The ending that a retirement may bring.
use Rattle.std.specs.Prelude.{ℕ, Bool, not, ◌||◌, nat_le, List, [], ◌∷◌, Option}
use Rattle.coz_types.specs.declared.ending.Ending.{Ending}
use Rattle.coz_types.specs.declared.ending.Ending.TheVariants.{OutputFull, VisitsFull, Stalled, Spent}
use Rattle.machines.specs.declared.Fate.{Fate}
use Rattle.machines.specs.Guest.{goes_on, own_ending, ending_if, first_ending}
use Rattle.machines.specs.Delayed.{is_any}
use Rattle.machines.specs.Shortened.{has_due_any}
use Rattle.hart_schedule.specs.Keys.{Keys}

-- how a run ends with a retirement of this fate: by whether the output and the visits are full,
-- whether some hart runs after it, and the number of retired instructions
abbrev pub ending_of : Fate → Bool → Bool → Bool → ℕ → ℕ → Option Ending
ending_of fate output_full visits_full some_hart_runs retired budget =
    first_ending
    (own_ending fate
    ∷ ending_if output_full OutputFull
    ∷ ending_if visits_full VisitsFull
    ∷ ending_if (not some_hart_runs) Stalled
    ∷ ending_if (nat_le budget retired) Spent
    ∷ [])

-- some hart runs after a retirement of this fate: the retiring one, one that it made or woke,
-- or one of these others
abbrev pub runs_after : Fate → List ℕ → Keys → Bool
runs_after fate started others = goes_on fate || is_any started || has_due_any others
