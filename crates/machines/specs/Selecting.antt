-- Experiments that differ in what is selected.
use Rattle.std.specs.Prelude.{ℕ, Bool}
use Rattle.machines.specs.Guest.{Experiment}
use Rattle.machines.specs.Delayed.{Delayed}
use Rattle.machines.specs.Records.{Record}

-- the same guest with other instructions selected
abbrev pub selecting : {G : Type 0} → (G → ℕ → Bool) → Experiment G → Experiment G
selecting test x = record x { guest = record x.guest { is_selected = test } }

-- a state in which no selected start was counted
abbrev pub uncounted : {G : Type 0} → Delayed G → Delayed G
uncounted d = record d { starts = 0 }

-- a record in which no selected start was counted
abbrev pub uncounted_record : Record → Record
uncounted_record r = record r { starts = 0 }
