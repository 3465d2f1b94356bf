-- The ticks for which a hart of a run on cores was ready: it could run, and had no core, so it
-- stood in line for one.
use Rattle.std.specs.Prelude.{ℕ, zero, suc, ◌+◌, ◌-◌, List, if◌then◌else◌}
use Rattle.machines.specs.Guest.{Experiment}
use Rattle.machines.specs.Places.{is_among}
use Rattle.machines.specs.Shortened.{shortened}
use Rattle.timing_laws.specs.Cores.{Cores}

-- who stands in line in a run, by its moves: `line n` from the moment `moment n` to the next one
pub record Course : Type 0 where
  pub moment : ℕ → ℕ
  pub line : ℕ → List ℕ

-- how long a hart stands in line over the first moves
abbrev pub waited : Course → ℕ → ℕ → ℕ
waited c hart zero = 0
waited c hart (suc n) =
    waited c hart n
    + (if is_among hart (c.line n) then c.moment (suc n) - c.moment n else 0)

-- the course of a run on cores: its moments are those of the last retirements, in net ticks
abbrev pub course : {G : Type 0} → Experiment (Cores G) → Course
course x = record {
  moment = λ n. (shortened x n).time;
  line = λ n. (shortened x n).guest.seats.ready;
}

-- the net ticks for which a hart is ready over the first moves of a run on cores
abbrev pub ready_ticks : {G : Type 0} → Experiment (Cores G) → ℕ → ℕ → ℕ
ready_ticks x hart moves = waited (course x) hart moves
