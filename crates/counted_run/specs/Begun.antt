-- The harts that an event of the engine begins, and what is counted of them.
use Rattle.std.specs.Prelude.{ℕ, ◌*◌, List, [], ◌∷◌, length, Option, Some, None}
use Rattle.coz_types.specs.declared.ending.Ending.{Ending}
use Rattle.timed_guest.specs.Guest.{Timed}
use Rattle.timed_guest.specs.Retire.{cycles_of_next, line_counted}
use Rattle.run_engine.specs.declared.engine.Engine.{Engine}
use Rattle.run_engine.specs.declared.engine.Event.{Event}
use Rattle.run_engine.specs.declared.engine.Event.TheVariants.{Woke, Retired}
use Rattle.run_engine.specs.Begin.{started_by}
use Rattle.run_counts.specs.Counts.{Counts, place_in, with_one}

-- with the next instruction of a hart
abbrev pub with_hart : Timed → Counts → ℕ → Counts
with_hart t c h =
    with_one (place_in (length c.lines) (line_counted t h)) (100 * cycles_of_next t h) c

-- these harts, unless the run has ended
abbrev pub unless_ended : Option Ending → List ℕ → List ℕ
unless_ended None harts = harts
unless_ended (Some ending) harts = []

-- the harts that begin with an event that has led to this engine
abbrev pub begun_by : Engine → Event → List ℕ
begun_by engine (Woke turn) = turn.hart.0 ∷ []
begun_by engine (Retired retired) =
    unless_ended engine.ending (started_by retired.hart.0 retired.fate engine.started)
