-- The laws of the events of a run.
use Rattle.std.specs.Prelude.{◌≡◌, ℕ, ◌≤◌, List, Option}
use Rattle.coz_types.specs.declared.TheConstants.{MAX_SPEEDUP}
use Rattle.coz_types.specs.Image.{ImageParts}
use Rattle.line_index.specs.Index.{Index, position_at}
use Rattle.guest_calls.specs.Guest as guests
use Rattle.timing_model.specs.declared.timing.Timing.{Timing}
use Rattle.timing_model.specs.Timing.{IsUsual}
use Rattle.timed_guest.specs.Guest.{pc_of}
use Rattle.run_engine.specs.declared.choice.Choice.{Choice}
use Rattle.run_engine.specs.Run.{experiment, timed_experiment}
use Rattle.critical_path.specs.Events.{events_of}

-- on a usual machine the events of a run are those of the guest alone
abbrev pub UsualEventsAreAlone : Type 0
UsualEventsAreAlone =
    (t : Timing) → IsUsual t → (image : ImageParts) (index : Index) (point : ℕ → Option ℕ)
    (input : List ℕ) (choice : Choice) → choice.speedup ≤ MAX_SPEEDUP
    → events_of (timed_experiment t image index point input choice) pc_of
    ≡ events_of (experiment image (position_at index) point input choice) guests.pc_of
