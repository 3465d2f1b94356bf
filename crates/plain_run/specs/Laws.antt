-- The laws of runs with no line selected.
use Rattle.std.specs.Prelude.{◌≡◌, ℕ, List, length, map, replicate, Option}
use Rattle.coz_types.specs.Image.{ImageParts}
use Rattle.line_index.specs.Index.{Index, position_at}
use Rattle.machines.specs.Delayed.{Account, Visit}
use Rattle.machines.specs.Guest.{Experiment, enough}
use Rattle.machines.specs.Shortened.{NetVisit, shortened}
use Rattle.machines.specs.Records.{Record, NetRecord, shortened_record}
use Rattle.machines.specs.Standing.{delayed_record}
use Rattle.guest_calls.specs.Guest.{Guest}
use Rattle.timing_laws.specs.Noted.{Noted}
use Rattle.timing_laws.specs.Cores.{Cores}
use Rattle.timing_model.specs.declared.timing.Timing.{Timing}
use Rattle.timed_guest.specs.Guest.{Timed}
use Rattle.run_engine.specs.declared.choice.Choice.{Choice}
use Rattle.run_engine.specs.Run.{IsChoice, timed_experiment}
use Rattle.guest_timing.specs.Timed.{timed}
use Rattle.ready_ticks.specs.Ready.{ready_ticks}
use Rattle.plain_run.specs.PlainRun.{harts_made, plain_choice, ready_in}

-- ---- the record of a run

abbrev pub no_account : Account
no_account = record { own = 0; paused = 0; credited = 0 }

abbrev pub undelayed_visit : NetVisit → Visit
undelayed_visit v = record { point = v.point; hart = v.hart; time = v.time; delay = 0 }

-- what a run leaves in which nothing is delayed, with accounts of this many harts
abbrev pub undelayed_record : ℕ → NetRecord → Record
undelayed_record harts r = record {
  ending = r.ending;
  time = r.time;
  delay = 0;
  retired = r.retired;
  starts = r.starts;
  output = r.output;
  visits = map undelayed_visit r.visits;
  accounts = replicate harts no_account;
}

-- the delayed machine leaves this on each machine if no line is selected
abbrev pub PlainRunsAreUndelayed : Type 0
PlainRunsAreUndelayed =
    (t : Timing) (image : ImageParts) (index : Index) (point : ℕ → Option ℕ) (input : List ℕ)
    (choice : Choice) → IsChoice choice
    → let x = timed_experiment t image index point input (plain_choice choice) in
    delayed_record x
    ≡ undelayed_record (length (delayed_record x).accounts) (shortened_record x)

-- ---- the harts of a run

-- what the engine's run of x says of its harts is what the guest with the machine's costs, with
-- notes, on cores says of them
pub record IsOnCores (x : Experiment Timed) (y : Experiment (Cores (Noted Guest))) : Type 0 where
  pub ready : (hart : ℕ) → ready_in x hart ≡ ready_ticks y hart (enough y)
  pub harts : harts_made x ≡ length (shortened y (enough y)).guest.guest.guest.harts

abbrev pub PlainRunsAreOnCores : Type 0
PlainRunsAreOnCores =
    (t : Timing) (image : ImageParts) (index : Index) (point : ℕ → Option ℕ) (input : List ℕ)
    (choice : Choice) → IsChoice choice
    → IsOnCores (timed_experiment t image index point input choice)
    (timed t image (position_at index) point input choice)
