-- The runs of a program on the machines of the timing model. The guest is coz's, with three
-- wrappers: the costs of the machine, the notes of each hart (its last line and its count), and
-- the cores. No machine is defined anew: these are the delayed and the shortened machine of
-- `machines`, over another guest.
use Rattle.std.specs.Prelude.{◌≡◌, ℕ, ◌≤◌, List, Option, None}
use Rattle.coz_types.specs.Image.{ImageParts}
use Rattle.line_index.specs.Index.{Index, position_at}
use Rattle.machines.specs.Guest.{Experiment}
use Rattle.machines.specs.Delayed.{delayed}
use Rattle.machines.specs.Records.{IsDelayed, IsShortened, net, shortened_record}
use Rattle.machines.specs.Standing.{delayed_record}
use Rattle.guest_calls.specs.Guest.{Guest, is_running}
use Rattle.run_engine.specs.declared.choice.Choice.{Choice}
use Rattle.run_engine.specs.Run.{IsChoice, experiment, timed_experiment, selected_line}
use Rattle.timing_laws.specs.Noted.{Noted, noting}
use Rattle.timing_laws.specs.Cores.{Cores, on_cores, count_below, IsTallied}
use Rattle.timing_model.specs.declared.timing.Timing.{Timing}
use Rattle.timing_model.specs.Timing.{IsUsual}
use Rattle.timed_guest.specs.Runs.{with_costs, noting_of, slicing_of}

-- The run of an image on an input on a machine of the timing model: `position` gives the line of
-- an address, `point` its progress point.
abbrev pub timed : Timing → ImageParts → (ℕ → Option ℕ) → (ℕ → Option ℕ) → List ℕ → Choice
    → Experiment (Cores (Noted Guest))
timed t image position point input choice =
    on_cores (slicing_of t)
    (noting (noting_of t position (selected_line choice))
    (with_costs t.costs (experiment image position point input choice)))

-- both machines end, and the net part of what the delayed one leaves is what the shortened
-- one leaves
pub record KeepsTheLaw {G : Type 0} (x : Experiment G) : Type 0 where
  pub delayed : IsDelayed x (delayed_record x)
  pub shortened : IsShortened x (shortened_record x)
  pub law : net (delayed_record x) ≡ shortened_record x

-- the law of virtual speedup, on each machine
abbrev pub TimedRunsKeepTheLaw : Type 0
TimedRunsKeepTheLaw =
    (t : Timing) (image : ImageParts) (position point : ℕ → Option ℕ) (input : List ℕ)
    (choice : Choice) → IsChoice choice → KeepsTheLaw (timed t image position point input choice)

-- the records are those of the run itself
pub record HasTheRecords {G H : Type 0} (x : Experiment G) (y : Experiment H) : Type 0 where
  pub delayed : delayed_record y ≡ delayed_record x
  pub shortened : shortened_record y ≡ shortened_record x

-- the usual machine is that of `coz profile`
abbrev pub UsualRunsAreTheRuns : Type 0
UsualRunsAreTheRuns =
    (t : Timing) → IsUsual t → (image : ImageParts) (position point : ℕ → Option ℕ)
    (input : List ℕ) (choice : Choice) → IsChoice choice
    → HasTheRecords (experiment image position point input choice)
    (timed t image position point input choice)

-- what the engine runs on a machine leaves what these definitions say of it
abbrev pub MachineRunsAreTimed : Type 0
MachineRunsAreTimed =
    (t : Timing) (image : ImageParts) (index : Index) (point : ℕ → Option ℕ)
    (input : List ℕ) (choice : Choice) → IsChoice choice
    → HasTheRecords (timed t image (position_at index) point input choice)
    (timed_experiment t image index point input choice)

-- how many harts run, each with a core or in line for one
abbrev pub running_harts : Guest → ℕ
running_harts g = count_below 256 (is_running g)

-- while the run goes on no core is free if a hart stands in line, and each hart that runs has a
-- core or stands in line
abbrev pub NoCoreIsIdle : Type 0
NoCoreIsIdle =
    (t : Timing) → 1 ≤ t.cores → (image : ImageParts) (position point : ℕ → Option ℕ)
    (input : List ℕ) (choice : Choice) → IsChoice choice → (moves : ℕ)
    → (delayed (timed t image position point input choice) moves).ending ≡ None
    → IsTallied t.cores (λ m. running_harts m.guest)
    (delayed (timed t image position point input choice) moves).guest
