-- What a run with no line selected leaves on a machine of the timing model, and for how long each
-- of its harts was ready.
use Rattle.std.specs.Prelude.{◌≡◌, ℕ, ◌<◌, List, length, get_or, map, None, All}
use Rattle.coz_types.specs.declared.record.Visit.{Visit}
use Rattle.machines.specs.Guest.{Experiment, enough}
use Rattle.machines.specs.Shortened.{shortened}
use Rattle.machines.specs.Records.{NetRecord, shortened_record}
use Rattle.machines.specs.KeptVisits.{net_of}
use Rattle.timed_guest.specs.Guest.{Timed}
use Rattle.run_engine.specs.declared.choice.Choice.{Choice}
use Rattle.ready_ticks.specs.Ready.{Course, waited}
use Rattle.plain_run.specs.declared.run.PlainRun.{PlainRun as Left}

-- with no line selected, at speedup 0
abbrev pub plain_choice : Choice → Choice
plain_choice choice = record choice { selected = None; speedup = 0 }

-- who stands in line for a core in a run on a machine, by its moves
abbrev pub timed_course : Experiment Timed → Course
timed_course x = record {
  moment = λ n. (shortened x n).time;
  line = λ n. (shortened x n).guest.beside.seats.ready;
}

-- the ticks for which a hart is ready in a run: it could run, and stands in line for a core
abbrev pub ready_in : Experiment Timed → ℕ → ℕ
ready_in x hart = waited (timed_course x) hart (enough x)

-- how many harts were made in a run
abbrev pub harts_made : Experiment Timed → ℕ
harts_made x = length (shortened x (enough x)).guest.guest.harts

-- what was kept, as the record of a run that knows no delays
abbrev pub record_left : Left → NetRecord
record_left run = record {
  ending = run.outcome.ending;
  time = run.outcome.time;
  retired = run.outcome.retired;
  starts = run.outcome.starts;
  output = run.output.items;
  visits = map net_of run.visits.items;
}

-- each was kept with no delay
abbrev pub AreUndelayed : List Visit → Type 0
AreUndelayed visits = All (λ visit. visit.delay ≡ 0) visits

-- what the run of x leaves: nothing was delayed, so the net part of its record is all of it
pub record IsPlainRun (x : Experiment Timed) (run : Left) : Type 0 where
  pub net : record_left run ≡ shortened_record x
  pub delay : run.outcome.delay ≡ 0
  pub undelayed : AreUndelayed run.visits.items
  pub harts : length run.ready.items ≡ harts_made x
  pub ready : (hart : ℕ) → hart < harts_made x → get_or run.ready.items hart 0 ≡ ready_in x hart
