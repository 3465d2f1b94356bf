-- The latency of a run that is forked from a lead.
use Rattle.std.specs.Prelude.{ℕ, List, None}
use Rattle.coz_types.specs.Image.{ImageParts}
use Rattle.coz_types.specs.declared.PointId.{PointId}
use Rattle.line_index.specs.Index.{Index}
use Rattle.progress_points.specs.Points.{Points}
use Rattle.machines.specs.Lead.{Before, at_speedup}
use Rattle.machines.specs.Records.{NetRecord, net}
use Rattle.machines.specs.Standing.{delayed_record}
use Rattle.timing_model.specs.declared.timing.Timing.{Timing}
use Rattle.timed_guest.specs.Guest.{Timed}
use Rattle.run_engine.specs.declared.choice.Choice.{Choice}
use Rattle.run_engine.specs.Seen.{Seen, experiment_of}
use Rattle.latency_points.specs.Latency.{latency_of}
use Rattle.latency_points.specs.Moments.{numbers_of, moments_of}
use Rattle.coz_commands.specs.declared.measuring.RunLatency.{RunLatency}

-- of a run that left this net record, whose requests arrive and depart at these points:
-- how it ended, its net time, and the latency up to that
abbrev pub measured_in : List PointId → List PointId → NetRecord → RunLatency
measured_in arrive depart run = record {
  ending = run.ending;
  net = run.time;
  latency = latency_of (moments_of (numbers_of arrive) (numbers_of depart) run.visits) run.time;
}

-- the net part of the record of a lead's line at a speedup
abbrev pub run_at : Seen (Before Timed) → ℕ → NetRecord
run_at lead speedup = net (delayed_record (at_speedup speedup (experiment_of lead)))

-- what a run is made with, apart from the selected line and the speedup
abbrev pub arguments_of : ImageParts → Index → Points → Timing → List ℕ → Choice
    → Seen (Unit {0})
arguments_of image index points timing input choice = record {
  image = image;
  index = index;
  points = points;
  timing = timing;
  input = input;
  choice = record choice { selected = None; speedup = 0 };
  state = tt;
}
