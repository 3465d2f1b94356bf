-- The runs of a subject: the experiment of a choice.
use Rattle.machines.specs.Guest.{Experiment}
use Rattle.guest_calls.specs.Guest.{Guest}
use Rattle.line_index.specs.Index.{position_at}
use Rattle.timed_guest.specs.Guest.{Timed}
use Rattle.progress_points.specs.Points.{point_of}
use Rattle.run_engine.specs.declared.choice.Choice.{Choice}
use Rattle.run_engine.specs.Run.{experiment, timed_experiment}
use Rattle.run_subject.specs.declared.Subject.{Subject}

-- on its machine
abbrev pub experiment_on : Subject → Choice → Experiment Timed
experiment_on s choice =
    timed_experiment s.timing s.image.now s.index.now (point_of s.points.now) s.input.now choice

-- by the guest alone, as on the usual machine
abbrev pub experiment_alone : Subject → Choice → Experiment Guest
experiment_alone s choice =
    experiment s.image.now (position_at s.index.now) (point_of s.points.now) s.input.now choice
