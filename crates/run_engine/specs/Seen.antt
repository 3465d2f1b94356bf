-- What contracts see of a run of a program.
use Rattle.std.specs.Prelude.{ℕ, List}
use Rattle.coz_types.specs.Image.{ImageParts}
use Rattle.line_index.specs.Index.{Index}
use Rattle.progress_points.specs.Points.{Points, point_of}
use Rattle.machines.specs.Guest.{Experiment}
use Rattle.timing_model.specs.declared.timing.Timing.{Timing}
use Rattle.timed_guest.specs.Guest.{Timed}
use Rattle.run_engine.specs.declared.choice.Choice.{Choice}
use Rattle.run_engine.specs.declared.choice.Setting.{Setting}
use Rattle.run_engine.specs.Run.{timed_experiment}

-- what is run, and the state that it is in: one of the delayed or of the shortened machine
pub record Seen (State : Type 0) : Type 0 where
  pub image : ImageParts
  pub index : Index
  pub points : Points
  pub timing : Timing
  pub input : List ℕ
  pub choice : Choice
  pub state : State

-- the run of a program, with these lines and points, on a machine, on an input by a choice,
-- in a state of its experiment
abbrev pub machine_view : {State : Type 0} → ImageParts → Index → Points → Timing → List ℕ
    → Choice → (Experiment Timed → State) → Seen State
machine_view image index points timing input choice state = record {
  image = image;
  index = index;
  points = points;
  timing = timing;
  input = input;
  choice = choice;
  state = state (timed_experiment timing image index (point_of points) input choice);
}

-- the same in a setting
abbrev pub view_in : {State : Type 0} → ImageParts → List ℕ → Setting
    → (Experiment Timed → State) → Seen State
view_in image input setting state =
    machine_view image setting.index.now setting.points.now setting.timing input setting.choice
    state

-- the run that is seen
abbrev pub experiment_of : {State : Type 0} → Seen State → Experiment Timed
experiment_of seen =
    timed_experiment seen.timing seen.image seen.index (point_of seen.points) seen.input seen.choice
