-- The run of a program: the machines over its guest, with a selected line and progress points.
-- `experiment` is that of the guest alone, as `coz` prints it, and `timed_experiment` that on a
-- machine of the timing model. On the usual machine both leave the same.
use Rattle.std.specs.Prelude.{ℕ, ◌≤◌, ◌<◌, Bool, List, filter, Option, option_map}
use Rattle.coz_types.specs.declared.TheConstants.{MAX_SPEEDUP, MAX_BUDGET, MAX_OUTPUT, MAX_VISITS}
use Rattle.coz_types.specs.Image.{ImageParts}
use Rattle.machines.specs.Guest.{Experiment}
use Rattle.line_index.specs.Index.{Index, position_at}
use Rattle.progress_points.specs.Points.{point_of}
use Rattle.guest_memory.specs.Regions.{IsLayout}
use Rattle.guest_calls.specs.Guest as guests
use Rattle.guest_calls.specs.Plug as guests_plug
use Rattle.timing_model.specs.declared.timing.Timing.{Timing}
use Rattle.timing_model.specs.Timing.{IsTiming, IsUsual}
use Rattle.timing_steps.specs.declared.ticks.TheConstants.{MAX_TIMED_BUDGET}
use Rattle.timing_steps.specs.Ticks.{timed_ticks}
use Rattle.timed_guest.specs.Guest.{Timed, first_guest}
use Rattle.timed_guest.specs.Plug.{plug}
use Rattle.timed_guest.specs.Retire.{cycles_of_next, is_selected_by}
pub use Rattle.timed_guest.specs.Retire.{has_selected}
use Rattle.run_engine.specs.declared.choice.Choice.{Choice}
use Rattle.run_engine.specs.declared.choice.Setting.{Setting}

-- within the limits
pub record IsChoice (c : Choice) : Type 0 where
  pub speedup : c.speedup ≤ MAX_SPEEDUP
  pub some_budget : 1 ≤ c.budget
  pub few : c.budget ≤ MAX_BUDGET
  pub some_output : 1 ≤ c.output_limit
  pub output : c.output_limit ≤ MAX_OUTPUT
  pub some_visits : 1 ≤ c.visit_limit
  pub visits : c.visit_limit ≤ MAX_VISITS
  pub layout : IsLayout c.layout

-- a machine on which a run may retire this many instructions: a run of more than 10^10 is one of
-- the usual machine, so that all of them take at most 2 * 10^16 ticks
pub record IsMachine (t : Timing) (budget : ℕ) : Type 0 where
  pub timing : IsTiming t
  pub long : MAX_TIMED_BUDGET < budget → IsUsual t

pub record IsSetting (setting : Setting) : Type 0 where
  pub choice : IsChoice setting.choice
  pub machine : IsMachine setting.timing setting.choice.budget

-- the number of the selected line
abbrev pub selected_line : Choice → Option ℕ
selected_line choice = option_map (λ line. line.0) choice.selected

-- the run of an image on an input by the guest alone: `position` gives the line of an address,
-- `point` its progress point
abbrev pub experiment : ImageParts → (ℕ → Option ℕ) → (ℕ → Option ℕ) → List ℕ
    → Choice → Experiment guests.Guest
experiment image position point input choice = record {
  guest = guests_plug.plug (has_selected (selected_line choice) position) point;
  first = guests.first_guest image input choice.output_limit choice.layout;
  speedup = choice.speedup;
  budget = choice.budget;
  visit_limit = choice.visit_limit;
  output_limit = choice.output_limit;
}

-- the run from a first state on a machine of the timing model
abbrev pub timed_from : Timed → (ℕ → Option ℕ) → Choice → Experiment Timed
timed_from first point choice = record {
  guest = plug (selected_line choice) point;
  first = first;
  speedup = choice.speedup;
  budget = choice.budget;
  visit_limit = choice.visit_limit;
  output_limit = choice.output_limit;
}

-- the run of an image on an input on such a machine; the index has the lines of the image
abbrev pub timed_experiment : Timing → ImageParts → Index → (ℕ → Option ℕ) → List ℕ
    → Choice → Experiment Timed
timed_experiment timing image index point input choice =
    timed_from (first_guest image input choice.output_limit choice.layout timing index) point choice

-- the run of an image on an input in a setting
abbrev pub experiment_in : ImageParts → List ℕ → Setting → Experiment Timed
experiment_in image input setting =
    timed_experiment setting.timing image setting.index.now (point_of setting.points.now) input
    setting.choice

-- whether an address has the selected line
abbrev pub is_selecting : Setting → ℕ → Bool
is_selecting setting = has_selected (selected_line setting.choice) (position_at setting.index.now)

-- whether a hart's next instruction has the selected line, or is charged to it
abbrev pub is_selected_in : Setting → Timed → ℕ → Bool
is_selected_in setting t hart = is_selected_by (selected_line setting.choice) t hart

-- the ticks of a hart's next instruction
abbrev pub ticks_in : Setting → Timed → ℕ → ℕ
ticks_in setting t hart =
    timed_ticks (cycles_of_next t hart) (is_selected_in setting t hart) setting.choice.speedup

-- of these harts, those whose next instruction has the selected line
abbrev pub selected_of : Setting → Timed → List ℕ → List ℕ
selected_of setting t = filter (is_selected_in setting t)
