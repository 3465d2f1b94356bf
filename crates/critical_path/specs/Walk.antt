-- The run whose events are walked: no line is selected, and there are no progress points. `plain` is
-- the run of the guest alone, and `plain_on` that on a machine of the timing model.
use Rattle.std.specs.Prelude.{◌≡◌, ℕ, List, length, None}
use Rattle.coz_types.specs.declared.ending.Ending.{Ending}
use Rattle.coz_types.specs.declared.TheConstants.{MAX_VISITS}
use Rattle.coz_types.specs.Image.{ImageParts}
use Rattle.machines.specs.Guest.{Experiment}
use Rattle.machines.specs.Records.{shortened_record}
use Rattle.guest_memory.specs.declared.Layout.{Layout}
use Rattle.guest_calls.specs.Guest as guests
use Rattle.line_index.specs.Index.{Index}
use Rattle.timing_model.specs.declared.timing.Timing.{Timing}
use Rattle.timed_guest.specs.Guest.{Timed}
use Rattle.run_engine.specs.declared.choice.Choice.{Choice}
use Rattle.run_engine.specs.declared.choice.Setting.{Setting}
use Rattle.run_engine.specs.declared.engine.Engine.{Engine}
use Rattle.run_engine.specs.Engine.{IsFirst}
use Rattle.run_engine.specs.Run.{experiment, timed_experiment}
use Rattle.path_chains.specs.declared.event.Event.{Event}
use Rattle.path_chains.specs.declared.event.Trace.{Trace}
use Rattle.path_chains.specs.Path.{event_at, last_of, Linked}
use Rattle.critical_path.specs.Events.{events_of, retirements_of, AreBefores, AreFroms}

-- no line is selected; the limit of visits is that of the commands
abbrev pub plain_choice : ℕ → ℕ → Layout → Choice
plain_choice budget output_limit layout = record {
  selected = None;
  speedup = 0;
  budget = budget;
  output_limit = output_limit;
  visit_limit = MAX_VISITS;
  layout = layout;
}

abbrev pub plain : ImageParts → List ℕ → ℕ → ℕ → Layout → Experiment guests.Guest
plain image input budget output_limit layout =
    experiment image (λ _. None) (λ _. None) input (plain_choice budget output_limit layout)

-- the same on a machine; the index has the lines of the image
abbrev pub plain_on : Timing → ImageParts → Index → List ℕ → ℕ → ℕ → Layout → Experiment Timed
plain_on timing image index input budget output_limit layout =
    timed_experiment timing image index (λ _. None) input (plain_choice budget output_limit layout)

-- a trace of these events, with this ending and output
pub record IsMadeOf (trace : Trace) (end : Ending) (list : List Event)
    (bytes : List ℕ) : Type 0 where
  pub events : trace.events ≡ list
  pub ending : trace.ending ≡ end
  pub output : trace.output ≡ bytes

-- the trace of a run; `place` gives the address of a hart's next instruction
pub record IsTraceOf {G : Type 0} (x : Experiment G) (place : G → ℕ → ℕ)
    (trace : Trace) : Type 0 where
  pub events : trace.events ≡ events_of x place
  pub ending : trace.ending ≡ (shortened_record x).ending
  pub output : trace.output ≡ (shortened_record x).output
  pub linked : Linked trace.events
  pub many : length trace.events ≡ (shortened_record x).retired
  pub whole : (event_at trace.events (last_of trace.events)).due ≡ (shortened_record x).time
  pub befores : AreBefores trace.events
  pub froms : AreFroms (retirements_of x) trace.events

-- the engine begins the run of some image on some input
pub record IsFirstOfSome (setting : Setting) (engine : Engine) : Type 0 where
  pub image : ImageParts
  pub input : List ℕ
  pub first : IsFirst setting image input engine
