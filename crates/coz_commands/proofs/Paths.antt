-- The critical path of a program's run is that of the run that is asked for.
use Rattle.std.proofs.Common.{◌≡◌, ℕ, List, [], length, None, Result, Ok, Err, IfOk, refl, sym, ap, ap₂, ◌∙◌}
use Rattle.std.specs.declared.alloc.AllocError.{AllocError}
use Rattle.coz_types.specs.Image.{ImageParts}
use Rattle.coz_types.specs.declared.ending.Ending.{Ending}
use Rattle.guest_calls.specs.Guest.{Guest, pc_of}
use Rattle.machines.specs.Guest.{Experiment}
use Rattle.machines.specs.Records.{shortened_record}
use Rattle.line_index.specs.Index.{Index, position_at}
use Rattle.progress_points.specs.Points.{point_in}
use Rattle.run_engine.specs.declared.choice.Choice.{Choice}
use Rattle.path_chains.specs.declared.event.Event.{Event}
use Rattle.path_chains.specs.declared.event.Trace.{Trace}
use Rattle.path_chains.specs.Path.{chain_of, event_at, last_of}
use Rattle.critical_path.specs.Events.{events_of}
use Rattle.critical_path.specs.Walk.{plain}
use Rattle.critical_path.proofs.Walking.{plain_is}
use Rattle.path_texts.specs.declared.texts.CriticalPath.{CriticalPath}
use Rattle.path_texts.specs.PathText.{events_on, path_text, written_path}
use Rattle.run_inputs.specs.Experiment.{choice_of, runs_in}
use Rattle.coz_commands.specs.CriticalPath.{path_printed, plain_run}
use Rattle.coz_commands.specs.Verdict.{Verdict, ended_verdict}

pub both_ok : (r : Result CriticalPath AllocError) (P Q R : CriticalPath → Type 0) → ((path : CriticalPath) → P path → Q path → R path) → IfOk r P → IfOk r Q → IfOk r R
both_ok (Ok path) P Q R all p q = all path p q
both_ok (Err e) P Q R all p q = p

module _ (image : ImageParts) (index : Index) (input : List ℕ) (budget : ℕ) (limits : Choice) (limits_are : limits ≡ choice_of None 0 budget) where
  -- the run that was walked
  abbrev pub walked : Experiment Guest
  walked = plain image input limits.budget limits.output_limit limits.layout

  abbrev asked : Experiment Guest
  asked = plain_run (runs_in image index input) budget

  same_run : walked ≡ asked
  same_run =
      ap (λ (c : Choice). plain image input c.budget c.output_limit c.layout) limits_are
      ∙ sym (plain_is image (position_at index) (point_in index.entries []) input budget (choice_of None 0 budget).output_limit (choice_of None 0 budget).layout (λ a. refl))

  -- what is printed of a run's ending, time, count and events
  abbrev told : Ending → ℕ → ℕ → List Event → Verdict
  told ending net retired events =
      ended_verdict ending (path_text ending net retired (events_on events (chain_of events)) (position_at index) index.lines)

  told_is : (x : Experiment Guest) → told (shortened_record x).ending (shortened_record x).time (shortened_record x).retired (events_of x pc_of) ≡ path_printed x (position_at index) index.lines
  unfolding path_printed
  told_is x = refl

  pub path_is : (trace : Trace) (path : CriticalPath)
      → trace.events ≡ events_of walked pc_of
      → trace.ending ≡ (shortened_record walked).ending
      → length trace.events ≡ (shortened_record walked).retired
      → (event_at trace.events (last_of trace.events)).due ≡ (shortened_record walked).time
      → path.trace.ending ≡ trace.ending
      → written_path path index ≡ path_text trace.ending (event_at trace.events (last_of trace.events)).due (length trace.events) (events_on trace.events (chain_of trace.events)) (position_at index) index.lines
      → ended_verdict path.trace.ending (written_path path index) ≡ path_printed asked (position_at index) index.lines
  path_is trace path events ending many whole same_ending same_text =
      let net : ℕ = (event_at trace.events (last_of trace.events)).due in
      ap₂ ended_verdict same_ending same_text
      ∙ ap (λ (e : Ending). told e net (length trace.events) trace.events) ending
      ∙ ap (λ (n : ℕ). told (shortened_record walked).ending n (length trace.events) trace.events) whole
      ∙ ap (λ (n : ℕ). told (shortened_record walked).ending (shortened_record walked).time n trace.events) many
      ∙ ap (told (shortened_record walked).ending (shortened_record walked).time (shortened_record walked).retired) events
      ∙ told_is walked
      ∙ ap (λ (x : Experiment Guest). path_printed x (position_at index) index.lines) same_run
