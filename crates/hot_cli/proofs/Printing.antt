-- What is printed of a run that counted, by the index of a program's lines.
use Rattle.std.proofs.Common.{◌≡◌, ℕ, List, [], Option, ap, ap₂, ◌∙◌}
use Rattle.coz_types.specs.Image.{ImageParts}
use Rattle.machines.specs.Records.{Record}
use Rattle.machines.specs.Standing.{delayed_record}
use Rattle.line_index.specs.Index.{Index, position_at}
use Rattle.progress_points.specs.Points.{Points, IsPoints, point_of}
use Rattle.guest_calls.specs.Guest.{Guest}
use Rattle.timing_model.specs.declared.timing.Timing.{Timing}
use Rattle.timing_model.specs.Timing.{IsUsual}
use Rattle.timed_guest.specs.Guest.{Timed}
use Rattle.timed_guest.specs.Retire.{line_counted}
use Rattle.run_engine.specs.Run.{experiment, timed_experiment}
use Rattle.coz_words.specs.Said.{Text}
use Rattle.program_load.specs.Selection.{lines_named}
use Rattle.hot_cli.specs.declared.asked.HotRequest.{HotRequest}
use Rattle.hot_lines.specs.declared.left.HotRun.{HotRun}
use Rattle.hot_lines.specs.HotRun.{Runs, hot_text, hot_written, line_by, plain_run, runs_of}
use Rattle.hot_lines.proofs.Usual.{plain_same, text_same}
use Rattle.run_inputs.specs.Experiment.{runs_in}
use Rattle.hot_cli.specs.Verdict.{Verdict, ended_verdict, hot_judging, hot_printed, named_verdict, points_verdict}
use Rattle.run_inputs.proofs.Indexed.{points_are}

-- the runs on a machine
abbrev timed : Timing → ImageParts → Index → Points → List ℕ → Runs Timed
timed timing image index points input choice = timed_experiment timing image index (point_of points) input choice

module _ (asked : HotRequest) (image : ImageParts) (index : Index) (input : List ℕ) where
  -- with these points
  abbrev pub of_points : List ℕ → Verdict
  of_points points = hot_printed asked (λ choice. runs_in image index input choice points) (position_at index) index.lines

  -- of the points that a list names
  abbrev pub of_list : Option Text → Verdict
  of_list list = named_verdict (lines_named index.lines [] list) (λ named. points_verdict named of_points)

  pub list_is : (list : Option Text) → list ≡ asked.run.progress → of_list list ≡ hot_judging asked (position_at index) index.lines (runs_in image index input)
  list_is list is = ap of_list is

  printed_is : (runs : Runs Guest) (run : HotRun) → run.ending ≡ (delayed_record (plain_run runs asked.run.budget)).ending
      → hot_written asked.names index.lines run ≡ hot_text asked.names asked.top asked.run.budget runs (line_by (position_at index)) index.lines
      → ended_verdict run.ending (hot_written asked.names index.lines run) ≡ hot_printed asked runs (position_at index) index.lines
  unfolding hot_printed
  printed_is runs run ending text = ap₂ ended_verdict ending text

  -- the usual machine's run is that of the guest alone
  pub run_is : (points : Points) (timing : Timing) (run : HotRun) → IsUsual timing → IsPoints index points.lines points
      → run.ending ≡ (delayed_record (plain_run (timed timing image index points input) asked.run.budget)).ending
      → hot_written asked.names index.lines run ≡ hot_text asked.names asked.top asked.run.budget (timed timing image index points input) line_counted index.lines
      → ended_verdict run.ending (hot_written asked.names index.lines run) ≡ of_points points.lines
  run_is points timing run usual are ending text =
      printed_is (runs_of image index points input) run
      (ending ∙ ap (λ (r : Record). r.ending) (plain_same timing usual image index points input asked.run.budget))
      (text ∙ text_same timing usual image index points input asked.run.budget asked.names asked.top index.lines)
      ∙ ap (λ (point : ℕ → Option ℕ). hot_printed asked (λ choice. experiment image (position_at index) point input choice) (position_at index) index.lines) (points_are index points.lines points are)
