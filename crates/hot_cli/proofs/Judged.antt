-- Which answers a request may have.
use Rattle.std.proofs.Common.{◌≡◌, ℕ, List, [], Option, Ok, Err, inl}
use Rattle.line_index.specs.Lines.{Line}
use Rattle.line_index.specs.Listed.{lines_in, position_in}
use Rattle.machines.specs.Standing.{delayed_record}
use Rattle.guest_calls.specs.Guest.{Guest}
use Rattle.coz_words.specs.declared.request.Request.{Request}
use Rattle.program_load.specs.Selection.{lines_named}
use Rattle.run_inputs.specs.Experiment.{Runs, experiment_by_table}
use Rattle.run_inputs.proofs.Judged.{Judged, fault_of_request, judged_named, judged_points, judged_program, low}
use Rattle.hot_lines.specs.HotRun.{plain_run}
use Rattle.hot_lines.specs.HotRun as counting
use Rattle.hot_cli.specs.declared.asked.HotRequest.{HotRequest}
use Rattle.hot_cli.specs.Answer.{Answer, IsMemory, FailedToRead, Suits, verdict_of}
use Rattle.hot_cli.specs.Verdict.{Verdict, has_exited, hot_judging, hot_on, hot_printed}

judged_printed : (asked : HotRequest) (runs : counting.Runs Guest) (position : ℕ → Option ℕ) (lines : List Line) → Judged (hot_printed asked runs position lines)
unfolding hot_printed
judged_printed asked runs position lines = inl (low (has_exited (delayed_record (plain_run runs asked.run.budget)).ending))

judged_run : (asked : HotRequest) (position : ℕ → Option ℕ) (lines : List Line) (runs : Runs) → Judged (hot_judging asked position lines runs)
judged_run asked position lines runs =
    judged_named (lines_named lines [] asked.run.progress) _ (λ named.
    judged_points named _ (λ points.
    judged_printed asked (λ choice. runs choice points) position lines))

judged_file : (asked : HotRequest) (file input : List ℕ) → Judged (hot_on asked file input)
judged_file asked file input =
    judged_program file _ (λ image table.
    judged_run asked (position_in table image.areas) (lines_in table image.areas) (experiment_by_table image table input))

suits_of : (asked : Request) (v : Verdict) → Judged v → (answer : Answer) → (FailedToRead answer → ⊥) → ((IsMemory answer → ⊥) → verdict_of answer ≡ v) → Suits asked answer
suits_of asked v judged (Ok hot) no_read settled = tt
suits_of asked v judged (Err fault) no_read settled = fault_of_request asked v judged fault no_read settled

pub suits_file : (asked : HotRequest) (file input : List ℕ) (answer : Answer) → (FailedToRead answer → ⊥)
    → ((IsMemory answer → ⊥) → verdict_of answer ≡ hot_on asked file input) → Suits asked.run answer
suits_file asked file input answer = suits_of asked.run (hot_on asked file input) (judged_file asked file input) answer
