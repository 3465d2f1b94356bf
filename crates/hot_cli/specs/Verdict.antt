-- What the arguments give, with the files that the paths hold: a status, a text for the output
-- and a line for the errors, after the program's name.
use Rattle.std.specs.Prelude.{ℕ, List, [], codes, Option, None, Some}
use Rattle.coz_files.specs.Held.{Held}
use Rattle.line_index.specs.Lines.{Line}
use Rattle.line_index.specs.Listed.{lines_in, position_in}
use Rattle.machines.specs.Standing.{delayed_record}
use Rattle.guest_calls.specs.Guest.{Guest}
pub use Rattle.command_texts.specs.Printed.{ended_verdict, has_exited}
pub use Rattle.program_load.specs.Verdict.{Verdict, refusal, program_verdict, named_verdict, points_verdict}
use Rattle.program_load.specs.Selection.{lines_named}
use Rattle.run_inputs.specs.Experiment.{experiment_by_table}
pub use Rattle.run_inputs.specs.Verdict.{Judging, bytes_verdict}
use Rattle.hot_lines.specs.HotRun.{Runs, hot_text, line_by, plain_run}
use Rattle.hot_cli.specs.declared.asked.HotRequest.{HotRequest}
use Rattle.hot_cli.specs.Words.{hot_request}

-- of a run that counted, and at most a given number of its lines
unfoldable pub hot_printed : HotRequest → Runs Guest → (ℕ → Option ℕ) → List Line → Verdict
hot_printed asked runs position lines =
    ended_verdict (delayed_record (plain_run runs asked.run.budget)).ending
    (hot_text asked.names asked.top asked.run.budget runs (line_by position) lines)

-- of a program's runs, where each address has the position of its line among these
abbrev pub hot_judging : HotRequest → (ℕ → Option ℕ) → Judging
hot_judging asked position lines runs =
    named_verdict (lines_named lines [] asked.run.progress) (λ named.
    points_verdict named (λ points.
    hot_printed asked (λ choice. runs choice points) position lines))

-- on a program's file and an input
abbrev pub hot_on : HotRequest → List ℕ → List ℕ → Verdict
hot_on asked file input =
    program_verdict file (λ image table.
    hot_judging asked (position_in table image.areas) (lines_in table image.areas)
    (experiment_by_table image table input))

-- of a request
abbrev pub hot_verdict : HotRequest → Held → Verdict
hot_verdict asked held = bytes_verdict asked.run held (hot_on asked)

-- of what the words ask for
abbrev pub request_verdict : Option HotRequest → Held → Verdict
request_verdict None held = refusal 2 (codes "usage")
request_verdict (Some asked) held = hot_verdict asked held

abbrev pub verdict : List (List ℕ) → Held → Verdict
verdict words held = request_verdict (hot_request words) held
