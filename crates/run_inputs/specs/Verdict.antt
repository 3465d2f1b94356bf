-- What follows the bytes of the program and the input that a request names.
use Rattle.std.specs.Prelude.{ℕ, List, [], Option, None, Some}
use Rattle.coz_types.specs.declared.TheConstants.{MAX_PROGRAM}
use Rattle.coz_files.specs.Held.{Held, file_at}
use Rattle.file_read.specs.Reading.{read_verdict}
use Rattle.line_index.specs.Lines.{Line}
use Rattle.line_index.specs.Listed.{lines_in}
use Rattle.coz_words.specs.declared.request.Request.{Request}
use Rattle.program_load.specs.Verdict.{Verdict, program_verdict}
use Rattle.run_inputs.specs.declared.inputs.TheConstants.{MAX_INPUT}
use Rattle.run_inputs.specs.Experiment.{Runs, experiment_by_table}

-- of a program's lines and its runs
abbrev pub Judging : Type 0
Judging = List Line → Runs → Verdict

-- on a program's file and an input
abbrev pub file_verdict : Judging → List ℕ → List ℕ → Verdict
file_verdict next file input =
    program_verdict file (λ image table.
    next (lines_in table image.areas) (experiment_by_table image table input))

-- of the input, which is empty if none is named
abbrev pub input_verdict : Option (List ℕ) → Held → (List ℕ → Verdict) → Verdict
input_verdict None held next = next []
input_verdict (Some path) held next = read_verdict MAX_INPUT path (file_at held path) next

-- of the program and the input that a request names, and of what follows their bytes
abbrev pub bytes_verdict : Request → Held → (List ℕ → List ℕ → Verdict) → Verdict
bytes_verdict asked held next =
    read_verdict MAX_PROGRAM asked.target (file_at held asked.target) (λ file.
    input_verdict asked.input held (next file))

-- of the program and the input that a request names, and of what follows
abbrev pub files_verdict : Request → Held → Judging → Verdict
files_verdict asked held next = bytes_verdict asked held (file_verdict next)
