-- The lines that a request names, among the lines of a program.
use Rattle.std.specs.Prelude.{ℕ, List, length, Option, Some, None, Result, Ok, Err}
use Rattle.std.specs.List.{range_with_len}
use Rattle.coz_words.specs.Said.{Text}
use Rattle.experiment_plan.specs.Selected.{line_found, selected}
use Rattle.line_index.specs.Lines.{Line}

-- the position of the line that a text names, if there is a text; or the text, if it names none
abbrev pub line_named : List Line → Option Text → Result (Option ℕ) Text
line_named lines None = Ok None
line_named lines (Some text) = elim (line_found lines text) [
  | Some l ↦ Ok (Some l)
  | None ↦ Err text
]

-- the positions of the lines that a list names, or the usual ones if there is no list;
-- or the first piece that names none
abbrev pub lines_named : List Line → List ℕ → Option Text → Result (List ℕ) Text
lines_named lines usual None = Ok usual
lines_named lines usual (Some list) = selected lines list

-- the positions of all lines
abbrev pub all_lines : List Line → List ℕ
all_lines lines = range_with_len 0 (length lines)
