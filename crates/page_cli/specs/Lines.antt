-- The lines of a page: those of some files, their labels and their texts.
use Rattle.std.specs.Prelude.{ℕ, ◌-◌, Bool, true, ◌||◌, ◌==◌, nat_eq, List, [], ◌++◌, codes, decimal, take, get_or, Option, Some, None, if◌then◌else◌}
use Rattle.std.specs.List.{slice_split, starts_with, ends_with}
use Rattle.coz_types.specs.Labels.{Text, path_of, number_of}
use Rattle.page_values.specs.Labels.{html}
use Rattle.page_values.specs.Sources.{Answers}
use Rattle.page_cli.specs.declared.source_lines.TheConstants.{MAX_SHOWN_LINE}

-- the path of the label begins or ends with the pattern
abbrev pub is_of_file : Option Text → Text → Bool
is_of_file None label = true
is_of_file (Some pattern) label =
    starts_with nat_eq (path_of label) pattern || ends_with nat_eq (path_of label) pattern

-- ---- labels

-- the number is not broken over two lines
abbrev pub numbered_text : Text → ℕ → Text
numbered_text path number = html path ++ codes "<span>:" ++ decimal number ++ codes "</span>"

-- a label that is read
abbrev pub label_text : Text → Text
label_text label =
    if number_of label == 0 then html label else numbered_text (path_of label) (number_of label)

-- ---- a line of a text

abbrev pub is_newline : ℕ → Bool
is_newline b = b == 10

-- the text, cut at each newline
abbrev pub lines_in : Text → List Text
lines_in text = slice_split is_newline text

abbrev pub lines_left : Option Text → List Text
lines_left None = []
lines_left (Some text) = lines_in text

-- the line of a number, from 1; no bytes if the text has no such line
abbrev pub line_in : ℕ → Text → Text
line_in n text = if n == 0 then [] else get_or (lines_in text) (n - 1) []

-- the line of a label, at most 120 bytes of it
abbrev pub line_beside : Answers → Text → Text
line_beside answers label = take MAX_SHOWN_LINE (line_in (number_of label) (answers (path_of label)))
