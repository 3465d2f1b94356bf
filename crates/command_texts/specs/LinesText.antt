-- The text of an index's lines.
use Rattle.std.specs.Prelude.{◌≡◌, ℕ, List, [], ◌∷◌, ◌++◌, codes, slice_get, Some}
use Rattle.line_index.specs.Lines.{Line}
use Rattle.line_index.specs.Index.{Index}
use Rattle.profile_book.specs.Pieces.{number_line}
use Rattle.command_texts.specs.Text.{line_text}

-- of each line with its entries
abbrev pub each_text : List Line → List (List ℕ) → List ℕ
each_text [] entries = []
each_text (line ∷ lines) [] = []
each_text (line ∷ lines) (es ∷ entries) = line_text line es ++ each_text lines entries

abbrev pub index_text : ℕ → Index → List ℕ
index_text skipped index =
    number_line (codes "skipped ") skipped ++ each_text index.lines index.entries

-- the line at this position was put, with its entries
pub record HasLine (index : Index) (k : ℕ) (IsPut : List ℕ → Type 0) : Type 0 where
  pub line : Line
  pub addresses : List ℕ
  pub is_line : slice_get index.lines k ≡ Some line
  pub are_entries : slice_get index.entries k ≡ Some addresses
  pub put : IsPut (line_text line addresses)
