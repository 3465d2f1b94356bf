-- Lines that keep their addresses, and lines that get the addresses of another.
use Rattle.std.specs.Prelude.{◌≡◌, ℕ, ◌<◌, ◌^◌, Bool, true, false, ◌||◌, ◌==◌, List, [], ◌∷◌, map, take, length, find, slice_get, codes, bytes_eq, Option, Some, None, option_map, option_and_then, if◌then◌else◌}
use Rattle.std.specs.List.{filter_map}
use Rattle.coz_types.specs.declared.LineId.{LineId}
use Rattle.coz_types.specs.Labels.{Text, is_empty, is_written, path_of, number_of}
use Rattle.line_index.specs.Index.{Index, position_at}
use Rattle.line_index.specs.Lines.{Line, label}
use Rattle.line_remap.specs.declared.location.Location.{Location}
use Rattle.line_remap.specs.declared.marks.Mark.{Mark as coded}
use Rattle.line_remap.specs.Locations.{line_of_location}

-- ---- lines as their labels spell them

-- a zero byte stands in the path, in its written form
abbrev pub has_zero : Text → Bool
has_zero [] = false
has_zero (b ∷ rest) = bytes_eq (take 3 (b ∷ rest)) (codes "%00") || has_zero rest

-- a line by its label
abbrev pub line_of_label : Text → Line
line_of_label text = record { path = path_of text; number = number_of text }

-- the line of a label, unless a zero byte stands in its path: a name in a line table ends at one
abbrev pub spelled : Text → Option Line
spelled text =
    if has_zero (path_of text) then None
    else Some (line_of_label text)

-- the line at a position
abbrev pub line_at : Index → ℕ → Option Line
line_at index k = option_and_then spelled (slice_get (map label index.lines) k)

-- the lines of a program in order, as their labels spell them
abbrev pub spelled_lines : Index → List Line
spelled_lines index = map line_of_label (map label index.lines)

-- the line of an address
abbrev pub own_line : Index → ℕ → Option Line
own_line index a = option_and_then (line_at index) (position_at index a)

-- a path and a number that a line table can give a line
pub record IsText (location : Location) : Type 0 where
  pub named : is_empty location.path.now ≡ false
  pub written : is_written location.path.now ≡ true
  pub text : has_zero location.path.now ≡ false
  pub numbered : 0 < location.number
  pub small : location.number < 2 ^ 32

-- ---- marks

-- a line of the program by its position, and the line that gets its addresses
pub record Mark : Type 0 where
  pub position : ℕ
  pub line : Line

-- a mark without where its path lies in memory
abbrev pub mark_of : coded → Mark
mark_of m = record { position = m.line.0; line = line_of_location m.location }

abbrev pub marks_of : List coded → List Mark
marks_of marks = map mark_of marks

pub record IsMark (index : Index) (m : coded) : Type 0 where
  pub within : m.line.0 < length index.lines
  pub text : IsText m.location

-- the positions of lines
abbrev pub positions_of : List LineId → List ℕ
positions_of lines = map (λ (line : LineId). line.0) lines

abbrev pub kept_mark : Index → ℕ → Option Mark
kept_mark index k =
    option_map (λ line. let m : Mark = record { position = k; line = line } in m) (line_at index k)

-- marks by which each of these lines keeps its addresses
abbrev pub kept_marks : Index → List ℕ → List Mark
kept_marks index kept = filter_map (kept_mark index) kept

-- the line that gets the addresses of the line at a position, by the first mark of that
abbrev pub marked : List Mark → ℕ → Option Line
marked marks k = option_map (λ (m : Mark). m.line) (find (λ (m : Mark). k == m.position) marks)
