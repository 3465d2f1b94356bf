-- Progress points: lines whose entry addresses are counted.
use Rattle.std.specs.Prelude.{◌≡◌, ◌≤◌, ◌<◌, ℕ, Bool, ◌==◌, List, [], length, map, get_or, Option, option_map, find, position}
use Rattle.std.specs.List.{list_any}
use Rattle.coz_types.specs.declared.TheConstants.{MAX_POINTS}
use Rattle.coz_types.specs.declared.LineId.{LineId}
use Rattle.line_index.specs.Index.{Index}
pub use Rattle.progress_points.specs.declared.marks.Mark.{Mark}
use Rattle.progress_points.specs.declared.PointsError.{PointsError}
use Rattle.progress_points.specs.declared.PointsError.TheVariants.{TooMany, Memory}

-- the progress lines by their ids (a point's number is the position of its line)
-- and the entry addresses in order, each with its point
pub record Points : Type 0 where
  pub lines : List ℕ
  pub marks : List Mark

-- these addresses with one point
abbrev pub marks_at : ℕ → List ℕ → List Mark
marks_at point addresses = map (λ (a : ℕ). record { address = a; point = point }) addresses

abbrev pub is_at : ℕ → Mark → Bool
is_at a mark = mark.address == a

-- the point of the first mark of that address
abbrev pub first_point : ℕ → List Mark → Option ℕ
first_point a marks = option_map (λ (mark : Mark). mark.point) (find (is_at a) marks)

-- the point that an address has, if it has one
abbrev pub point_of : Points → ℕ → Option ℕ
point_of points a = first_point a points.marks

-- the address is an entry of the line, of these entries by line
abbrev pub has_entry : List (List ℕ) → ℕ → ℕ → Bool
has_entry entries a line = list_any (λ (entry : ℕ). entry == a) (get_or entries line [])

-- the position of the first of these lines that has the address among its entries
abbrev pub point_in : List (List ℕ) → List ℕ → ℕ → Option ℕ
point_in entries lines a = position (has_entry entries a) lines

-- these are the points of the lines
pub record IsPoints (index : Index) (chosen : List ℕ) (points : Points) : Type 0 where
  pub few : length chosen ≤ MAX_POINTS
  pub lines : points.lines ≡ chosen
  pub each : (a : ℕ) → point_of points a ≡ point_in index.entries chosen a

abbrev pub ids : List LineId → List ℕ
ids lines = map (λ (line : LineId). line.0) lines

-- `count` lines are too many, or it was out of memory for so few
abbrev pub IsFault : ℕ → PointsError → Type 0
IsFault count (TooMany n) = (MAX_POINTS < count) × (n ≡ count)
IsFault count Memory = count ≤ MAX_POINTS
