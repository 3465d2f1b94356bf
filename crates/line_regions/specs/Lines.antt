-- The lines of a program as a search for regions has them.
use Rattle.std.specs.Prelude.{◌≡◌, ℕ, ◌≤◌, ◌<◌, ◌↔◌, ◌^◌, true, false, List, [], ◌∷◌, if◌then◌else◌, map, length, slice_index_or, Option, Some, None, find, option_map, is_some, slice_set, All, AllPairs, Contains}
use Rattle.std.specs.Ordering.{is_lt}
use Rattle.std.specs.List.Sorted.{IsSorted}
use Rattle.line_index.specs.Changes.{or_else}
use Rattle.line_index.specs.Lines.{Line, line_cmp}
use Rattle.line_index.specs.Backwards.{backward_cmp}
use Rattle.line_remap.specs.declared.location.Location.{Location}
use Rattle.line_remap.specs.Locations.{line_of_location}
use Rattle.line_remap.specs.declared.marks.Mark.{Mark as coded}
use Rattle.line_remap.specs.Marks.{IsText, Mark, has_zero}
use Rattle.line_regions.specs.Regions.{Region, is_below, is_in}
use Rattle.line_regions.specs.Tree.{IsTree, point_at}
use Rattle.line_regions.specs.declared.tree.Node.{Node}
use Rattle.line_regions.specs.declared.tree.Point.{Point}

abbrev pub lines_at : List Location → List Line
lines_at locations = map line_of_location locations

abbrev pub paths_at : List Location → List (List ℕ)
paths_at locations = map (λ (location : Location). location.path.now) locations

abbrev pub path_at : List Location → ℕ → List ℕ
path_at locations k = slice_index_or (paths_at locations) k []

abbrev pub number_at_location : List Location → ℕ → ℕ
number_at_location locations k = slice_index_or (map (λ (location : Location). location.number) locations) k 0

abbrev pub IsBefore : Line → Line → Type 0
IsBefore line other = is_lt (line_cmp line other) ≡ true

-- a line table can have the location, unless a zero byte stands in its path
abbrev pub IsSpelled : Location → Type 0
IsSpelled location = has_zero location.path.now ≡ false → IsText location

-- one of these locations at least has the path of the location
abbrev pub HasPathOf : List Location → List ℕ → ℕ → Type 0
HasPathOf locations list k =
    (head : ℕ) × Contains list head × (path_at locations head ≡ path_at locations k)

-- of each path one location, in the order of the paths' bytes from the last to the first
pub record AreHeads (locations : List Location) (heads : List ℕ) : Type 0 where
  pub few : length heads ≤ length locations
  pub in_order : IsSorted (backward_cmp (paths_at locations)) heads
  pub each : (k : ℕ) → k < length locations → HasPathOf locations heads k

-- the path of the location stands at the rank
abbrev pub HasRank : List Location → List ℕ → ℕ → ℕ → Type 0
HasRank locations heads k rank =
    (rank < length heads) × (path_at locations (slice_index_or heads rank 0) ≡ path_at locations k)

-- the point is a line of the program
pub record IsPointOf (locations : List Location) (heads : List ℕ) (point : Point) : Type 0 where
  pub within : point.line < length locations
  pub rank : HasRank locations heads point.line point.rank
  pub number : point.number ≡ number_at_location locations point.line

-- a node of a tree for each line
pub record AreNodes (locations : List Location) (heads : List ℕ) (nodes : List Node) : Type 0 where
  pub tree : IsTree nodes
  pub own : (i : ℕ) → i < length nodes → IsPointOf locations heads (point_at nodes i)
  pub each : (k : ℕ) → k < length locations
      → (i : ℕ) × (i < length nodes) × ((point_at nodes i).line ≡ k)

-- a point for each line, in their order
pub record ArePoints (locations : List Location) (heads : List ℕ) (points : List Point) : Type 0 where
  pub as_many : length points ≡ length locations
  pub own : All (IsPointOf locations heads) points
  pub each : (k : ℕ) (d : Point) → k < length points → (slice_index_or points k d).line ≡ k

-- the locations of lines that rise, of each path one, and a node for each
pub record AreLines (locations : List Location) (list : List ℕ) (tree : List Node) : Type 0 where
  pub few : length locations < 2 ^ 32
  pub rising : AllPairs IsBefore (lines_at locations)
  pub right : All IsSpelled locations
  pub heads : AreHeads locations list
  pub nodes : AreNodes locations list tree

-- ---- the lines of a region

-- those from one offset up to another are in the region, and no others
abbrev pub IsSpan : List Line → Region → ℕ → ℕ → Type 0
IsSpan lines region start end =
    (k : ℕ) (d : Line) → k < length lines
    → ((start ≤ k) × (k < end)) ↔ (is_in region (slice_index_or lines k d) ≡ true)

abbrev pub zero_line : Line
zero_line = record { path = []; number = 0 }

abbrev pub line_in : List Line → ℕ → Line
line_in lines k = slice_index_or lines k zero_line

-- the line at an offset is in the region
abbrev pub IsIn : List Line → Region → ℕ → Type 0
IsIn lines region k = is_in region (line_in lines k) ≡ true

abbrev pub IsBelow : List Line → Region → ℕ → Type 0
IsBelow lines region k = is_below region (line_in lines k) ≡ true

-- the least offset below a count of which something holds, if it holds of one
abbrev pub IsFirst : ℕ → (ℕ → Type 0) → Option ℕ → Type 0
IsFirst count Holds None = (k : ℕ) → k < count → Holds k → ⊥
IsFirst count Holds (Some first) =
    (first < count) × Holds first × ((k : ℕ) → k < first → Holds k → ⊥)

-- ---- the number in each line's mark

-- the number with which the first region begins that has the line
abbrev pub first_number : List Region → Line → Option ℕ
first_number regions line =
    option_map (λ (region : Region). region.first) (find (λ region. is_in region line) regions)

abbrev pub number_at : List (Option ℕ) → ℕ → Option ℕ
number_at numbers k = slice_index_or numbers k None

-- for each line an offset behind it: all lines between them have a number
pub record AreClaims (numbers : List (Option ℕ)) (next : List ℕ) : Type 0 where
  pub as_many : length next ≡ length numbers
  pub few : length numbers < 2 ^ 32
  pub forward : (k : ℕ) → k < length numbers → k < slice_index_or next k 0
  pub passed : (k j : ℕ) → k < length numbers → k < j → j < slice_index_or next k 0
      → is_some (number_at numbers j) ≡ true

-- the line has this number, unless it has one
abbrev pub claimed : List (Option ℕ) → ℕ → ℕ → List (Option ℕ)
claimed numbers line number =
    slice_set numbers line (or_else (number_at numbers line) (Some number))

-- the mark of a line with a number, if there is one
abbrev pub mark_with : Location → ℕ → Option ℕ → List Mark
mark_with location line None = []
mark_with location line (Some number) =
    if has_zero location.path.now then []
    else record { position = line; line = record { path = location.path.now; number = number } } ∷ []

-- a mark of a line below a count
pub record IsMarkOf (count : ℕ) (m : coded) : Type 0 where
  pub within : m.line.0 < count
  pub text : IsText m.location
