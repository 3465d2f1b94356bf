-- Lines by number and by how their paths end, and the first of some of them in the order of lines.
use Rattle.std.specs.Prelude.{◌≡◌, ℕ, ◌+◌, ◌*◌, ◌/◌, ◌≤◌, ◌<◌, Bool, ◌&&◌, ◌||◌, List, map, length, get_or, Option, Some, None, nat_lt, ◌==◌, All, Contains}
use Rattle.std.specs.List.Sorted.{IsSorted}
use Rattle.std.specs.declared.cmp.Ordering.{Ordering}
use Rattle.std.specs.Ordering.{nat_cmp, ordering_then}
use Rattle.line_index.specs.declared.endings.Ending.{Ending}
use Rattle.line_index.specs.declared.endings.Endings.{Endings}
use Rattle.line_index.specs.declared.blocks.TheConstants.{BLOCK}
use Rattle.line_index.specs.declared.lines.Key.{Key}
use Rattle.line_index.specs.Keys.{with_path}
use Rattle.line_index.specs.Backwards.{AreBackwards}

-- by number, then by the rank of the path, then by line
abbrev pub ending_order : Ending → Ending → Ordering
ending_order one other =
    ordering_then (nat_cmp one.number other.number)
    (ordering_then (nat_cmp one.rank other.rank) (nat_cmp one.line other.line))

-- it has a lesser number, or the same and a path of a lesser rank
abbrev pub is_before : ℕ → ℕ → Ending → Bool
is_before number rank one =
    nat_lt one.number number || (one.number == number && nat_lt one.rank rank)

abbrev pub lines_of : List Ending → List ℕ
lines_of list = map (λ (one : Ending). one.line) list

-- the key of a line
abbrev pub key_of : List Key → ℕ → Key
key_of keys line = get_or keys line (with_path 0 0)

-- each path that stands in the order has its place there as its rank
abbrev pub AreRanks : List ℕ → List ℕ → Type 0
AreRanks backwards ranks =
    (path : ℕ) → Contains backwards path
    → (get_or ranks path 0 < length backwards) × (get_or backwards (get_or ranks path 0) 0 ≡ path)

-- it is the line at its position, with the rank that its path has
pub record IsRanked (keys : List Key) (ranks : List ℕ) (one : Ending) : Type 0 where
  pub within : one.line < length keys
  pub number : one.number ≡ (key_of keys one.line).number
  pub rank : one.rank ≡ get_or ranks (key_of keys one.line).path 0

-- it is the line at its position, whose path stands at its rank
pub record IsEnding (keys : List Key) (backwards : List ℕ) (one : Ending) : Type 0 where
  pub within : one.line < length keys
  pub number : one.number ≡ (key_of keys one.line).number
  pub placed : one.rank < length backwards
  pub path : get_or backwards one.rank 0 ≡ (key_of keys one.line).path

-- ---- the first of some

-- the line stands at a place from one up to another
abbrev pub IsBetween : List Ending → ℕ → ℕ → ℕ → Type 0
IsBetween list start end line =
    (place : ℕ) × (start ≤ place) × (place < end) × (get_or (lines_of list) place 0 ≡ line)

-- the least of these numbers, if there is one
pub record IsLeast (P : ℕ → Type 0) (number : Option ℕ) : Type 0 where
  pub there : (k : ℕ) → number ≡ Some k → P k
  pub first : (j : ℕ) → P j → (k : ℕ) × (number ≡ Some k) × (k ≤ j)

-- of each whole block the first line
pub record AreFirsts (list : List Ending) (firsts : List (Option ℕ)) : Type 0 where
  pub as_many : length firsts ≡ length list / BLOCK
  pub each : (block : ℕ) → block < length firsts
      → IsLeast (IsBetween list (block * BLOCK) (block * BLOCK + BLOCK)) (get_or firsts block None)

-- ---- what a search needs, and what it finds

pub record IsSearchable (paths : List (List ℕ)) (endings : Endings) : Type 0 where
  pub backwards : AreBackwards paths endings.backwards.items
  pub in_order : IsSorted ending_order endings.lines.items
  pub firsts : AreFirsts endings.lines.items endings.firsts.items

pub record HoldsLines (keys : List Key) (endings : Endings) : Type 0 where
  pub own : All (IsEnding keys endings.backwards.items) endings.lines.items
  pub each : (k : ℕ) → k < length keys → Contains (lines_of endings.lines.items) k
