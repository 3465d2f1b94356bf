-- A k-d tree of points: lines by the ranks of their paths and by their numbers.
use Rattle.std.specs.Prelude.{◌≡◌, ℕ, ◌+◌, ◌<◌, ◌≤◌, List, length, slice_index_or, nat_le, if◌then◌else◌, Contains}
use Rattle.line_regions.specs.declared.tree.Interval.{Interval}
use Rattle.line_regions.specs.declared.tree.Rectangle.{Rectangle}
use Rattle.line_regions.specs.declared.tree.Point.{Point}
use Rattle.line_regions.specs.declared.tree.Cover.{Cover}
use Rattle.line_regions.specs.declared.tree.Node.{Node}

-- ---- rectangles

abbrev pub IsIn : ℕ → Interval → Type 0
IsIn x interval = (interval.least ≤ x) × (x ≤ interval.greatest)

abbrev pub IsWithin : Interval → Interval → Type 0
IsWithin inner outer = (outer.least ≤ inner.least) × (inner.greatest ≤ outer.greatest)

-- two intervals, none of which is empty, have a number in common
abbrev pub Meets : Interval → Interval → Type 0
Meets one other = (one.least ≤ other.greatest) × (other.least ≤ one.greatest)

-- the least interval with one more number
abbrev pub widened : Interval → ℕ → Interval
widened interval x = record {
  least = if nat_le interval.least x then interval.least else x;
  greatest = if nat_le x interval.greatest then interval.greatest else x;
}

abbrev pub IsPointIn : Point → Rectangle → Type 0
IsPointIn point rectangle = IsIn point.rank rectangle.ranks × IsIn point.number rectangle.numbers

-- ---- covers

-- the point is in the rectangle, and its line is not before the first
abbrev pub Covers : Cover → Point → Type 0
Covers cover point = IsPointIn point cover.bounds × (cover.first ≤ point.line)

-- all points have such a cover, whose first line is that of one of them
pub record IsCoverOf (points : List Point) (cover : Cover) : Type 0 where
  pub all : (point : Point) → Contains points point → Covers cover point
  pub first : (point : Point) × Contains points point × (point.line ≡ cover.first)

-- ---- nodes

abbrev pub zero_interval : Interval
zero_interval = record { least = 0; greatest = 0 }

abbrev pub zero_node : Node
zero_node = record {
  point = record { rank = 0; number = 0; line = 0 };
  cover = record {
    bounds = record { ranks = zero_interval; numbers = zero_interval };
    first = 0;
  };
  start = 0;
}

abbrev pub node_at : List Node → ℕ → Node
node_at nodes i = slice_index_or nodes i zero_node

abbrev pub point_at : List Node → ℕ → Point
point_at nodes i = (node_at nodes i).point

-- the node is the last of a subtree, whose points it covers, and the first of whose lines it has
pub record IsRoot (nodes : List Node) (i : ℕ) : Type 0 where
  pub start : (node_at nodes i).start ≤ i
  pub all : (k : ℕ) → (node_at nodes i).start ≤ k → k ≤ i
      → Covers (node_at nodes i).cover (point_at nodes k)
  pub first : (k : ℕ) × ((node_at nodes i).start ≤ k) × (k ≤ i)
      × ((point_at nodes k).line ≡ (node_at nodes i).cover.first)

abbrev pub IsTree : List Node → Type 0
IsTree nodes = (i : ℕ) → i < length nodes → IsRoot nodes i

-- a node from an index on has the point
abbrev pub HasPoint : List Node → ℕ → Point → Type 0
HasPoint nodes start point =
    (k : ℕ) × (start ≤ k) × (k < length nodes) × (point_at nodes k ≡ point)

-- a subtree of these points follows the earlier nodes
pub record AddsPoints (points : List Point) (old new : List Node) : Type 0 where
  pub tree : IsTree old → IsTree new
  pub as_many : length new ≡ length old + length points
  pub kept : (k : ℕ) → k < length old → node_at new k ≡ node_at old k
  pub each : (point : Point) → Contains points point → HasPoint new (length old) point
  pub own : (k : ℕ) → length old ≤ k → k < length new → Contains points (point_at new k)

-- ---- a search

-- a node from one index up to another has the line, and its point is in the rectangle
abbrev pub IsHeld : List Node → Rectangle → ℕ → ℕ → ℕ → Type 0
IsHeld nodes wanted start end line =
    (k : ℕ) × (start ≤ k) × (k < end) × IsPointIn (point_at nodes k) wanted
    × ((point_at nodes k).line ≡ line)
