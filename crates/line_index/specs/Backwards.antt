-- Paths by their bytes from the last to the first: there those that end alike stand side by side.
use Rattle.std.specs.Prelude.{◌≡◌, ℕ, ◌≤◌, ◌<◌, ◌↔◌, List, [], ◌∷◌, length, get_or, reverse, true, All, Contains}
use Rattle.std.specs.List.Sorted.{IsSorted}
use Rattle.std.specs.declared.cmp.Ordering.{Ordering}
use Rattle.std.specs.declared.cmp.Ordering.TheVariants.{Less, Equal}
use Rattle.std.specs.Ordering.{nat_cmp, ordering_then}
use Rattle.std.specs.Cmp.Lexicographic.{slice_cmp}
use Rattle.line_index.specs.Lines.{ends_with}

-- the path at a position, from its last byte to its first
abbrev pub backward : List (List ℕ) → ℕ → List ℕ
backward paths position = reverse (get_or paths position [])

abbrev pub backward_cmp : List (List ℕ) → ℕ → ℕ → Ordering
backward_cmp paths one other = slice_cmp nat_cmp (backward paths one) (backward paths other)

-- the position of each path, in the order of the bytes from the last to the first
pub record AreBackwards (paths : List (List ℕ)) (list : List ℕ) : Type 0 where
  pub in_order : IsSorted (backward_cmp paths) list
  pub as_many : length list ≡ length paths
  pub own : All (λ position. position < length paths) list
  pub each : (k : ℕ) → k < length paths → Contains list k

-- ---- search

-- a slash and the text, from the last byte to the first
abbrev pub ending : List ℕ → List ℕ
ending text = reverse (47 ∷ text)

-- in order bytes stand before those that begin so, among them, or after them
abbrev pub start_cmp : List ℕ → List ℕ → Ordering
start_cmp [] bytes = Equal
start_cmp (b ∷ start) [] = Less
start_cmp (b ∷ start) (x ∷ bytes) = ordering_then (nat_cmp x b) (start_cmp start bytes)

-- those from one rank up to another are the paths that end with a slash and the text
abbrev pub IsStretch : List (List ℕ) → List ℕ → List ℕ → ℕ → ℕ → Type 0
IsStretch paths list text start end =
    (rank : ℕ) → rank < length list
    → ((start ≤ rank) × (rank < end)) ↔ (ends_with (get_or paths (get_or list rank 0) []) text ≡ true)
