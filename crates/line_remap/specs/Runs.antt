-- The sequences of lines that keep their addresses, or get those of others.
use Rattle.std.specs.Prelude.{◌≡◌, ℕ, ◌+◌, ◌≤◌, ◌<◌, true, false, List, [], ◌∷◌, ◌++◌, get_or, length, sum_by, All}
use Rattle.std.specs.List.{AllZip}
use Rattle.line_index.specs.Index.{Index, has_line}
use Rattle.line_write.specs.Lines.{line_of_sequence}
use Rattle.line_write.specs.Unit.{IsWritable, Sequence}
use Rattle.line_write.specs.declared.Sequence.{Sequence as coded}
use Rattle.line_remap.specs.Marks.{Mark}

-- from an entry address of the line up to the first address after it that hasn't the line
pub record IsRun (index : Index) (m : Mark) (entry : ℕ) (s : Sequence) : Type 0 where
  pub line : line_of_sequence s ≡ m.line
  pub address : s.address ≡ entry
  pub inside : (a : ℕ) → s.address ≤ a → a < s.address + s.size
      → has_line index m.position a ≡ true
  pub end : has_line index m.position (s.address + s.size) ≡ false

-- one for each entry address of the line, in their order
abbrev pub AreRuns : Index → Mark → List Sequence → Type 0
AreRuns index m all = AllZip (IsRun index m) (get_or index.entries m.position []) all

-- those of each mark, in the order of the marks
abbrev pub AreKept : Index → List Mark → List Sequence → Type 0
AreKept index [] all = all ≡ []
AreKept index (m ∷ more) all =
    (front back : List Sequence) × (all ≡ front ++ back) × AreRuns index m front
    × AreKept index more back

-- sequences of this kind, each of which can be written, follow the earlier ones
pub record Adds (Are : List Sequence → Type 0) (old new : List Sequence) : Type 0 where
  pub more : List Sequence
  pub whole : new ≡ old ++ more
  pub are : Are more
  pub writable : All IsWritable more

-- the bytes of their paths
abbrev pub path_bytes : List coded → ℕ
path_bytes sequences = sum_by (λ (s : coded). length s.path.items) sequences
