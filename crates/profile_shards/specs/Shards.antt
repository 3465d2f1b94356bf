-- Profiles of lists of a program's lines, and when they are joined.
use Rattle.std.specs.Prelude.{◌≡◌, ℕ, suc, ◌<◌, ◌≤◌, ◌↔◌, ◌==◌, true, List, [], ◌∷◌, map, flat_map, length, All, Contains, Result, Ok, Err, if◌then◌else◌}
use Rattle.std.specs.List.{list_any}
use Rattle.std.specs.List.Sorted.{IsStrictlySortedBy}
use Rattle.std.specs.Ordering.{nat_cmp}
use Rattle.coz_types.specs.Labels.{Text, is_label, label_before}
use Rattle.coz_types.specs.declared.record.Summary.{Summary}
use Rattle.profile_book.specs.declared.profile.Profile.{Profile}
use Rattle.profile_join.specs.Parts.{unlabelled, IsJoin}
use Rattle.profile_join.specs.declared.fault.PartKind.TheVariants.{Twice}
use Rattle.profile_join.specs.declared.fault.JoinError.{JoinError}
use Rattle.profile_join.specs.declared.fault.JoinError.TheVariants.{Unlike, Memory}

-- ---- lists of lines

-- the numbers, from n on, of the lists that have this line
abbrev pub holders : ℕ → ℕ → List (List ℕ) → List ℕ
holders line n [] = []
holders line n (lines ∷ lists) =
    if list_any (λ l. l == line) lines then n ∷ holders line (suc n) lists
    else holders line (suc n) lists

-- no line is in two lists
abbrev pub AreDisjoint : List (List ℕ) → Type 0
AreDisjoint lists = (line : ℕ) → length (holders line 0 lists) ≤ 1

-- the first line that is in two lists, and the second list that has it
pub record IsTwice (lists : List (List ℕ)) (line part : ℕ) : Type 0 where
  pub first : ℕ
  pub more : List ℕ
  pub second : holders line 0 lists ≡ first ∷ part ∷ more
  pub least : (other : ℕ) → other < line → length (holders other 0 lists) ≤ 1

-- lines of a program with `count` lines, in rising order
pub record AreLines (count : ℕ) (lines : List ℕ) : Type 0 where
  pub rise : IsStrictlySortedBy nat_cmp lines
  pub below : All (λ line. line < count) lines

-- all their lines together
pub record AreTogether (count : ℕ) (lists : List (List ℕ)) (whole : List ℕ) : Type 0 where
  pub lines : AreLines count whole
  pub each : (line : ℕ) → Contains whole line ↔ Contains (flat_map (λ lines. lines) lists) line

-- ---- their profiles

-- the blocks of a program's lines, by position and speedup, as runs give them: each line has a
-- label of its own, the labels rise with the lines, and at speedup 0 all blocks agree but for
-- their labels and starts
pub record AreBlocks (count : ℕ) (label : ℕ → Text) (block : ℕ → ℕ → Summary) : Type 0 where
  pub selected : (line speedup : ℕ) → (block line speedup).selected ≡ label line
  pub speedup : (line speedup : ℕ) → (block line speedup).speedup ≡ speedup
  pub alike : (line other : ℕ) → unlabelled (block line 0) ≡ unlabelled (block other 0)
  pub right : (line : ℕ) → line < count → is_label (label line) ≡ true
  pub rise : (line other : ℕ) → line < other → other < count
      → label_before (label line) (label other) ≡ true

-- the blocks of these lines, each at these speedups
abbrev pub blocks_at : (ℕ → ℕ → Summary) → List ℕ → List ℕ → List Summary
blocks_at block speedups lines = flat_map (λ (line : ℕ). map (block line) speedups) lines

abbrev pub profile_at : ℕ → List Text → (ℕ → ℕ → Summary) → List ℕ → List ℕ → Profile
profile_at budget points block speedups lines = record {
  budget = budget;
  points = points;
  summaries = blocks_at block speedups lines;
}

-- ---- their join

-- if no line is in two lists, the profile of all their lines; else the label of the first
-- line that is in two, and the second list that has it
abbrev pub IsShardsJoin : List (List ℕ) → Profile → (ℕ → Text) → Result Profile JoinError → Type 0
IsShardsJoin lists whole label (Ok joined) = AreDisjoint lists × (joined ≡ whole)
IsShardsJoin lists whole label (Err (Unlike fault)) =
    (line : ℕ) × IsTwice lists line fault.part × (fault.kind ≡ Twice (label line))
IsShardsJoin lists whole label (Err Memory) = Unit {0}

-- profiles of lists of lines at the same speedups, each list rising, are joined into the profile
-- of all their lines exactly if no line is in two lists
abbrev pub ShardsJoin : Type 0
ShardsJoin =
    (count : ℕ) (label : ℕ → Text) (block : ℕ → ℕ → Summary) → AreBlocks count label block
    → (budget : ℕ) (points : List Text) (speedups : List ℕ) (lists : List (List ℕ)) (whole : List ℕ)
    → (speedups ≡ [] → ⊥) → IsStrictlySortedBy nat_cmp speedups
    → 0 < length lists → All (AreLines count) lists → AreTogether count lists whole
    → (result : Result Profile JoinError)
    → IsJoin (map (profile_at budget points block speedups) lists) result
    → IsShardsJoin lists (profile_at budget points block speedups whole) label result
