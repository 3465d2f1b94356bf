-- The join of files that hold the profiles of lists of a program's lines.
use Rattle.std.specs.Prelude.{◌≡◌, ℕ, ◌≤◌, List, [], map, length, get_or, All, Some}
use Rattle.std.specs.List.Sorted.{IsStrictlySortedBy}
use Rattle.std.specs.Ordering.{nat_cmp}
use Rattle.coz_types.specs.Labels.{Text}
use Rattle.coz_types.specs.declared.record.Summary.{Summary}
use Rattle.coz_files.specs.Held.{Held, file_at}
use Rattle.profile_book.specs.Profile.{IsProfile, profile_text}
use Rattle.profile_book.specs.declared.profile.Profile.{Profile}
use Rattle.profile_reader.specs.declared.TheConstants.{MAX_PROFILE}
use Rattle.profile_join.specs.declared.fault.PartKind.TheVariants.{Twice}
use Rattle.profile_shards.specs.Shards.{AreBlocks, AreLines, AreTogether, AreDisjoint, IsTwice, profile_at}
use Rattle.join_parts.specs.Words.{paths_in}
use Rattle.join_parts.specs.Verdict.{Verdict, IsVerdict, profile_verdict, parts_line, refusal}

-- The words name paths whose files hold the texts of these profiles. Each profile is within
-- the ranges and orders of profiles, and its text has at most 268,435,456 bytes.
pub record HoldProfiles (words : List Text) (held : Held) (profiles : List Profile) : Type 0 where
  pub paths : List Text
  pub named : paths_in words ≡ Some paths
  pub files : map (file_at held) paths ≡ map (λ (p : Profile). Some (profile_text p)) profiles
  pub right : All IsProfile profiles
  pub short : All (λ (p : Profile). length (profile_text p) ≤ MAX_PROFILE) profiles

-- the line that says that a label is in two profiles, the second of which is in the file of
-- the path at this place
abbrev pub twice_line : Text → List Text → ℕ → Text
twice_line label paths part = parts_line (Twice label) (get_or paths part [])

-- The verdict of the profiles of these lists of lines: the profile of all their lines, if no line
-- is in two lists; else a refusal that names the first line that is in two lists, and the file of
-- the second list that has it.
pub record IsShardsVerdict (lists : List (List ℕ)) (whole : Profile) (label : ℕ → Text)
    (paths : List Text) (v : Verdict) : Type 0 where
  pub joined : AreDisjoint lists → v ≡ profile_verdict whole
  pub twice : (line part : ℕ) → IsTwice lists line part
      → v ≡ refusal 14 (twice_line (label line) paths part)

-- words that name the files of profiles of lists of lines at the same speedups, each list rising,
-- have such a verdict
abbrev pub ShardsVerdict : Type 0
ShardsVerdict =
    (count : ℕ) (label : ℕ → Text) (block : ℕ → ℕ → Summary) → AreBlocks count label block
    → (budget : ℕ) (points : List Text) (speedups : List ℕ) (lists : List (List ℕ)) (whole : List ℕ)
    → (speedups ≡ [] → ⊥) → IsStrictlySortedBy nat_cmp speedups
    → All (AreLines count) lists → AreTogether count lists whole
    → (words : List Text) (held : Held)
    → (hold : HoldProfiles words held (map (profile_at budget points block speedups) lists))
    → (v : Verdict) → IsVerdict words held v
    → IsShardsVerdict lists (profile_at budget points block speedups whole) label hold.paths v
