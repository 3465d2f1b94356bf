-- The main theorem on profiles that are made in parts. The profiles of disjoint lists of
-- a program's lines are joined into the profile of all those lines: what is printed is the text
-- that one run of `coz profile` prints of all of them.
-- `profile_of_lines` is made of `profile_with`, as the profile of the headline of coz is.
use Rattle.std.specs.Prelude.{◌≡◌, ℕ, ◌^◌, ◌<◌, ◌≤◌, List, ◌++◌, map, length, All, codes, Option, Some, Ok}
use Rattle.std.specs.Io.KnownBytes.{Appends}
use Rattle.coz_types.specs.Image.{ImageParts}
use Rattle.coz_types.specs.Labels.{Text}
use Rattle.coz_types.specs.declared.TheConstants.{MAX_BUDGET, MAX_POINTS, MAX_SPEEDUP}
use Rattle.coz_files.specs.Held.{Held, file_at}
use Rattle.coz_files.specs.Puts.{AppendsPrefix}
use Rattle.coz_files.specs.Verdict.{IsOfVerdict}
use Rattle.dwarf_lines.specs.Registers.{Table}
use Rattle.line_index.specs.Index.{Index}
use Rattle.line_index.specs.Listed.{lines_in}
use Rattle.progress_points.specs.Points.{Points}
use Rattle.profile_book.specs.Profile.{profile_text}
use Rattle.profile_book.specs.declared.profile.Profile.{Profile}
use Rattle.profile_shards.specs.Shards.{AreLines, AreTogether, AreDisjoint, IsTwice}
use Rattle.profile_reader.specs.declared.TheConstants.{MAX_PROFILE}
use Rattle.program_load.specs.LineTable.{table_in}
use Rattle.profile_pool.specs.Profiles.{profile_of_lines}
use Rattle.join_parts.specs.Words.{paths_in}
use Rattle.join_parts.specs.Verdict.{profile_status}
use Rattle.join_parts.specs.Shards.{twice_line}
use Rattle.line_index.specs.Lines.{label_at}

-- The index is that of a program: its lines are those of the line table in the program's file,
-- which is a list of bytes. The entry is an address of 64 bits.
pub record AreIndexed (image : ImageParts) (index : Index) : Type 0 where
  pub entry : image.entry < 2 ^ 64
  pub bytes : All (λ b. b < 256) image.file
  pub table : Table
  pub read : table_in image.file ≡ Ok table
  pub lines : index.lines ≡ lines_in table image.areas

-- What a profile of a program is asked for: a budget and speedups in their ranges, lines of the
-- program as points, in rising order and at most 64, and an input that is a list of bytes.
pub record IsAsked (index : Index) (points : Points) (input : List ℕ) (budget : ℕ)
    (speedups : List ℕ) : Type 0 where
  pub some_budget : 1 ≤ budget
  pub small_budget : budget ≤ MAX_BUDGET
  pub lines : AreLines (length index.lines) points.lines
  pub few : length points.lines ≤ MAX_POINTS
  pub slow : All (λ speedup. speedup ≤ MAX_SPEEDUP) speedups
  pub bytes : All (λ b. b < 256) input

-- The words name paths whose files hold the texts of these profiles. Each text has at most
-- 268,435,456 bytes.
pub record HoldTexts (words : List Text) (held : Held) (profiles : List Profile) : Type 0 where
  pub paths : List Text
  pub named : paths_in words ≡ Some paths
  pub files : map (file_at held) paths ≡ map (λ (p : Profile). Some (profile_text p)) profiles
  pub short : All (λ (p : Profile). length (profile_text p) ≤ MAX_PROFILE) profiles

-- What is left by the join of the profiles of these lists of lines. If no line is in two lists,
-- the status and the text are those of the profile of all their lines. Else the status is 14, and
-- the line told names the first line that is in two lists, and the file of the second list that
-- has it.
pub record JoinsShards (lists : List (List ℕ)) (whole : Profile) (label : ℕ → Text)
    (paths : List Text) (Tells : Text → Type 0) (before now : Option Text)
    (status : ℕ) : Type 0 where
  pub joined : AreDisjoint lists → IsOfVerdict status
      → (status ≡ profile_status whole) × Appends before now (profile_text whole)
  pub prefix : AreDisjoint lists → status ≡ 6 → AppendsPrefix before now (profile_text whole)
  pub twice : (line part : ℕ) → IsTwice lists line part → IsOfVerdict status
      → (status ≡ 14) × Tells (codes "coz-join: " ++ twice_line (label line) paths part)

-- for every program, and every input, budget, points and speedups that a profile of it is asked
-- for, and all lists of the program's lines, each rising, if the files hold the profiles of
-- these lists
abbrev pub JoinsAllShards : List Text → Held → (Text → Type 0) → Option Text → Option Text → ℕ → Type 0
JoinsAllShards words held Tells before now status =
    (image : ImageParts) (index : Index) (points : Points) (input : List ℕ) (budget : ℕ)
    (speedups : List ℕ) (lists : List (List ℕ)) (whole : List ℕ)
    → AreIndexed image index
    → IsAsked index points input budget speedups
    → All (AreLines (length index.lines)) lists
    → AreTogether (length index.lines) lists whole
    → (hold : HoldTexts words held
    (map (profile_of_lines image index points input budget speedups) lists))
    → JoinsShards lists (profile_of_lines image index points input budget speedups whole)
    (label_at index.lines) hold.paths Tells before now status
