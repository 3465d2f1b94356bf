-- Profiles that are made in parts, over what is printed: the join of what `coz profile` prints of
-- disjoint lists of lines is what it prints of all of them.
use Rattle.std.specs.Prelude.{◌≡◌, ◌↔◌, ◌≤◌, ℕ, List, map, flat_map, length, All, Contains, Option, Some, Ok}
use Rattle.coz_types.specs.Image.{ImageParts}
use Rattle.coz_types.specs.Labels.{Text}
use Rattle.coz_files.specs.Held.{Held, file_at}
use Rattle.coz_files.specs.Verdict.{Verdict, refusal}
use Rattle.elf_load.specs.Loaded.{load_answer}
use Rattle.dwarf_lines.specs.Registers.{Table}
use Rattle.line_index.specs.Lines.{label_at}
use Rattle.line_index.specs.Listed.{lines_in}
use Rattle.profile_shards.specs.Shards.{AreDisjoint, IsTwice}
use Rattle.profile_reader.specs.declared.TheConstants.{MAX_PROFILE}
use Rattle.coz_words.specs.declared.request.Request.{Request}
use Rattle.coz_words.specs.declared.command.Command.TheVariants.{Profile}
use Rattle.coz_words.specs.Slow.{request_of}
use Rattle.program_load.specs.LineTable.{table_in}
use Rattle.program_load.specs.Selection.{all_lines, lines_named}
use Rattle.join_parts.specs.Words.{paths_in}
use Rattle.join_parts.specs.Verdict.{IsVerdict}
use Rattle.join_parts.specs.Shards.{twice_line}
use Rattle.coz_cli.specs.Verdict.{verdict}
use Rattle.profile_laws.specs.Headline.{HoldsBytes}

-- arguments of coz, and the positions of the lines that they select
pub record Shard : Type 0 where
  pub words : List (List ℕ)
  pub lines : List ℕ

-- the file of the path that a request names is this program, with this line table
pub record IsProgram (held : Held) (asked : Request) (image : ImageParts) (table : Table)
    : Type 0 where
  pub file : List ℕ
  pub found : file_at held asked.target ≡ Some file
  pub program : load_answer file ≡ Ok image
  pub table_is : table_in file ≡ Ok table

-- The arguments ask for the same profile as a request does, apart from the lines and the number of
-- workers. They select these lines of the program, and a profile is printed.
pub record IsShard (held : Held) (asked : Request) (image : ImageParts) (table : Table)
    (shard : Shard) : Type 0 where
  pub list : Option Text
  pub workers : ℕ
  pub words_ask : request_of shard.words ≡ Some (record asked { lines = list; workers = workers })
  pub selected : lines_named (lines_in table image.areas) (all_lines (lines_in table image.areas))
      list ≡ Ok shard.lines
  pub printed : (verdict shard.words held).status ≤ 1

-- The words name paths whose files hold what these arguments print, each at most 256 MiB.
pub record HoldPrinted (words : List Text) (files held : Held) (shards : List Shard)
    : Type 0 where
  pub paths : List Text
  pub named : paths_in words ≡ Some paths
  pub found : map (file_at files) paths
      ≡ map (λ (shard : Shard). Some (verdict shard.words held).text) shards
  pub short : All (λ (shard : Shard). length (verdict shard.words held).text ≤ MAX_PROFILE) shards

-- If no line is in two lists, the verdict of a join is that of these arguments. Else the status is
-- 14, and the line told names the first line that is in two lists, and the file of the second.
pub record JoinsTo (lists : List (List ℕ)) (whole : Verdict) (label : ℕ → Text)
    (paths : List Text) (v : Verdict) : Type 0 where
  pub joined : AreDisjoint lists → v ≡ whole
  pub twice : (line part : ℕ) → IsTwice lists line part
      → v ≡ refusal 14 (twice_line (label line) paths part)

-- For all files, a request for a profile of a program, arguments `whole` and `shards` that ask for
-- it, and a join of files that hold what the shards print: if together these select the lines
-- that `whole` selects, the join's verdict is that of `whole`.
abbrev pub PrintsJoin : Type 0
PrintsJoin =
    (held : Held) (asked : Request) (image : ImageParts) (table : Table)
    (whole : Shard) (shards : List Shard)
    → HoldsBytes held → asked.command ≡ Profile → IsProgram held asked image table
    → IsShard held asked image table whole → All (IsShard held asked image table) shards
    → ((line : ℕ) → Contains whole.lines line
    ↔ Contains (flat_map (λ (shard : Shard). shard.lines) shards) line)
    → (words : List Text) (files : Held) (hold : HoldPrinted words files held shards)
    → (v : Verdict) → IsVerdict words files v
    → JoinsTo (map (λ (shard : Shard). shard.lines) shards) (verdict whole.words held)
    (label_at (lines_in table image.areas)) hold.paths v
