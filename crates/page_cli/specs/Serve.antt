-- What the top call leaves.
use Rattle.std.specs.Prelude.{◌≡◌, ◌≢◌, ◌↔◌, ◌⊎◌, ◌≤◌, ℕ, List, ◌++◌, codes, Option, None, Some, IfSome, IsSomeAnd}
use Rattle.std.specs.Io.KnownBytes.{Appends}
use Rattle.coz_types.specs.Labels.{Text}
use Rattle.coz_files.specs.Faults.{Rose}
use Rattle.coz_files.specs.Held.{Held}
use Rattle.coz_files.specs.Puts.{AppendsPrefix}
pub use Rattle.coz_files.specs.Puts.{IsPut}
pub use Rattle.coz_files.specs.Verdict.{IsOfVerdict}
use Rattle.page_words.specs.Words.{request_in}
use Rattle.page_values.specs.Sources.{Answers}
use Rattle.page_cli.specs.Verdict.{AreRead, folder_of, path_in, verdict}
use Rattle.page_cli.specs.Verdict as verdicts

-- what is known of the line of a status
pub record IsLine (status : ℕ) (words : List Text) (told : Option Held) (line : Text) : Type 0 where
  pub usage : status ≡ 2 → line ≡ codes "coz-page: usage"
  pub write : status ≡ 6 → line ≡ codes "coz-page: write"
  pub memory : status ≡ 10 → line ≡ codes "coz-page: memory"
  -- the path that the words name
  pub read : status ≡ 5
      → (path : Text) × (path_in words ≡ Some path) × (line ≡ codes "coz-page: read: " ++ path)
  pub verdict : IsOfVerdict status → IfSome told (λ held. (answers : Answers) →
      line ≡ codes "coz-page: " ++ (verdict words held answers).line)

-- bytes are appended: the page with source files that are what the reads gave
pub record Prints (words : List Text) (held : Held) (before now : ℕ) (old new : Option Text)
    : Type 0 where
  pub answers : Answers
  pub read : AreRead (request_in words) held before now answers
  pub whole : Appends old new (verdict words held answers).text

-- a prefix of such bytes is appended
pub record PrintsPrefix (words : List Text) (held : Held) (before now : ℕ)
    (old new : Option Text) : Type 0 where
  pub answers : Answers
  pub read : AreRead (request_in words) held before now answers
  pub prefix : AppendsPrefix old new (verdict words held answers).text

-- What the program leaves, which returns this status. `told` are the files, if they are known, and
-- `before` and `now` the counts of reads that failed.
pub record ServesPage {O E : Type 0} (words : List Text) (told : Option Held) (before now : ℕ)
    (holds : O → Option Text) (faults : O → ℕ) (old new : O)
    (err_holds : E → Option Text) (err_faults : E → ℕ) (err_old err_new : E) (status : ℕ)
    : Type 0 where
  -- the words alone decide on usage
  pub usage : (status ≡ 2) ↔ (request_in words ≡ None)
  -- no other status is answered
  pub known : status ≤ 12
  -- if the files are known, the status is the verdict's, unless a fault is counted or it is out of
  -- memory
  pub verdict : IfSome told (λ held. IsOfVerdict status → (answers : Answers)
      → status ≡ (verdicts.verdict words held answers).status)
  -- a failed read and a failed write have a cause outside
  pub read : status ≡ 5
      → Rose before now
      ⊎ IsSomeAnd told (λ held. (answers : Answers) → (verdicts.verdict words held answers).status ≡ 5)
  pub write : status ≡ 6 → Rose (faults old) (faults new)
  pub write_last : IfSome told (λ held. status ≡ 6 → (answers : Answers)
      → (verdicts.verdict words held answers).status ≡ 0)
  -- what is printed: the page of the profile that the file is the text of, with the lines of the
  -- source files below the folder, if one is named
  pub text : IfSome told (λ held. status ≡ 0
      → Prints words held before now (holds old) (holds new))
  pub prefix : IfSome told (λ held. status ≡ 6
      → PrintsPrefix words held before now (holds old) (holds new))
  pub nothing : status ≢ 0 → status ≢ 6 → holds new ≡ holds old
  -- the line on the error sink
  pub no_error_line : status ≡ 0 → err_new ≡ err_old
  pub line : status ≢ 0
      → (line : Text) × IsLine status words told line
      × IsPut err_holds err_faults err_old err_new (line ++ codes "\n")
  -- the first fault ends the call, except for a fault of a source file
  pub read_count : status ≢ 5 → folder_of (request_in words) ≡ None → now ≡ before
  pub write_count : status ≢ 6 → faults new ≡ faults old

-- the help of the program
abbrev pub help_text : Text
help_text =
    codes "usage: coz-page PROFILE [OPTION]...\n"
    ++ codes "\n"
    ++ codes "Writes an HTML page with the curves of a profile.\n"
    ++ codes "\n"
    ++ codes "  PROFILE           a profile that coz prints\n"
    ++ codes "  --top N           the greatest number of lines in each table, 1 to 1000\n"
    ++ codes "  --file PATTERN    the lines whose path begins or ends with PATTERN\n"
    ++ codes "  --source DIR      show the text of the lines from the files below DIR\n"
    ++ codes "  --title TEXT      the title of the page, such as the program and its input\n"
    ++ codes "  --link PATH       a link to another page of the same program\n"
    ++ codes "  -h, --help        print this help\n"
    ++ codes "  -V, --version     print the version\n"
