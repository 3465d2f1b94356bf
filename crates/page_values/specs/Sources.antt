-- The source files of labels.
use Rattle.std.specs.Prelude.{◌≡◌, ◌⊎◌, ℕ, nat_lt, [], ◌++◌, length, codes, Option, Some, None, unwrap_or, if◌then◌else◌}
use Rattle.std.specs.Str.{is_utf8}
use Rattle.coz_types.specs.Labels.{Text}
use Rattle.coz_files.specs.Faults.{Rose}
use Rattle.coz_files.specs.Held.{Held, file_at}
use Rattle.page_values.specs.declared.sources.TheConstants.{MAX_SOURCE}

-- what the files below the folder are, by their paths: no bytes for a path without a file
abbrev pub Answers : Type 0
Answers = Text → Text

abbrev pub short : Option Text → Text
short None = []
short (Some bytes) = if nat_lt MAX_SOURCE (length bytes) then [] else bytes

abbrev pub short_at : Held → Text → Text
short_at held name = if is_utf8 name then short (file_at held name) else []

-- the file of a path below a folder; no bytes if there is none or it has more than 16,777,216,
-- or if the whole path is not UTF-8
abbrev pub source_in : Held → Text → Text → Text
source_in held folder path = short_at held (folder ++ codes "/" ++ path)

-- the bytes are these, or none because a read failed with a counted fault
abbrev pub IsAnswer : Text → ℕ → ℕ → Text → Type 0
IsAnswer right before now bytes = (bytes ≡ right) ⊎ ((bytes ≡ []) × Rose before now)

-- each file that was read is the one of its path below the folder
abbrev pub AreRight : Held → Text → ℕ → ℕ → Held → Type 0
AreRight held folder before now sources = (path : Text) (bytes : Text)
    → file_at sources path ≡ Some bytes → IsAnswer (source_in held folder path) before now bytes

abbrev pub look_up : Held → Answers
look_up sources path = unwrap_or (file_at sources path) []

-- the bytes as a text, if they are one
abbrev pub IsText : Text → Option Text → Type 0
IsText bytes text = text ≡ (if is_utf8 bytes then Some bytes else None)
