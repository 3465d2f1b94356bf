-- The line unit of a written file, of version 4 or 5.
use Rattle.std.specs.Prelude.{ℕ, List, [], ◌∷◌, ◌++◌, ◌==◌, if◌then◌else◌}
use Rattle.asm_values.specs.declared.TheConstants.{TEXT_START}
use Rattle.byte_write.specs.Numbers.{half}
use Rattle.byte_write.specs.Programs as programs
pub use Rattle.line_write.specs.Unit.{with_count, numbers}

-- the program, of the words of the text
abbrev pub line_program : List ℕ → List ℕ
line_program lines = programs.line_program TEXT_START lines

-- ---- the unit

-- the sizes of an address and of a segment, in version 5 alone
abbrev pub sizes : ℕ → List ℕ
sizes version = if version == 5 then 8 ∷ 0 ∷ [] else []

-- no directory, and one file
abbrev pub ended_files : List ℕ → List ℕ
ended_files name = 0 ∷ [] ++ name ++ 0 ∷ 0 ∷ 0 ∷ 0 ∷ [] ++ 0 ∷ []

-- the directory `.`, a text, and twice the file, a text and the number of its directory in one byte
abbrev pub counted_files : List ℕ → List ℕ
counted_files name =
    (1 ∷ 1 ∷ 8 ∷ 1 ∷ 46 ∷ 0 ∷ []) ++ (2 ∷ 1 ∷ 8 ∷ 2 ∷ 11 ∷ 2 ∷ []) ++ (name ++ 0 ∷ 0 ∷ [])
    ++ (name ++ 0 ∷ 0 ∷ [])

abbrev pub files : ℕ → List ℕ → List ℕ
files version name = if version == 5 then counted_files name else ended_files name

-- the version, the header after its length, and the program
abbrev pub unit_body : List ℕ → List ℕ → ℕ → List ℕ
unit_body lines name version =
    half version ++ sizes version ++ with_count (numbers ++ files version name)
    ++ line_program lines

unfoldable pub unit : List ℕ → List ℕ → ℕ → List ℕ
unit lines name version = with_count (unit_body lines name version)
