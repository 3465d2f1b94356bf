-- The sequences of the line unit in which each function is one line.
use Rattle.std.specs.Prelude.{◌≡◌, ℕ, ◌+◌, ◌^◌, ◌<◌, true, List, [], ◌++◌, map, reverse, codes, unwrap_or}
use Rattle.std.specs.List.{AllZip}
use Rattle.coz_types.specs.Image.{ImageParts}
use Rattle.elf_load.specs.Loaded.{section}
use Rattle.line_index.specs.Index.{Index}
use Rattle.line_index.specs.Lines.{Line}
use Rattle.line_write.specs.Lines.{line_of_sequence}
use Rattle.line_write.specs.Unit.{Sequence}
use Rattle.elf_symbols.specs.declared.symbols.Symbol.{Symbol}
use Rattle.elf_symbols.specs.Symbols.{ended, has_name, name_of}
use Rattle.line_remap.specs.Marks.{Mark, own_line}
use Rattle.line_remap.specs.Runs.{AreKept}
use Rattle.function_sequences.specs.Functions.{functions}
use Rattle.function_sequences.specs.Labels.{labelled}

-- ---- functions

-- the bytes of the file's section of this name, none if it has no such section
abbrev pub bytes_in : List ℕ → List ℕ → List ℕ
bytes_in file name = unwrap_or (section file name) []

-- the names of the symbols of a file
abbrev pub names_in : List ℕ → List ℕ
names_in file = ended (bytes_in file (codes ".strtab"))

-- the functions of a program, by their first addresses
abbrev pub functions_in : ImageParts → List (ℕ × Symbol)
functions_in image =
    functions image.areas (bytes_in image.file (codes ".symtab"))
    (bytes_in image.file (codes ".strtab"))

-- as their first addresses fall
abbrev pub falling : List (ℕ × Symbol) → List Symbol
falling found = reverse (map (λ (e : ℕ × Symbol). e.1) found)

-- the line that a function is
abbrev pub function_line : Index → List ℕ → Symbol → Line
function_line index names symbol =
    labelled (name_of names symbol) (own_line index symbol.address)

-- it has a name, and addresses of 64 bits
pub record IsNamed (names : List ℕ) (symbol : Symbol) : Type 0 where
  pub name : has_name names symbol ≡ true
  pub within : symbol.address + symbol.size < 2 ^ 64

pub record IsOfFunction (index : Index) (names : List ℕ) (symbol : Symbol)
    (s : Sequence) : Type 0 where
  pub line : line_of_sequence s ≡ function_line index names symbol
  pub address : s.address ≡ symbol.address
  pub size : s.size ≡ symbol.size

abbrev pub AreFunctions : Index → List ℕ → List Symbol → List Sequence → Type 0
AreFunctions index names symbols all = AllZip (IsOfFunction index names) symbols all

-- ---- the unit

-- the kept lines first, and then the functions as their addresses fall
abbrev pub AreSequences : ImageParts → Index → List Mark → List Sequence → Type 0
AreSequences image index marks all =
    (kept own : List Sequence) × (all ≡ kept ++ own) × AreKept index marks kept
    × AreFunctions index (names_in image.file) (falling (functions_in image)) own

-- a program, an index and marks have one such list at most
abbrev pub SequencesAreOne : Type 0
SequencesAreOne =
    (image : ImageParts) (index : Index) (marks : List Mark) (all others : List Sequence)
    → AreSequences image index marks all → AreSequences image index marks others
    → all ≡ others
