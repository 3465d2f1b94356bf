-- A line unit of version 4 in which each sequence is one line (DWARF 4, section 6.2).
use Rattle.std.specs.Prelude.{ℕ, suc, ◌+◌, ◌<◌, ◌^◌, ◌==◌, not, List, [], ◌∷◌, ◌++◌, map, flat_map, length}
use Rattle.std.specs.List.{AllPass}
use Rattle.byte_write.specs.Numbers.{half, word}
use Rattle.byte_write.specs.Programs.{sequence}
use Rattle.line_write.specs.declared.Sequence.{Sequence as coded}

-- the addresses from a first one on that have this line, and the path of its file
pub record Sequence : Type 0 where
  pub path : List ℕ
  pub number : ℕ
  pub address : ℕ
  pub size : ℕ

-- a sequence without where its path lies in memory
abbrev pub view : coded → Sequence
view s = record { path = s.path.items; number = s.number; address = s.address; size = s.size }

abbrev pub views : List coded → List Sequence
views sequences = map view sequences

-- a path that is a text, a line, and addresses of 64 bits
pub record IsWritable (s : Sequence) : Type 0 where
  pub named : 0 < length s.path
  pub text : AllPass (λ b. not (b == 0)) s.path
  pub numbered : 0 < s.number
  pub small : s.number < 2 ^ 32
  pub within : s.address + s.size < 2 ^ 64

-- ---- counts

-- the bytes, after their count in four bytes
abbrev pub with_count : List ℕ → List ℕ
with_count bytes = word (length bytes) ++ bytes

-- ---- the header (6.2.4)

-- minimum_instruction_length 4, line_base -5, line_range 14, opcode_base 13, and the lengths
-- of opcodes 1 to 12
abbrev pub numbers : List ℕ
numbers =
    4 ∷ 1 ∷ 1 ∷ 0xFB ∷ 14 ∷ 13 ∷ []
    ++ 0 ∷ 1 ∷ 1 ∷ 1 ∷ 1 ∷ 0 ∷ 0 ∷ 0 ∷ 1 ∷ 0 ∷ 0 ∷ 1 ∷ []

-- a file of no directory
abbrev pub file_entry : Sequence → List ℕ
file_entry s = s.path ++ 0 ∷ 0 ∷ 0 ∷ 0 ∷ []

-- no directory, and the file of each sequence
abbrev pub header : List Sequence → List ℕ
header all = (numbers ++ 0 ∷ []) ++ (flat_map file_entry all ++ 0 ∷ [])

-- ---- the program (6.2.5)

-- the sequence whose file has this number
abbrev pub spelled : ℕ → Sequence → List ℕ
spelled file s = sequence file s.number s.address s.size

-- the sequences whose files have the numbers from this one on
abbrev pub program : ℕ → List Sequence → List ℕ
program file [] = []
program file (s ∷ more) = spelled file s ++ program (suc file) more

-- ---- the unit

-- the version, the header after its length, and the program
abbrev pub body : List ℕ → List ℕ → List ℕ
body header program = half 4 ++ (with_count header ++ program)

unfoldable pub unit : List Sequence → List ℕ
unit all = with_count (body (header all) (program 1 all))
