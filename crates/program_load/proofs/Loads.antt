-- An image that was loaded keeps its file.
use Rattle.std.proofs.Common.{◌≡◌, List, ℕ, Option, Some, None, Result, Ok, Err, ap}
use Rattle.coz_types.specs.Image.{ImageParts}
use Rattle.elf_load.specs.declared.ElfFault.{ElfFault}
use Rattle.elf_load.specs.Faults.{fault}
use Rattle.elf_load.specs.Loaded.{image, load_answer}

-- what a file loads as, by its fault
abbrev loaded_by : List ℕ → Option ElfFault → Result ImageParts ElfFault
loaded_by file None = Ok (image file)
loaded_by file (Some f) = Err f

abbrev file_or : List ℕ → Result ImageParts ElfFault → List ℕ
file_or file (Ok parts) = parts.file
file_or file (Err f) = file

kept : (file : List ℕ) (found : Option ElfFault) (parts : ImageParts) → loaded_by file found ≡ Ok parts → file ≡ parts.file
unfolding image
kept file None parts is = ap (file_or file) is
kept file (Some f) parts is = let no : ⊥ = cc in absurd no

pub loaded_file : (file : List ℕ) (parts : ImageParts) → load_answer file ≡ Ok parts → file ≡ parts.file
unfolding load_answer
loaded_file file parts is = kept file (fault file) parts is
