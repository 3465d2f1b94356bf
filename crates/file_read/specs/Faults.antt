-- The status of a fault, and its text after the program's name.
use Rattle.std.specs.Prelude.{ℕ, List, ◌++◌, codes}
use Rattle.coz_files.specs.Verdict.{Verdict, refusal}
use Rattle.file_read.specs.declared.fault.FileFault.{FileFault}
use Rattle.file_read.specs.declared.fault.FileFault.TheVariants.{Usage, Read, Write, Long, Memory}

abbrev pub file_status : FileFault → ℕ
file_status Usage = 2
file_status (Read path) = 5
file_status Write = 6
file_status (Long path) = 8
file_status Memory = 10

abbrev pub file_line : FileFault → List ℕ
file_line Usage = codes "usage"
file_line (Read path) = codes "read: " ++ path.now
file_line Write = codes "write"
file_line (Long path) = codes "long: " ++ path.now
file_line Memory = codes "memory"

abbrev pub file_refusal : FileFault → Verdict
file_refusal fault = refusal (file_status fault) (file_line fault)
