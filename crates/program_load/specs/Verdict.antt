-- What the steps that commands share give, and what follows each. The line of a verdict is what
-- stands after the program's name.
use Rattle.std.specs.Prelude.{ℕ, List, length, nat_lt, Result, Ok, Err, if◌then◌else◌}
use Rattle.coz_types.specs.declared.TheConstants.{MAX_POINTS}
use Rattle.coz_types.specs.Image.{ImageParts}
pub use Rattle.coz_files.specs.Verdict.{Verdict, refusal, text_verdict}
pub use Rattle.file_read.specs.Reading.{read_verdict}
use Rattle.coz_words.specs.Said.{Text}
use Rattle.elf_load.specs.declared.ElfFault.{ElfFault}
use Rattle.elf_load.specs.Loaded.{load_answer}
use Rattle.dwarf_lines.specs.declared.LineFault.{LineFault}
use Rattle.dwarf_lines.specs.Registers.{Table}
use Rattle.program_load.specs.LineTable.{table_in}
use Rattle.program_load.specs.FaultLines.{program_line, table_line, no_line_line, points_line}

-- of the program that a file is, if it is one, and of what follows
abbrev pub loaded_verdict : Result ImageParts ElfFault → (ImageParts → Verdict) → Verdict
loaded_verdict (Err fault) next = refusal 3 (program_line fault)
loaded_verdict (Ok image) next = next image

-- of a line table, if there is one, and of what follows
abbrev pub table_verdict : Result Table LineFault → (Table → Verdict) → Verdict
table_verdict (Err fault) next = refusal 4 (table_line fault)
table_verdict (Ok table) next = next table

-- of a file that is to be a program with a line table, and of what follows
abbrev pub program_verdict : List ℕ → (ImageParts → Table → Verdict) → Verdict
program_verdict file next =
    loaded_verdict (load_answer file) (λ image. table_verdict (table_in file) (next image))

-- of lines that are named, if the program has them, and of what follows
abbrev pub named_verdict : {A : Type 0} → Result A Text → (A → Verdict) → Verdict
named_verdict (Err piece) next = refusal 7 (no_line_line piece)
named_verdict (Ok named) next = next named

-- of progress points, if there are at most 64, and of what follows
abbrev pub points_verdict : List ℕ → (List ℕ → Verdict) → Verdict
points_verdict points next =
    if nat_lt MAX_POINTS (length points) then refusal 7 (points_line (length points))
    else next points
