-- The verdict of a file that is to be a program with a line table, by what reading it came to.
use Rattle.std.proofs.Common.{◌≡◌, List, ℕ, Result, Ok, ap, sym, ◌∙◌}
use Rattle.coz_types.specs.Image.{ImageParts}
use Rattle.elf_load.specs.declared.ElfFault.{ElfFault}
use Rattle.elf_load.specs.Loaded.{load_answer}
use Rattle.dwarf_lines.specs.declared.LineFault.{LineFault}
use Rattle.failures.specs.declared.Failure.{Failure}
use Rattle.failures.specs.declared.Failure.TheVariants as reading
use Rattle.dwarf_lines.specs.Registers.{Table}
use Rattle.failures.specs.Answers.{Fails}
use Rattle.program_load.specs.LineTable.{table_in}
use Rattle.program_load.specs.Answer.{fault_verdict, IsMemoryFault}
use Rattle.program_load.specs.Causes.{reading_fault}
use Rattle.program_load.specs.Verdict.{Verdict, loaded_verdict, program_verdict, table_verdict}
use Rattle.program_load.proofs.Loads.{loaded_file}

abbrev on_table : List ℕ → (ImageParts → Table → Verdict) → ImageParts → Verdict
on_table file next image = table_verdict (table_in file) (next image)

program_verdict_at : (file : List ℕ) (next : ImageParts → Table → Verdict) (image : ImageParts) → load_answer file ≡ Ok image
    → table_verdict (table_in image.file) (next image) ≡ program_verdict file next
program_verdict_at file next image loads =
    ap (λ (f : List ℕ). on_table f next image) (sym (loaded_file file image loads))
    ∙ sym (ap (λ (r : Result ImageParts ElfFault). loaded_verdict r (on_table file next)) loads)

pub no_table : (file : List ℕ) (next : ImageParts → Table → Verdict) (image : ImageParts) (error : Failure LineFault) → load_answer file ≡ Ok image → Fails error (table_in image.file) → (IsMemoryFault (reading_fault error) → ⊥)
    → fault_verdict (reading_fault error) ≡ program_verdict file next
no_table file next image (reading.Fault fault) loads fails other = sym (ap (λ (r : Result Table LineFault). table_verdict r (next image)) fails) ∙ program_verdict_at file next image loads
no_table file next image reading.Memory loads fails other = absurd (other tt)

pub whole_program : (file : List ℕ) (next : ImageParts → Table → Verdict) (image : ImageParts) (table : Table) → load_answer file ≡ Ok image → table_in image.file ≡ Ok table
    → next image table ≡ program_verdict file next
whole_program file next image table loads reads = sym (ap (λ (r : Result Table LineFault). table_verdict r (next image)) reads) ∙ program_verdict_at file next image loads
