use Rattle.std.proofs.Common.{ℕ, List, subst, sym}
use Rattle.elf_load.specs.Faults.{HasHeaders}
use Rattle.elf_load.proofs.Rows.{has_headers}
use Rattle.elf_load.proofs.section.Goals as goal

pub section_of-requires : goal.section_of-requires
section_of-requires c = subst (λ (file : List ℕ). HasHeaders file) (sym c.file.ensures.file) (has_headers c.args.image.now.file c.requires)
