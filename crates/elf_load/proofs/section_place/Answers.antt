use Rattle.std.proofs.Common.{ℕ, List, subst, sym}
use Rattle.elf_load.specs.Faults.{HasHeaders}
use Rattle.elf_load.proofs.Rows.{has_headers}
use Rattle.elf_load.proofs.section_place.Goals as goal

pub named_section-requires : goal.named_section-requires
named_section-requires c = subst (λ (file : List ℕ). HasHeaders file) (sym c.file.ensures.file) (has_headers c.args.image.now.file c.requires)
