use Rattle.std.proofs.Common.{arith}
use Rattle.elf_load.proofs.Rows.{section_fits}
use Rattle.elf_load.proofs.tables.nth_section.Goals as goal

pub overflow_add-first : goal.overflow_add-first
overflow_add-first c = omega (arith, section_fits c.args.file.now c.args.index c.requires.headers c.requires.within)

pub section_at-requires : goal.section_at-requires
section_at-requires c = omega (arith, section_fits c.args.file.now c.args.index c.requires.headers c.requires.within)
