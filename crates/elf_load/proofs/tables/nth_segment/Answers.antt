use Rattle.std.proofs.Common.{arith}
use Rattle.elf_load.proofs.Rows.{segment_fits}
use Rattle.elf_load.proofs.tables.nth_segment.Goals as goal

pub overflow_add-first : goal.overflow_add-first
overflow_add-first c = omega (arith, segment_fits c.args.file.now c.args.index c.requires.headers c.requires.within)

pub segment_at-requires : goal.segment_at-requires
segment_at-requires c = omega (arith, segment_fits c.args.file.now c.args.index c.requires.headers c.requires.within)
