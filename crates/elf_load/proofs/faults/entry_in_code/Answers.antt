use Rattle.std.proofs.Common.{arith}
use Rattle.elf_load.proofs.Rows.{room}
use Rattle.elf_load.proofs.faults.entry_in_code.Goals as goal

pub double_at-entry-requires : goal.double_at-entry-requires
double_at-entry-requires c = omega (arith, room c.args.file.now c.requires)
