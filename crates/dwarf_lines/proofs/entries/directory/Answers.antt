use Rattle.std.proofs.Common.{arith}
use Rattle.dwarf_lines.proofs.Steps.{directory_at}
use Rattle.dwarf_lines.proofs.entries.directory.Goals as goal

pub returns-then-number-directories : goal.returns-then-number-directories
returns-then-number-directories c = directory_at c.args.directories.now c.args.number _ (omega arith) (omega arith)
