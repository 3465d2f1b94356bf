use Rattle.std.proofs.Common.{Contains, arith}
use Rattle.dwarf_lines.specs.Registers.{File}
use Rattle.line_index.specs.Lines.{path}
use Rattle.line_index.proofs.Found.{file_at}
use Rattle.line_index.specs.Keys.{texts}
use Rattle.line_index.proofs.paths.path_positions.Goals as goal

pub path_position-requires-clause-one : goal.path_position-requires-clause-one
path_position-requires-clause-one c = file_at (λ (file : File). Contains (texts c.args.paths.now) (path file)) c.args.entries.now c.loop-entry.entry-index _ (omega arith) c.requires.each
