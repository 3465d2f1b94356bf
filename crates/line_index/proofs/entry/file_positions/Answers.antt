use Rattle.std.proofs.Common.{arith}
use Rattle.line_index.proofs.Placing.{file_among}
use Rattle.line_index.proofs.entry.file_positions.Goals as goal

pub position_of-requires-clause-one : goal.position_of-requires-clause-one
position_of-requires-clause-one c = file_among c.args.entries.now c.args.files.now c.loop-file.file-index _ (omega arith) c.requires.each
