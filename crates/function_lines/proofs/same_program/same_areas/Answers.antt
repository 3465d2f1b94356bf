use Rattle.std.proofs.Common.{sym}
use Rattle.function_lines.proofs.SameAreas.{not_as_many}
use Rattle.function_lines.proofs.same_program.same_areas.Goals as goal

pub returns-then-areas-copies : goal.returns-then-areas-copies
returns-then-areas-copies c = sym (not_as_many c.args.file.now c.args.other.now c.args.areas.now c.args.copies.now c.if-areas-copies.true)
