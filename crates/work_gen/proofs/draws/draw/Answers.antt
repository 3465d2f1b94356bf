use Rattle.std.proofs.Common.{ap, arith}
use Rattle.work_gen.specs.Text.{draw_of}
use Rattle.work_gen.proofs.draws.draw.Goals as goal

pub returns-clause-after : goal.returns-clause-after
returns-clause-after c = omega arith

pub returns-clause-number : goal.returns-clause-number
returns-clause-number c = ap draw_of (returns-clause-after c)
