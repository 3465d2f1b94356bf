use Rattle.std.proofs.Common.{arith}
use Rattle.experiment_plan.proofs.Cuts.{line_number}
use Rattle.experiment_plan.proofs.line.line_parts.Goals as goal

pub value_of-requires : goal.value_of-requires
value_of-requires c = (line_number c.args.text.now c.cut_at_last_colon.result.1.now c.requires c.cut_at_last_colon.ensures.after).0

pub overflow_cast-result : goal.overflow_cast-result
overflow_cast-result c =
    let small = (line_number c.args.text.now c.cut_at_last_colon.result.1.now c.requires c.cut_at_last_colon.ensures.after).1 in
    omega (arith, small, c.value_of.ensures)
