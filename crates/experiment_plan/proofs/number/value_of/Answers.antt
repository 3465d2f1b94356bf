use Rattle.std.proofs.Common.{rules, ◌<◌, ◌*◌, ◌^◌, arith}
use Rattle.experiment_plan.proofs.Numbers.{step, fits}
use Rattle.experiment_plan.proofs.number.value_of.Goals as goal

pub overflow_mul-value : goal.overflow_mul-value
overflow_mul-value c =
    let f = fits c.args.digits.now c.loop-digit.digit-index c.loop-digit.value c.requires (search rules) c.loop-digit.invariant in
    let small : c.loop-digit.value * 10 < 2 ^ 128 = omega arith in
    search rules

pub overflow_add-value : goal.overflow_add-value
overflow_add-value c =
    let f = fits c.args.digits.now c.loop-digit.digit-index c.loop-digit.value c.requires (search rules) c.loop-digit.invariant in
    search rules

pub loop-digit-preserved : goal.loop-digit-preserved
loop-digit-preserved c = step c.args.digits.now c.loop-digit.digit-index c.loop-digit.value c.requires (search rules) c.loop-digit.invariant
