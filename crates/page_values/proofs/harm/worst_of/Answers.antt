use Rattle.std.proofs.Common.{rules, ◌-◌, None, arith}
use Rattle.causal_curves.specs.declared.curve.CurveStep.{CurveStep}
use Rattle.page_values.proofs.Least.{worst_at_end, worst_counts, worst_stays}
use Rattle.page_values.proofs.harm.worst_of.Goals as goal

abbrev any : CurveStep
any = record { speedup = 0; value = None }

pub loop-i-init : goal.loop-i-init
loop-i-init c = worst_at_end c.args.steps.now

pub loop-i-preserved-then-is_faster : goal.loop-i-preserved-then-is_faster
loop-i-preserved-then-is_faster c = worst_counts c.args.steps.now (c.loop-i.i - 1) c.loop-i.i any c.loop-i.worst _ (omega arith) (omega arith) (search rules) (search rules) c.loop-i.invariant

pub loop-i-preserved : goal.loop-i-preserved
loop-i-preserved c = worst_stays c.args.steps.now (c.loop-i.i - 1) c.loop-i.i any c.loop-i.worst (omega arith) (omega arith) (search rules) c.loop-i.invariant
