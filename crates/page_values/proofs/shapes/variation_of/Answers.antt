use Rattle.std.proofs.Common.{rules, ◌-◌, None, arith}
use Rattle.causal_curves.specs.declared.curve.CurveStep.{CurveStep}
use Rattle.page_values.proofs.Turns.{first_at_end, first_more, variation_at_end, variation_more}
use Rattle.page_values.proofs.shapes.variation_of.Goals as goal

abbrev any : CurveStep
any = record { speedup = 0; value = None }

pub loop-i-init : goal.loop-i-init
loop-i-init c = record {
  next = first_at_end c.args.steps.now;
  variation = variation_at_end c.args.steps.now;
  within = omega arith;
}

pub loop-i-preserved : goal.loop-i-preserved
loop-i-preserved c =
    let so_far = c.loop-i.invariant in
    let i = c.loop-i.i in
    record {
      next = first_more c.args.steps.now (i - 1) i any c.loop-i.next _ (omega arith) (omega arith) (search rules) so_far.next;
      variation = variation_more c.args.steps.now (i - 1) i any c.loop-i.next c.loop-i.variation _ (omega arith) (omega arith) (search rules) so_far.next so_far.variation;
      within = omega (arith, so_far.within, c.gap.ensures.within);
    }
