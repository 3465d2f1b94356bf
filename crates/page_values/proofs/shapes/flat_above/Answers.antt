use Rattle.std.proofs.Common.{rules, ◌≡◌, ℕ, ◌+◌, ◌-◌, nat_lt, length, None, ap, arith}
use Rattle.causal_curves.specs.declared.curve.CurveStep.{CurveStep}
use Rattle.page_values.proofs.Turns.{all_at_end, all_more, flat_at_end, flat_more}
use Rattle.page_values.proofs.shapes.flat_above.Goals as goal

abbrev any : CurveStep
any = record { speedup = 0; value = None }

pub loop-i-init : goal.loop-i-init
loop-i-init c = record {
  all = all_at_end c.args.gain c.args.steps.now;
  from = flat_at_end c.args.gain c.args.steps.now;
}

pub loop-i-preserved : goal.loop-i-preserved
loop-i-preserved c =
    let so_far = c.loop-i.invariant in
    let i = c.loop-i.i in
    let steps = c.args.steps.now in
    let all = all_more c.args.gain steps (i - 1) i any c.loop-i.all c.keep_on-all.result (omega arith) (omega arith) (search rules) so_far.all in
    let next : i - 1 + 1 ≡ i = omega arith in
    record {
      all = all;
      from = flat_more c.args.gain steps (i - 1) i any (nat_lt (i - 1 + 1) (length steps)) c.keep_on-all.result c.loop-i.from c.flat_at-from.result (omega arith) (omega arith) (ap (λ (k : ℕ). nat_lt k (length steps)) next) all (search rules) so_far.from;
    }
