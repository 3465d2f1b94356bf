use Rattle.std.proofs.Common.{rules, ◌-◌, arith}
use Rattle.page_values.proofs.Turns.{gain_at_end, gain_more}
use Rattle.page_values.proofs.ranks.greatest_gain.Goals as goal

pub loop-i-init : goal.loop-i-init
loop-i-init c = gain_at_end c.args.curves.now

pub loop-i-preserved : goal.loop-i-preserved
loop-i-preserved c =
    gain_more c.args.curves.now (c.loop-i.i - 1) c.loop-i.i c.index-curves-i.result c.loop-i.gain c.greater-gain.result (omega arith) (omega arith) (search rules) c.loop-i.invariant
