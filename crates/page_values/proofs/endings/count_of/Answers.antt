use Rattle.std.proofs.Common.{rules, arith}
use Rattle.page_values.specs.Endings.{ended_so}
use Rattle.page_values.proofs.Counts.{counted, at_most_one}
use Rattle.page_values.proofs.endings.count_of.Goals as goal

pub loop-summary-preserved : goal.loop-summary-preserved
loop-summary-preserved c =
    let so_far = c.loop-summary.invariant in
    let more = c.counted-count.ensures in
    let one = at_most_one (ended_so c.args.kind.now c.summary-item.result) in
    record {
      count = counted (ended_so c.args.kind.now) c.args.summaries.now c.loop-summary.summary-index c.loop-summary.count c.counted-count.result c.summary-item.result (search rules) (search rules) more so_far.count;
      within = omega (arith, more, one, so_far.within);
    }
