use Rattle.std.proofs.Common.{arith}
use Rattle.line_index.proofs.Marked.{start_marked, starts_marked}
use Rattle.line_index.proofs.entries.start_marks.Goals as goal

pub loop-change-preserved : goal.loop-change-preserved
loop-change-preserved c = record {
  few = omega (arith, c.loop-change.invariant.few, c.in_ok-add_start.ensures.few);
  so_far = start_marked c.args.changes.now c.loop-change.marks.items c.add_start.new.marks.items c.loop-change.before c.loop-change.change-index _ c.loop-change-test.true c.in_ok-add_start.ensures.added c.loop-change.invariant.so_far;
}

pub returns-clause-each : goal.returns-clause-each
returns-clause-each c = starts_marked c.args.changes.now c.loop-change.marks.items c.loop-change.before c.loop-change.change-index (omega (arith, c.loop-change-test.false)) c.loop-change.invariant.so_far
