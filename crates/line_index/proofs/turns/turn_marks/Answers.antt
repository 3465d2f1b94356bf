use Rattle.std.proofs.Common.{arith}
use Rattle.line_index.proofs.Marked.{turn_marked, turns_marked}
use Rattle.line_index.proofs.turns.turn_marks.Goals as goal

pub loop-change-preserved : goal.loop-change-preserved
loop-change-preserved c = record {
  few = omega (arith, c.loop-change.invariant.few, c.in_ok-add_turns.ensures.few);
  so_far = turn_marked c.args.changes.now c.loop-change.marks.items c.add_turns.new.marks.items c.loop-change.before c.loop-change.change-index _ c.loop-change-test.true c.in_ok-add_turns.ensures.added c.loop-change.invariant.so_far;
}

pub returns-clause-each : goal.returns-clause-each
returns-clause-each c = turns_marked c.args.changes.now c.loop-change.marks.items c.loop-change.before c.loop-change.change-index (omega (arith, c.loop-change-test.false)) c.loop-change.invariant.so_far
