use Rattle.line_index.proofs.Covering.{reversed_many}
use Rattle.line_index.proofs.spans.row_spans.Goals as goal

pub returns-clause-as_many : goal.returns-clause-as_many
returns-clause-as_many c = reversed_many c.args.rows.now c.loop-i.i c.loop-i.spans.items c.reverse.new.self.items c.loop-i-test.false c.loop-i.invariant.spans c.reverse.ensures.items
