use Rattle.std.proofs.Common.{◌==◌}
use Rattle.virtual_run.proofs.Leads.{then_unstarted, else_unstarted}
use Rattle.virtual_run.proofs.machine.is_unstarted.Goals as goal

pub returns-then-is_none : goal.returns-then-is_none
returns-then-is_none c = then_unstarted c.args.engine.now.ending c.is_none.result (c.args.engine.now.starts == 0) c.is_none.ensures c.if-is_none.true

pub returns-else-is_none : goal.returns-else-is_none
returns-else-is_none c = else_unstarted c.args.engine.now.ending c.is_none.result (c.args.engine.now.starts == 0) c.is_none.ensures c.if-is_none.false
