use Rattle.std.proofs.Common.{◌∙◌}
use Rattle.run_engine.proofs.Keys.{runs_least}
use Rattle.run_engine.proofs.engine.has_due_any.Goals as goal

pub returns : goal.returns
returns c = c.is_some.ensures ∙ runs_least c.args.schedule.now c.least.result c.least.ensures
