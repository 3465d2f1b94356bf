use Rattle.std.proofs.Common.{codes}
use Rattle.page_charts.proofs.Choices.{put_if, put_else}
use Rattle.page_cli.proofs.tables.put_mark.Goals as goal

pub returns-then-rough : goal.returns-then-rough
returns-then-rough g c = put_if c.if-rough.true c.push.ensures.gathers

pub returns-else-rough : goal.returns-else-rough
returns-else-rough g c = put_else c.args.out.now c.args.to.now (codes "<br><small>goes up and down</small>") c.if-rough.false
