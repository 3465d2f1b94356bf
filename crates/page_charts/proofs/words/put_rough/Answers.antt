use Rattle.std.proofs.Common.{codes}
use Rattle.page_charts.proofs.Choices.{put_if, put_else}
use Rattle.page_charts.proofs.words.put_rough.Goals as goal

pub returns-then-rough : goal.returns-then-rough
returns-then-rough g c = put_if c.if-rough.true c.push.ensures.gathers

pub returns-else-rough : goal.returns-else-rough
returns-else-rough g c = put_else c.args.out.now c.args.to.now (codes ", goes up and down") c.if-rough.false
