use Rattle.std.proofs.Common.{rules, codes}
use Rattle.page_charts.proofs.Choices.{put_if, put_else}
use Rattle.page_charts.proofs.percent.put_threads.Goals as goal

pub returns-then-cost-gt-MAX_SIZE : goal.returns-then-cost-gt-MAX_SIZE
returns-then-cost-gt-MAX_SIZE g c = put_if (search rules) c.push.ensures.gathers

pub returns-else-cost-gt-MAX_SIZE : goal.returns-else-cost-gt-MAX_SIZE
returns-else-cost-gt-MAX_SIZE g c = put_else c.args.out.now c.args.to.now (codes "<br><small>several threads at once</small>") (search rules)
