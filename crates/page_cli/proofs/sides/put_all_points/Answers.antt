use Rattle.std.proofs.Common.{rules}
use Rattle.page_charts.proofs.Choices.{put_if, put_else}
use Rattle.page_cli.specs.Page.{all_lines_text}
use Rattle.page_cli.proofs.sides.put_all_points.Goals as goal

pub returns-then-not-is_empty : goal.returns-then-not-is_empty
returns-then-not-is_empty g c = put_if (search rules) c.put_all_lines.ensures

pub returns-else-points-gt1 : goal.returns-else-points-gt1
returns-else-points-gt1 g c = put_else c.args.out.now c.args.to.now (all_lines_text c.args.most c.args.all.now.points.now c.args.all.now.curves.now) (search rules)
