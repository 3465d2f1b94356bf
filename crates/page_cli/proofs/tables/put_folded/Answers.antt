use Rattle.std.proofs.Common.{rules}
use Rattle.page_charts.proofs.Choices.{put_unless, put_nothing}
use Rattle.page_cli.specs.Page.{fold_text, view_of}
use Rattle.page_cli.proofs.tables.put_folded.Goals as goal

pub returns-then-number-gt0 : goal.returns-then-number-gt0
returns-then-number-gt0 g c = put_unless (search rules) c.put_fold.ensures

pub returns-else-number-gt0 : goal.returns-else-number-gt0
returns-else-number-gt0 g c = put_nothing c.args.out.now c.args.to.now (fold_text c.args.top (view_of c.args.view.now) c.args.summaries.now c.args.number c.args.curves.now) (search rules)
