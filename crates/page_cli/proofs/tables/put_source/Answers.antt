use Rattle.std.proofs.Common.{rules, ◌++◌, codes}
use Rattle.coz_files.proofs.GatheredLemmas.{gathers_then}
use Rattle.page_values.specs.Labels.{html}
use Rattle.page_charts.proofs.Choices.{put_unless, put_nothing}
use Rattle.page_cli.proofs.tables.put_source.Goals as goal

pub returns-then-not-is_empty : goal.returns-then-not-is_empty
returns-then-not-is_empty g c = put_unless (search rules) (gathers_then c.put_html.ensures c.push.ensures.gathers)

pub returns-else-not-is_empty : goal.returns-else-not-is_empty
returns-else-not-is_empty g c = put_nothing c.args.out.now c.args.to.now (codes "<br><code>" ++ html c.args.line.now ++ codes "</code>") (search rules)
