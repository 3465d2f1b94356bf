use Rattle.std.proofs.Common.{rules, ◌==◌, ◌++◌, codes, decimal}
use Rattle.coz_files.proofs.GatheredLemmas.{gathers_then}
use Rattle.page_values.specs.Endings.{count_of}
use Rattle.page_charts.proofs.Pieces.{two_then}
use Rattle.page_charts.proofs.Choices.{put_unless, put_nothing}
use Rattle.page_cli.proofs.runs.put_kind.Goals as goal

pub returns-then-count-gt0 : goal.returns-then-count-gt0
returns-then-count-gt0 g c = put_unless (search rules) (gathers_then (two_then (codes ": ") (decimal (count_of c.args.kind.now c.args.summaries.now)) c.push.ensures.gathers (search rules)) c.push-then-count-gt0.ensures.gathers)

pub returns-else-count-gt0 : goal.returns-else-count-gt0
returns-else-count-gt0 g c = put_nothing {b = count_of c.args.kind.now c.args.summaries.now == 0} c.args.out.now c.args.to.now (c.args.kind.now ++ codes ": " ++ decimal (count_of c.args.kind.now c.args.summaries.now) ++ codes ". ") (search rules)
