use Rattle.std.proofs.Common.{rules, ap}
use Rattle.coz_types.specs.Labels.{Text}
use Rattle.profile_book.proofs.Gathering.{gathers_as}
use Rattle.causal_curves.specs.Curves.{label_in}
use Rattle.page_charts.proofs.Choices.{put_unless, put_nothing}
use Rattle.page_cli.specs.Runs.{speedups_of}
use Rattle.page_cli.proofs.runs.put_speedups.Goals as goal

pub returns-then-not-is_empty : goal.returns-then-not-is_empty
returns-then-not-is_empty g c =
    put_unless (search rules) (gathers_as (ap (λ (label : Text). speedups_of label c.args.summaries.now) c.label_in.ensures) c.put_speedups_of.ensures)

pub returns-else-not-is_empty : goal.returns-else-not-is_empty
returns-else-not-is_empty g c = put_nothing c.args.out.now c.args.to.now (speedups_of (label_in c.args.summaries.now) c.args.summaries.now) (search rules)
