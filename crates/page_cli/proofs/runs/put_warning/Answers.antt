use Rattle.std.proofs.Common.{rules, ap}
use Rattle.profile_book.proofs.Gathering.{gathers_as}
use Rattle.page_cli.specs.Runs.{warned}
use Rattle.page_values.specs.Endings.{others_of}
use Rattle.std.specs.Prelude.{ℕ}
use Rattle.page_charts.proofs.Choices.{put_unless, put_nothing}
use Rattle.page_cli.proofs.runs.put_warning.Goals as goal

pub returns-then-others-ne0 : goal.returns-then-others-ne0
returns-then-others-ne0 g c = put_unless (search rules) (gathers_as (ap (λ (n : ℕ). warned n c.args.summaries.now) c.others_of-others.ensures) c.put_warned.ensures)

pub returns-else-others-ne0 : goal.returns-else-others-ne0
returns-else-others-ne0 g c = put_nothing c.args.out.now c.args.to.now (warned (others_of c.args.summaries.now) c.args.summaries.now) (search rules)
