use Rattle.std.proofs.Common.{List, ℕ, sym, ap, ◌∙◌}
use Rattle.profile_book.proofs.Gathering.{gathers_as}
use Rattle.page_charts.proofs.Choices.{put_if, put_else}
use Rattle.page_cli.specs.Page.{figure_text}
use Rattle.page_cli.proofs.tables.put_figure_at.Goals as goal

pub returns-then-is_notable : goal.returns-then-is_notable
returns-then-is_notable g c =
    put_if (sym c.is_notable.ensures ∙ c.if-is_notable.true) (gathers_as (ap (λ (name : List ℕ). figure_text c.args.top name c.args.curve.now) c.bytes.ensures) c.put_figure.ensures)

pub returns-else-is_notable : goal.returns-else-is_notable
returns-else-is_notable g c = put_else c.args.out.now c.args.to.now (figure_text c.args.top c.args.curve.now.selected c.args.curve.now) (sym c.is_notable.ensures ∙ c.if-is_notable.false)
