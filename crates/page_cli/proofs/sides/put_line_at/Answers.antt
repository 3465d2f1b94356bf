use Rattle.std.proofs.Common.{sym, ap, ◌∙◌}
use Rattle.profile_book.proofs.Gathering.{gathers_as}
use Rattle.page_charts.proofs.Choices.{put_if, put_else}
use Rattle.page_cli.specs.Page.{line_text}
use Rattle.page_cli.proofs.sides.put_line_at.Goals as goal

pub returns-then-is_shown : goal.returns-then-is_shown
returns-then-is_shown g c =
    put_if (sym c.is_shown.ensures ∙ c.if-is_shown.true) (gathers_as (ap (line_text c.args.top c.args.all.now.points.now c.args.all.now.curves.now) c.bytes.ensures) c.put_line.ensures)

pub returns-else-is_shown : goal.returns-else-is_shown
returns-else-is_shown g c = put_else c.args.out.now c.args.to.now (line_text c.args.top c.args.all.now.points.now c.args.all.now.curves.now c.args.curve.now.selected) (sym c.is_shown.ensures ∙ c.if-is_shown.false)
