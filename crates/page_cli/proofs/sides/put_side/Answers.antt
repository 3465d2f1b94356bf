use Rattle.std.proofs.Common.{rules, List, ℕ, get_or, [], ap}
use Rattle.profile_book.proofs.Gathering.{gathers_as}
use Rattle.page_charts.proofs.Choices.{put_if, put_else}
use Rattle.page_cli.specs.Page.{figure_text}
use Rattle.page_cli.proofs.sides.put_side.Goals as goal

pub returns-then-eq : goal.returns-then-eq
returns-then-eq g c =
    put_if (search rules) (gathers_as (ap (λ (name : List ℕ). figure_text c.args.top name c.args.curve.now) c.name_at.ensures) c.put_figure.ensures)

pub returns-else-eq : goal.returns-else-eq
returns-else-eq g c = put_else c.args.out.now c.args.to.now (figure_text c.args.top (get_or c.args.points.now c.args.curve.now.point []) c.args.curve.now) (search rules)
