use Rattle.std.proofs.Common.{ℕ, List, ap₂}
use Rattle.std.specs.List.{flat_map}
use Rattle.profile_book.proofs.Gathering.{gathers_as}
use Rattle.causal_curves.specs.declared.curve.Curve.{Curve}
use Rattle.page_cli.specs.Page.{line_at}
use Rattle.page_cli.proofs.sides.put_lines.Goals as goal

pub returns : goal.returns
returns g c =
    gathers_as (ap₂ (λ (top : ℕ) (group : List Curve). flat_map (line_at top c.args.all.now.points.now c.args.all.now.curves.now) group) c.top_of.ensures.top c.listed.ensures) c.put_lines_of.ensures
