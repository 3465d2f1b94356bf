use Rattle.std.proofs.Common.{ℕ, ◌++◌, codes, decimal, ap, ◌∙◌}
use mir.Syntax.{w128}
use Rattle.std.proofs.lemmas.Int.{to_z-of_z}
use Rattle.profile_book.proofs.Gathering.{gathers_as}
use Rattle.page_values.specs.Places.{height}
use Rattle.page_charts.proofs.Pieces.{two_then}
use Rattle.page_charts.proofs.chart.put_place.Goals as goal

pub returns : goal.returns
returns g c =
    let at = c.height.ensures ∙ ap (height c.args.top) (to_z-of_z w128 c.args.value c.ranges.value) in
    two_then (codes ",") (decimal (height c.args.top c.args.value))
    (gathers_as (ap (λ (n : ℕ). codes " " ++ decimal n) c.across.ensures) c.put_named.ensures)
    (gathers_as (ap (λ (n : ℕ). codes "," ++ decimal n) at) c.put_named-2.ensures)
