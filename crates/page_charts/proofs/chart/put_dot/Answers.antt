use Rattle.std.proofs.Common.{ℕ, ◌++◌, codes, decimal, ap, ◌∙◌}
use mir.Syntax.{w128}
use Rattle.std.proofs.lemmas.Int.{to_z-of_z}
use Rattle.coz_files.proofs.GatheredLemmas.{gathers_then}
use Rattle.profile_book.proofs.Gathering.{gathers_as}
use Rattle.page_values.specs.Places.{height, is_cut, place_across}
use Rattle.page_charts.specs.Values.{percent}
use Rattle.page_charts.specs.Charts.{dot_start}
use Rattle.page_charts.proofs.Pieces.{two_then}
use Rattle.page_charts.proofs.chart.put_dot.Goals as goal

pub returns : goal.returns
returns g c =
    let same = to_z-of_z w128 c.args.value c.ranges.value in
    let low = c.dot_start.ensures ∙ ap dot_start (c.is_cut.ensures ∙ ap (is_cut c.args.top) same) in
    let start = gathers_as low c.push.ensures.gathers in
    let across = gathers_as (ap (λ (n : ℕ). codes "\" r=\"14\" cx=\"" ++ decimal n) c.across.ensures) c.put_named.ensures in
    let left = two_then (codes "\" r=\"14\" cx=\"") (decimal (place_across c.args.speedup)) start across in
    let above = gathers_as (ap (λ (n : ℕ). codes "\" cy=\"" ++ decimal n) (c.height.ensures ∙ ap (height c.args.top) same)) c.put_named-2.ensures in
    let dot = two_then (codes "\" cy=\"") (decimal (height c.args.top c.args.value)) left above in
    let speedup = two_then (codes "\"><title>line ") (decimal c.args.speedup) dot c.put_named-3.ensures in
    gathers_then (gathers_then (gathers_then speedup c.push-2.ensures.gathers) (gathers_as (ap percent same) c.put_percent.ensures)) c.push-3.ensures.gathers
