use Rattle.std.proofs.Common.{ℤ, ◌++◌, Option, codes, ap, ◌∙◌}
use Rattle.std.specs.Prelude.{ℕ}
use Rattle.coz_files.proofs.GatheredLemmas.{gathers_then}
use Rattle.profile_book.proofs.Gathering.{gathers_as}
use Rattle.page_charts.specs.Values.{value_text, worst_text, cost_text}
use Rattle.page_charts.proofs.Pieces.{two_then}
use Rattle.page_values.specs.Harm.{worst_of}
use Rattle.page_values.specs.Cost.{cost_of}
use Rattle.page_values.specs.Shapes.{mean_of}
use Rattle.page_cli.proofs.tables.put_row.Goals as goal

pub returns : goal.returns
returns g c =
    let curve = c.args.curve.now in
    let cell = codes "</td><td>" in
    let steps = c.as_slice-steps.ensures in
    let of_label = c.cost_of-cost.ensures ∙ ap (cost_of c.args.summaries.now) c.bytes.ensures in
    let cost = two_then cell (cost_text (cost_of c.args.summaries.now curve.selected)) c.put_name_cell.ensures (gathers_as (ap (λ (n : Option ℕ). codes "</td><td>" ++ cost_text n) of_label) c.put_cost.ensures) in
    let middle = c.mean_of.ensures ∙ ap mean_of steps in
    let mean = two_then cell (value_text (mean_of curve.steps)) cost (gathers_as (ap (λ (v : Option ℤ). codes "</td><td>" ++ value_text v) middle) c.put_value.ensures) in
    let gain = two_then cell (value_text curve.gain) mean c.put_value-2.ensures in
    let least = c.worst_of.ensures ∙ ap worst_of steps in
    let harm = two_then cell (worst_text (worst_of curve.steps)) gain (gathers_as (ap (λ (v : Option ℤ). codes "</td><td>" ++ worst_text v) least) c.put_worst.ensures) in
    gathers_then (gathers_then (gathers_then harm c.push.ensures.gathers) c.put_small.ensures) c.push-2.ensures.gathers
