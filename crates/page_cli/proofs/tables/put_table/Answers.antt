use Rattle.std.proofs.Common.{ℕ, ◌-◌, List, flat_map, length, ap, ap₂}
use Rattle.coz_files.proofs.GatheredLemmas.{gathers_then}
use Rattle.profile_book.proofs.Gathering.{gathers_as}
use Rattle.coz_files.specs.InMemory.{entries}
use Rattle.causal_curves.specs.declared.curve.Curve.{Curve}
use Rattle.page_values.specs.Sources.{look_up}
use Rattle.page_cli.specs.Page.{count_text, folded_text, row_text, view_of}
use Rattle.page_cli.proofs.tables.put_table.Goals as goal

pub returns : goal.returns
returns g c =
    let view = view_of c.args.view.now in
    let summaries = c.args.summaries.now in
    let n = length c.args.curves.now in
    let stands = c.standing-stands.ensures.count in
    let head = gathers_then c.push.ensures.gathers c.push-2.ensures.gathers in
    let rows = gathers_as (ap (flat_map (row_text c.args.top (look_up (entries c.args.view.now.sources.now)) summaries)) c.listed-first.ensures) c.put_rows.ensures in
    let count = gathers_as (ap (λ (k : ℕ). count_text c.args.view.now.most k n) stands) c.put_count.ensures in
    let behind = gathers_as (ap₂ (λ (k : ℕ) (cs : List Curve). folded_text c.args.top view summaries (n - k) cs) stands c.folded-behind.ensures) c.put_folded.ensures in
    gathers_then (gathers_then (gathers_then head rows) count) behind
