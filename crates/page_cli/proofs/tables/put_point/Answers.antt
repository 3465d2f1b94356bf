use Rattle.std.proofs.Common.{ℕ, List, ◌++◌, codes, decimal, ap, ap₂, ◌∙◌}
use Rattle.coz_types.specs.Labels.{Text}
use Rattle.coz_types.specs.declared.record.Summary.{Summary}
use Rattle.coz_files.proofs.GatheredLemmas.{gathers_then}
use Rattle.profile_book.proofs.Gathering.{gathers_as}
use Rattle.page_cli.specs.Lines.{label_text}
use Rattle.page_cli.specs.Runs.{visits_text}
use Rattle.page_cli.specs.Page.{point_name, point_number, rows_text, pictures_text, view_of}
use Rattle.page_charts.proofs.Pieces.{two_then}
use Rattle.page_cli.proofs.tables.put_point.Goals as goal

pub returns : goal.returns
returns g c =
    let curves = c.args.curves.now in
    let named = c.point_name-name.ensures ∙ ap (λ (ps : List Text). point_name ps curves) c.as_slice.ensures in
    let name = gathers_as (ap (λ (t : Text). codes "<details name=\"point\" open><summary>Progress point " ++ label_text t) named) c.put_label.ensures in
    let visits = gathers_as (ap₂ (λ (ss : List Summary) (n : ℕ). visits_text ss n) c.as_slice-summaries.ensures c.point_number-point.ensures) c.put_visits.ensures in
    let number = gathers_as (ap (λ (n : ℕ). codes "<table id=\"p" ++ decimal n) c.point_number-point.ensures) c.put_named.ensures in
    let head = two_then (codes "<table id=\"p") (decimal (point_number curves)) (gathers_then (gathers_then name c.push.ensures.gathers) visits) number in
    let rows = gathers_as (ap₂ (λ (top : ℕ) (ss : List Summary). rows_text top (view_of c.args.view.now) ss curves) c.top_of-top.ensures.top c.as_slice-summaries.ensures) c.put_table.ensures in
    let pictures = gathers_as (ap (λ (top : ℕ). pictures_text top c.args.view.now.most curves) c.top_of-top.ensures.top) c.put_pictures.ensures in
    gathers_then (gathers_then head rows) pictures
