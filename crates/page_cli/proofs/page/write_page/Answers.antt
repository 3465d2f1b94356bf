use Rattle.std.proofs.Common.{Bool, List, length, flat_map, ap, ap₂, ◌∙◌, subst}
use Rattle.coz_types.specs.Labels.{Text}
use Rattle.coz_files.specs.Gathered.{Gathers, Rest}
use Rattle.coz_files.proofs.GatheredLemmas.{gathers_then, puts_whole}
use Rattle.profile_book.proofs.Gathering.{gathers_as}
use Rattle.causal_curves.specs.declared.curve.Curve.{Curve}
use Rattle.page_words.specs.Words.{asked_of}
use Rattle.page_cli.specs.Page.{by_point, curves_page, chosen_text, choices_text, has_tables, harm_text, point_text, sides_text, view_of}
use Rattle.page_cli.proofs.page.write_page.Goals as goal

pub returns : goal.returns
returns g c =
    let r = c.args.ranked.now in
    let view = view_of c.args.view.now in
    let asked = asked_of r.asked in
    let file = asked.file in
    let page = curves_page view asked r.all r.profile r.curves r.harmful in
    let from_nothing : Rest → Type 0 = λ left. Gathers g.O.Sink.holds g.O.Sink.faults c.args.out.now c.push-3.new.sink left c.push-3.new.self page in
    let runs = gathers_then c.put_head.ensures c.put_runs.ensures in
    let chosen = gathers_as (ap (λ (cs : List Curve). chosen_text file (length cs) r.all) c.as_slice-curves.ensures) c.put_chosen.ensures in
    let choices = gathers_as (ap₂ (λ (b : Bool) (ps : List Text). choices_text b ps) (c.has_tables.ensures ∙ ap has_tables c.as_slice-curves.ensures) c.as_slice-points.ensures) (gathers_then (gathers_then c.push.ensures.gathers c.put_choices.ensures) c.push-2.ensures.gathers) in
    let before = gathers_then (gathers_then (gathers_then runs chosen) choices) c.put_nothing.ensures in
    let points = gathers_as (ap (λ (cs : List Curve). flat_map (point_text view r.profile) (by_point cs)) c.as_slice-curves.ensures) c.put_points.ensures in
    let sides = gathers_as (ap₂ (λ (ps : List Text) (cs : List Curve). sides_text view.most ps cs) c.as_slice-points.ensures c.as_slice-curves.ensures) c.put_all_points.ensures in
    let harms = gathers_as (ap (λ (cs : List Curve). flat_map (harm_text view r.profile) (by_point cs)) c.as_slice.ensures) c.put_harms.ensures in
    puts_whole (subst from_nothing c.new-buffer.ensures (gathers_then (gathers_then (gathers_then (gathers_then before points) sides) harms) c.push-3.ensures.gathers)) c.finish.ensures
