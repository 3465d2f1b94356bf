use Rattle.std.proofs.Common.{◌++◌, codes, ap, ◌∙◌}
use Rattle.coz_types.specs.Labels.{Text}
use Rattle.coz_files.specs.InMemory.{entries}
use Rattle.coz_files.proofs.GatheredLemmas.{gathers_then}
use Rattle.profile_book.proofs.Gathering.{gathers_as}
use Rattle.page_values.specs.Sources.{look_up}
use Rattle.page_cli.specs.Lines.{label_text, line_beside}
use Rattle.page_cli.specs.Page.{mark_text, source_text}
use Rattle.page_cli.proofs.tables.put_name_cell.Goals as goal

pub returns : goal.returns
returns g c =
    let label = gathers_as (ap (λ (t : Text). codes "<tr><td>" ++ label_text t) c.bytes-label.ensures) c.put_label.ensures in
    let mark = gathers_then label (gathers_as (ap mark_text c.is_rough.ensures) c.put_mark.ensures) in
    let line = c.line_of.ensures ∙ ap (line_beside (look_up (entries c.args.view.now.sources.now))) c.bytes-label.ensures in
    gathers_then mark (gathers_as (ap source_text line) c.put_source.ensures)
