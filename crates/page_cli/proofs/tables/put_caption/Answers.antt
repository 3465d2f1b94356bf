use Rattle.coz_files.proofs.GatheredLemmas.{gathers_then}
use Rattle.page_values.specs.Labels.{html}
use Rattle.page_charts.proofs.Pieces.{two_then}
use Rattle.page_cli.specs.declared.frame.TheConstants.{PICTURE}
use Rattle.page_cli.proofs.tables.put_caption.Goals as goal

pub returns : goal.returns
returns g c =
    let above = gathers_then c.put_label.ensures c.put_gain.ensures in
    let read = two_then PICTURE.now (html c.args.name.now) above c.put_html.ensures in
    gathers_then (gathers_then read c.put_gain-2.ensures) c.push.ensures.gathers
