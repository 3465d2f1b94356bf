use Rattle.std.proofs.Common.{codes}
use Rattle.coz_files.proofs.GatheredLemmas.{gathers_then}
use Rattle.page_values.specs.Labels.{html}
use Rattle.page_charts.proofs.Pieces.{two_then}
use Rattle.page_cli.proofs.page.put_other.Goals as goal

pub returns : goal.returns
returns g c =
    gathers_then (two_then (codes "\">") (html c.args.path.now) c.put_html.ensures c.put_html-2.ensures) c.push.ensures.gathers
