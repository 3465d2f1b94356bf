use Rattle.std.proofs.Common.{codes, decimal}
use Rattle.coz_files.proofs.GatheredLemmas.{gathers_then}
use Rattle.page_charts.proofs.Pieces.{two_then}
use Rattle.page_cli.proofs.page.put_pattern.Goals as goal

pub returns : goal.returns
returns g c =
    let count = two_then (codes ": ") (decimal c.args.count) c.put_html.ensures c.put_named.ensures in
    gathers_then (two_then (codes " of ") (decimal c.args.all) count c.put_named-2.ensures) c.push.ensures.gathers
