use Rattle.std.proofs.Common.{codes, decimal}
use Rattle.coz_files.proofs.GatheredLemmas.{gathers_then}
use Rattle.page_charts.proofs.Pieces.{two_then}
use Rattle.page_cli.proofs.label.put_numbered.Goals as goal

pub returns : goal.returns
returns g c =
    gathers_then (two_then (codes "<span>:") (decimal c.args.number) c.put_bytes.ensures c.put_named.ensures) c.push.ensures.gathers
