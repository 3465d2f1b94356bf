use Rattle.std.proofs.Common.{◌/◌, ◌%◌, codes, decimal}
use Rattle.coz_files.proofs.GatheredLemmas.{gathers_then}
use Rattle.page_charts.proofs.Pieces.{two_then}
use Rattle.page_charts.proofs.percent.put_size.Goals as goal

pub returns : goal.returns
returns g c =
    let tenths = two_then (codes ".") (decimal (c.args.n / 10 % 10)) c.put_big.ensures c.put_named.ensures in
    gathers_then (gathers_then tenths c.put_named-2.ensures) c.push.ensures.gathers
