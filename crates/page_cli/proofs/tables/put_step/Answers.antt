use Rattle.std.proofs.Common.{decimal, codes}
use Rattle.coz_files.proofs.GatheredLemmas.{gathers_then}
use Rattle.page_charts.proofs.Pieces.{two_then}
use Rattle.page_charts.specs.Values.{value_text}
use Rattle.page_cli.proofs.tables.put_step.Goals as goal

pub returns : goal.returns
returns g c =
    let speedup = two_then (codes "</td><td>") (decimal c.args.step.now.speedup) c.put_label.ensures c.put_named.ensures in
    gathers_then (two_then (codes "%</td><td>") (value_text c.args.step.now.value) speedup c.put_value.ensures) c.push.ensures.gathers
