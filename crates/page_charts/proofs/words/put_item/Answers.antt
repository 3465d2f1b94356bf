use Rattle.std.proofs.Common.{codes}
use Rattle.coz_files.proofs.GatheredLemmas.{gathers_then}
use Rattle.page_charts.proofs.Pieces.{two_then}
use Rattle.page_charts.specs.Values.{value_text}
use Rattle.page_charts.proofs.words.put_item.Goals as goal

pub returns : goal.returns
returns g c =
    gathers_then (two_then (codes "% faster: ") (value_text c.args.step.now.value) c.put_named.ensures c.put_value.ensures) c.push.ensures.gathers
