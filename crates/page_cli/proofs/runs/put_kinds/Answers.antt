use Rattle.coz_files.proofs.GatheredLemmas.{gathers_then}
use Rattle.page_cli.proofs.runs.put_kinds.Goals as goal

pub returns : goal.returns
returns g c =
    let two = gathers_then c.put_kind.ensures c.put_kind-2.ensures in
    let four = gathers_then (gathers_then two c.put_kind-3.ensures) c.put_kind-4.ensures in
    let six = gathers_then (gathers_then four c.put_kind-5.ensures) c.put_kind-6.ensures in
    gathers_then six c.put_kind-7.ensures
