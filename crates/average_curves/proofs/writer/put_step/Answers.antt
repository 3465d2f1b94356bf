use Rattle.std.proofs.Common.{◌++◌, codes, decimal, ap}
use Rattle.coz_files.proofs.GatheredLemmas.{gathers_then}
use Rattle.profile_book.proofs.Gathering.{gathers_as}
use Rattle.average_curves.proofs.writer.put_step.Goals as goal

pub returns : goal.returns
returns g c =
    let speedup = gathers_as (ap (λ n. codes "step\tspeedup=" ++ decimal n) c.from.ensures) c.put_named.ensures in
    gathers_then (gathers_then (gathers_then speedup c.put_value.ensures) c.put_number.ensures) c.push.ensures.gathers
