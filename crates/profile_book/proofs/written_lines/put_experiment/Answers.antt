use Rattle.std.proofs.Common.{◌++◌, codes, decimal, ap}
use Rattle.coz_types.specs.Labels.{Text}
use Rattle.coz_files.proofs.GatheredLemmas.{gathers_then}
use Rattle.profile_book.proofs.Gathering.{gathers_as}
use Rattle.profile_book.proofs.written_lines.put_experiment.Goals as goal

pub returns : goal.returns
returns g c =
    let selected = gathers_as (ap (λ (t : Text). codes "experiment\tselected=" ++ t) c.bytes.ensures) c.put_field.ensures in
    let speedup = gathers_as (ap (λ n. codes "\tspeedup=" ++ decimal n) c.from.ensures) c.put_named.ensures in
    let ending = gathers_then c.push.ensures.gathers c.put_ending.ensures in
    gathers_then (gathers_then (gathers_then (gathers_then (gathers_then (gathers_then (gathers_then selected speedup) ending) c.put_named-2.ensures) c.put_named-3.ensures) c.put_named-4.ensures) c.put_named-5.ensures) c.push-2.ensures.gathers
