use Rattle.std.proofs.Common.{◌++◌, codes, decimal, ap}
use Rattle.coz_types.specs.Labels.{Text}
use Rattle.coz_files.proofs.GatheredLemmas.{gathers_then}
use Rattle.profile_book.proofs.Gathering.{gathers_as}
use Rattle.causal_curves.proofs.writer.put_step.Goals as goal

pub returns : goal.returns
returns g c =
    let speedup = gathers_as (ap (λ n. codes "step\tspeedup=" ++ decimal n) c.from.ensures) c.put_named.ensures in
    let bar = gathers_as (ap (λ (t : Text). codes "\tbar=" ++ t) c.bar.ensures) c.put_field.ensures in
    gathers_then (gathers_then (gathers_then speedup c.put_value.ensures) bar) c.push.ensures.gathers
