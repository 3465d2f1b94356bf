use Rattle.std.proofs.Common.{ℕ, ◌++◌, codes, decimal, ap}
use Rattle.coz_types.specs.Labels.{Text}
use Rattle.coz_files.proofs.GatheredLemmas.{gathers_then}
use Rattle.profile_book.proofs.Gathering.{gathers_as}
use Rattle.timing_line.proofs.put_timing_line.Goals as goal

pub returns : goal.returns
returns g c =
    let cores = gathers_as (ap (λ (n : ℕ). codes "\tcores=" ++ decimal n) c.from.ensures) c.put_named.ensures in
    let charge = gathers_as (ap (λ (t : Text). codes "\tcharge=" ++ t) c.charge_name.ensures) c.put_field.ensures in
    gathers_then (gathers_then (gathers_then (gathers_then (gathers_then (gathers_then c.push.ensures.gathers cores) c.put_named-2.ensures) c.put_costs.ensures) charge) c.put_named-3.ensures) c.push-2.ensures.gathers
