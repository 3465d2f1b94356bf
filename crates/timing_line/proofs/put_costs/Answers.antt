use Rattle.std.proofs.Common.{ℕ, ◌++◌, codes, decimal, ap}
use Rattle.coz_files.proofs.GatheredLemmas.{gathers_then}
use Rattle.profile_book.proofs.Gathering.{gathers_as}
use Rattle.timing_line.proofs.put_costs.Goals as goal

pub returns : goal.returns
returns g c =
    let integer = gathers_as (ap (λ (n : ℕ). codes "\tcosts=" ++ decimal n) c.from.ensures) c.put_named.ensures in
    let jump = gathers_as (ap (λ (n : ℕ). codes "," ++ decimal n) c.from-2.ensures) c.put_named-2.ensures in
    let load = gathers_as (ap (λ (n : ℕ). codes "," ++ decimal n) c.from-3.ensures) c.put_named-3.ensures in
    let multiply = gathers_as (ap (λ (n : ℕ). codes "," ++ decimal n) c.from-4.ensures) c.put_named-4.ensures in
    let atomic = gathers_as (ap (λ (n : ℕ). codes "," ++ decimal n) c.from-5.ensures) c.put_named-5.ensures in
    let divide = gathers_as (ap (λ (n : ℕ). codes "," ++ decimal n) c.from-6.ensures) c.put_named-6.ensures in
    let ecall = gathers_as (ap (λ (n : ℕ). codes "," ++ decimal n) c.from-7.ensures) c.put_named-7.ensures in
    gathers_then (gathers_then (gathers_then (gathers_then (gathers_then (gathers_then integer jump) load) multiply) atomic) divide) ecall
