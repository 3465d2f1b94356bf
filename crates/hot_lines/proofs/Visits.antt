-- Visits without a delay.
use Rattle.std.proofs.Common.{◌≡◌, ◌≤◌, List, All, arith}
use Rattle.coz_types.specs.declared.record.Visit.{Visit}

pub in_time : (visits : List Visit) → All (λ (visit : Visit). visit.delay ≡ 0) visits → All (λ (visit : Visit). visit.delay ≤ visit.time) visits
in_time visits undelayed = λ k other below. let none = undelayed k other below in omega (arith, none)
