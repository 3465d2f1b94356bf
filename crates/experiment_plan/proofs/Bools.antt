-- Facts of tests.
use Rattle.std.proofs.Common.{◌≡◌, Bool, true, false, not, ◌&&◌, refl}

pub both_true : (a b : Bool) → (a && b) ≡ true → (a ≡ true) × (b ≡ true)
both_true true b e = (refl, e)
both_true false b e = absurd cc

pub not_not : (b : Bool) → false ≡ not b → b ≡ true
not_not true e = refl
not_not false e = absurd cc
