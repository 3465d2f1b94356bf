-- The bytes of a visit, computed.
use Rattle.std.proofs.Common.{◌≡◌, [], ◌∷◌, refl}
use Rattle.machines.specs.Delayed.{Visit}
use Rattle.machines.specs.Records.{net_visit}
use Rattle.run_summary.specs.Kept.{visit_bytes, counts_of}

-- a visit of point 0 by hart 1 at the real time 4550, when the delay was 50
abbrev seen : Visit
seen = record { point = 0; hart = 1; time = 4550; delay = 50 }

pub seen_bytes : visit_bytes (net_visit seen) ≡ 0 ∷ 0 ∷ 1 ∷ 0 ∷ 0x94 ∷ 0x11 ∷ 0 ∷ 0 ∷ 0 ∷ 0 ∷ 0 ∷ 0 ∷ []
seen_bytes = refl

-- of three points
pub seen_counts : counts_of 3 (net_visit seen ∷ record { point = 2; hart = 0; time = 4600 } ∷ net_visit seen ∷ []) ≡ 2 ∷ 0 ∷ 1 ∷ []
seen_counts = refl
