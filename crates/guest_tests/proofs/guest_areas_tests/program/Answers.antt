use Rattle.std.proofs.Common.{refl, lit≤}
use Rattle.coz_types.proofs.Images.{one_text}
use Rattle.guest_tests.proofs.guest_areas_tests.program.Goals as goal

pub new-requires : goal.new-requires
new-requires c = rw c.in_ok-vec.ensures.items (one_text _ _ _ _ _ 4 (lit≤ tt) refl)
