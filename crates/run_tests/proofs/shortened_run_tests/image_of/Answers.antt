use Rattle.std.proofs.Common.{refl, arith}
use Rattle.coz_types.proofs.Images.{one_text}
use Rattle.run_tests.proofs.shortened_run_tests.image_of.Goals as goal

pub new-requires : goal.new-requires
new-requires c = rw c.in_ok-areas.ensures.items (one_text _ _ _ _ _ 12 (omega arith) refl)
