use Rattle.std.proofs.Common.{refl, lit≤}
use Rattle.coz_types.proofs.Images.{one_text}
use Rattle.file_tests.proofs.coz_types_tests.image_of_one_area.Goals as goal

pub new-requires : goal.new-requires
new-requires c = rw c.in_ok-areas.ensures.items (one_text _ _ _ _ _ 4 (lit≤ tt) refl)
