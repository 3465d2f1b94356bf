use Rattle.std.proofs.Common.{subst, sym}
use Rattle.coz_types.specs.Image.{ImageParts}
use Rattle.guest_memory.specs.Regions.{usual, IsKnown}
use Rattle.guest_tests.proofs.guest_memory_tests.code_is_as_at_first_until_its_rights_change.Goals as goal

pub check_first_code-requires-clause-known : goal.check_first_code-requires-clause-known
check_first_code-requires-clause-known g c = subst (λ (i : ImageParts). IsKnown i.areas usual 17) (sym c.in_ok-memory.ensures.0) c.in_ok-image.ensures
