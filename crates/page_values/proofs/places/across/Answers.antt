use Rattle.std.proofs.Common.{refl}
use Rattle.page_values.proofs.places.across.Goals as goal

pub returns : goal.returns
returns c = refl
