use Rattle.std.proofs.Common.{ap}
use Rattle.coz_types.specs.Image.{ImageParts}
use Rattle.coz_types.proofs.image.Image.header_count.Goals as goal

pub returns : goal.returns
returns c = ap (λ (i : ImageParts). i.header_count) c.self.view_is
