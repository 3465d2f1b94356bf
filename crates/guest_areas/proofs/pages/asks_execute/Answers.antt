use Rattle.guest_areas.proofs.Bits.{has-execute}
use Rattle.guest_areas.proofs.pages.asks_execute.Goals as goal

pub returns : goal.returns
returns c = has-execute c.args.protection
