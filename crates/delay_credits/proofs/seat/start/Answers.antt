use Rattle.std.proofs.Common.{rules}
use Rattle.delay_credits.proofs.seat.start.Goals as goal

pub returns : goal.returns
returns c = search rules
