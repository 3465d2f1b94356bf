use Rattle.std.proofs.Common.{rules}
use Rattle.delay_credits.proofs.seat.is_unpaused.Goals as goal

pub returns-in-Some : goal.returns-in-Some
returns-in-Some c = search rules
