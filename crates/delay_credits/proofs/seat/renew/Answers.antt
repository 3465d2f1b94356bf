use Rattle.std.proofs.Common.{rules}
use Rattle.delay_credits.proofs.seat.renew.Goals as goal

pub returns-else-new-gt0-clause-sum : goal.returns-else-new-gt0-clause-sum
returns-else-new-gt0-clause-sum c = search rules
