use Rattle.std.proofs.Common.{rules}
use Rattle.hart_turns.proofs.life.ended.Goals as goal

pub returns-then-from-change : goal.returns-then-from-change
returns-then-from-change c = search rules
