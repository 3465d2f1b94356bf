use Rattle.std.proofs.Common.{sym, ◌∙◌}
use Rattle.timing_state.proofs.Drawn.{unseeded}
use Rattle.timing_state.proofs.jitter.Jitter.is_doubled.Goals as goal

pub returns-then-self-eq0 : goal.returns-then-self-eq0
returns-then-self-eq0 c = unseeded c.args.self.now c.args.hart.0 c.args.count (sym c.self.view_is ∙ c.if-self-eq0.true)
