use Rattle.std.proofs.Common.{ap, ◌∙◌}
use Rattle.rv_execute.specs.Execution.{setting, next}
use Rattle.rv_execute.proofs.hart.HartState.put.Goals as goal

pub returns : goal.returns
returns c m r = c.proceed.ensures m r ∙ ap (λ h. next (setting h m r)) c.set.ensures
