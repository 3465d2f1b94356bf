use Rattle.std.proofs.Common.{ap, ◌∙◌}
use Rattle.rv_execute.specs.Execution.{setting, with_rd}
use Rattle.rv_execute.proofs.integer.upper.Goals as goal

pub returns : goal.returns
returns c m r = c.put.ensures m r ∙ ap (λ n. with_rd c.args.rd n (setting c.args.hart.now m r)) c.upper_result-result.ensures
