use Rattle.std.proofs.Common.{rules}
use Rattle.causal_curves.proofs.Gains.{loss_bar, gain_bar}
use Rattle.causal_curves.proofs.writer.bar.Goals as goal

pub returns-then-value-lt0 : goal.returns-then-value-lt0
returns-then-value-lt0 c = loss_bar c.args.value c.in-Some.value _ c.unsigned_abs.result c.in-Some.is (search rules) (search rules) c.min-length.ensures

pub returns-else-value-lt0 : goal.returns-else-value-lt0
returns-else-value-lt0 c = gain_bar c.args.value c.in-Some.value _ c.unsigned_abs.result c.in-Some.is (search rules) (search rules) c.min-length.ensures
