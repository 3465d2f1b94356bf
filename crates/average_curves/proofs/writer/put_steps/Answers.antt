use Rattle.std.proofs.Common.{rules}
use Rattle.profile_book.proofs.Gathering.{line_more}
use Rattle.average_curves.specs.Texts.{step_text}
use Rattle.average_curves.proofs.writer.put_steps.Goals as goal

pub loop-step-preserved : goal.loop-step-preserved
loop-step-preserved g c = line_more step_text c.args.steps.now c.loop-step.step-index _ (search rules) (search rules) c.loop-step.invariant c.put_step.ensures
