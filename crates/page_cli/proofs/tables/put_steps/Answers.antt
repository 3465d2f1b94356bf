use Rattle.std.proofs.Common.{rules}
use Rattle.coz_files.proofs.GatheredLemmas.{gathers_nothing}
use Rattle.profile_book.proofs.Gathering.{line_more, lines_whole}
use Rattle.page_cli.specs.Page.{step_text}
use Rattle.page_cli.proofs.tables.put_steps.Goals as goal

pub loop-step-init : goal.loop-step-init
loop-step-init g c = gathers_nothing c.args.out.now c.args.to.now

pub loop-step-preserved : goal.loop-step-preserved
loop-step-preserved g c =
    line_more (step_text c.args.label.now) c.args.steps.now c.loop-step.step-index _ c.loop-step-test.true (search rules) c.loop-step.invariant c.put_step.ensures

pub returns : goal.returns
returns g c = lines_whole (step_text c.args.label.now) c.args.steps.now c.loop-step.step-index c.loop-step-test.false c.loop-step.invariant
