use Rattle.std.proofs.Common.{rules, ℕ, sym, subst}
use Rattle.std.specs.List.{All}
use Rattle.std.proofs.lemmas.List.Elements.{All-push}
use Rattle.coz_types.specs.declared.record.Summary.{Summary}
use Rattle.average_steps.specs.declared.average_step.AverageStep.{AverageStep}
use Rattle.average_steps.specs.Steps.{step_of, IsStep}
use Rattle.average_steps.proofs.Walks.{steps_more, steps_whole}
use Rattle.average_steps.proofs.steps.line_steps.Goals as goal

pub loop-i-preserved : goal.loop-i-preserved
loop-i-preserved c =
    let f : ℕ × Summary → AverageStep = λ at. step_of c.args.base.now.pace c.args.base.now.variance c.args.point c.args.profiles.now at.0 at.1.speedup in
    record {
      small = subst (All IsStep) (sym c.in_ok-push.ensures.items) (All-push IsStep c.loop-i.steps.items c.in_ok-step.field-0 c.loop-i.invariant.small c.in_ok-step.ensures.small);
      steps = steps_more f c.args.start c.args.runs.now c.loop-i.i c.index-runs-i.result c.loop-i.steps.items c.push.new.self.items c.in_ok-step.field-0 c.loop-i-test.true c.loop-i.invariant.steps (search rules) c.in_ok-push.ensures.items;
    }

pub returns-clause-steps : goal.returns-clause-steps
returns-clause-steps c =
    let f : ℕ × Summary → AverageStep = λ at. step_of c.args.base.now.pace c.args.base.now.variance c.args.point c.args.profiles.now at.0 at.1.speedup in
    steps_whole f c.args.start c.args.runs.now c.loop-i.i _ c.loop-i-test.false c.loop-i.invariant.steps
