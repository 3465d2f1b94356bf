use Rattle.std.proofs.Common.{ℕ, ap, sym, subst, arith, [], ◌∙◌}
use Rattle.std.specs.List.{AllByRecursion}
use Rattle.coz_types.specs.Ranges.{IsSummary}
use Rattle.work_gen.specs.Text.{view}
use Rattle.coz_commands.specs.Answer.{IsOfTrial}
use Rattle.run_inputs.specs.Experiment.{runs_in}
use Rattle.coz_commands.specs.Verdict.{Verdict, trial_printed}
use Rattle.coz_commands.proofs.Trials.{judged_as}
use Rattle.coz_commands.proofs.trial.program_answer.Goals as goal

pub printed_trial-answer-requires : goal.printed_trial-answer-requires
printed_trial-answer-requires g c =
    let is = c.in_ok-profile.ensures in
    record {
      points = omega (arith, is.points);
      ranges = subst (λ (points : ℕ). AllByRecursion (IsSummary points) c.in_ok-profile.profile.summaries) (sym is.points) is.ranges;
      whole = is.whole;
    }

pub returns : goal.returns
returns g c =
    let source = view c.args.source.now in
    let index = c.args.program.now.index in
    let same = ap (trial_printed source index.lines) c.in_ok-profile.ensures.profile ∙ judged_as source index.lines (runs_in c.args.program.now.image index []) c.point_line-point.result.0 c.point_line-point.ensures.point in
    subst (λ (v : Verdict). IsOfTrial v c.printed_trial-answer.result) same c.printed_trial-answer.ensures
