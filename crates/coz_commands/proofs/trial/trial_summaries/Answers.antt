use Rattle.std.proofs.Common.{◌≡◌, ◌∙◌, ℕ, [], ap, sym, subst, length}
use Rattle.std.specs.List.{All, AllByRecursion}
use Rattle.std.proofs.lemmas.List.Elements.{recursion_from_All}
use Rattle.std.proofs.lemmas.Result.{err_from_is_err_and}
use Rattle.coz_types.specs.Ranges.{IsSummary}
use Rattle.coz_commands.specs.Verdict.{text_verdict}
use Rattle.run_inputs.proofs.Faults.{is_memory}
use Rattle.coz_commands.proofs.Trials.{summaries_of_trial}
use Rattle.coz_commands.proofs.trial.trial_summaries.Goals as goal

pub returns-in_err-points-clause-memory : goal.returns-in_err-points-clause-memory
returns-in_err-points-clause-memory g c =
    let gives = err_from_is_err_and c.from_residual-in_err-points.result c.from_residual-in_err-points.ensures.1 in
    rw (gives.1, gives.2) (is_memory c.in_err-points.field-0.0 [] (λ other. c.in_err-points.ensures.verdict other (λ points. text_verdict [])))

pub returns-clause-summaries : goal.returns-clause-summaries
returns-clause-summaries g c =
    summaries_of_trial c.args.program.now.image c.args.program.now.index c.in_ok-points.points c.args.point.0 c.in_ok-plan.plan c.new.result
    c.in_ok-points.ensures.points c.in_ok-plan.ensures.plan (c.new.ensures ∙ c.in_ok-summaries.ensures.usual c.usual.ensures.usual)

pub returns-clause-ranges : goal.returns-clause-ranges
returns-clause-ranges g c =
    let summaries = c.in_ok-summaries.summaries.items in
    let one : length c.in_ok-points.points.lines ≡ 1 = ap length c.in_ok-points.ensures.points.lines in
    let ranges : All (IsSummary 1) summaries = subst (λ (count : ℕ). All (IsSummary count) summaries) one c.in_ok-summaries.ensures.ranges in
    subst (AllByRecursion (IsSummary 1)) (sym c.new.ensures) (recursion_from_All (IsSummary 1) summaries ranges)
