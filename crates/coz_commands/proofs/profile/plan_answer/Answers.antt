use Rattle.std.proofs.Common.{◌≤◌, ◌∙◌, List, ap, subst}
use Rattle.std.specs.List.{All}
use Rattle.experiment_plan.specs.declared.experiment.Experiment.{Experiment as Pair}
use Rattle.coz_commands.specs.Profiled.{delayed_records, timed_in}
use Rattle.coz_commands.specs.Verdict.{profile_verdict}
use Rattle.coz_commands.proofs.Budgets.{few_budget}
use Rattle.coz_commands.proofs.Profiling.{same_profile, summaries_are}
use Rattle.coz_commands.proofs.profile.plan_answer.Goals as goal

pub returns-clause-verdict : goal.returns-clause-verdict
returns-clause-verdict g c = λ _.
    let image = c.args.program.now.image in
    let index = c.args.program.now.index in
    let points = c.args.points.now in
    let asked = c.args.request.now in
    let pairs = c.args.plan.now in
    let slow : All (λ (pair : Pair). pair.speedup ≤ 95) pairs = subst (λ (all : List Pair). All (λ (pair : Pair). pair.speedup ≤ 95) all) c.pairs.ensures.pairs c.pairs.ensures.speedups in
    let ran = c.new.ensures
    ∙ c.in_ok-summaries.ensures.summaries
    ∙ summaries_are _ asked.budget c.requires.points c.requires.some_budget (few_budget asked c.requires.fit) pairs slow in
    c.printed_profile.ensures
    ∙ ap profile_verdict (same_profile index.lines (delayed_records (timed_in c.args.timing image index c.args.input.now)) asked.budget points.lines pairs _ _ c.in_ok-labels.ensures ran)
