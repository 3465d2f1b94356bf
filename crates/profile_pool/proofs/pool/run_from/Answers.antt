use Rattle.std.proofs.Common.{◌≡◌, List, IfOk, subst}
use Rattle.coz_types.specs.declared.record.Summary.{Summary}
use Rattle.experiment_plan.specs.declared.experiment.Experiment.{Experiment}
use Rattle.profile_pool.specs.Subjects.{summary_on}
use Rattle.profile_pool.proofs.Lines.{plan_by_line}
use Rattle.profile_pool.proofs.Making.{work_of}
use Rattle.profile_pool.proofs.pool.run_from.Goals as goal

pub run_claims-summaries-requires-clause-work : goal.run_claims-summaries-requires-clause-work
run_claims-summaries-requires-clause-work g c κs = λ _.
    work_of _ c.usual-choice.result c.requires.lines c.requires.some_budget c.requires.few c.requires.machine c.in_ok-lead.ensures c.usual-choice.ensures.choice c.requires.plain

-- a claim is a line
pub returns-clause-summaries : goal.returns-clause-summaries
returns-clause-summaries g c =
    let s : Experiment → Summary =
    λ pair. summary_on c.args.subject.now c.args.budget pair.line.0 pair.speedup in
    let P : List Summary → Type 0 = λ summaries. IfOk c.run_claims-summaries.result (λ v. v.items ≡ summaries) in
    subst P (plan_by_line s c.args.plan.now) c.run_claims-summaries.ensures.summaries
