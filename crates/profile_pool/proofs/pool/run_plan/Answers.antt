use Rattle.std.proofs.Common.{◌≡◌, ◌≤◌, List, IfOk, subst}
use Rattle.std.specs.List.{All}
use Rattle.experiment_plan.specs.declared.experiment.Experiment.{Experiment}
use Rattle.coz_types.specs.declared.record.Summary.{Summary}
use Rattle.profile_pool.proofs.Usual.{usual_summaries}
use Rattle.profile_pool.proofs.pool.run_plan.Goals as goal

pub returns-clause-usual : goal.returns-clause-usual
returns-clause-usual g c = λ usual.
    subst (λ (summaries : List Summary). IfOk c.run_lines.result (λ v. v.items ≡ summaries))
    (usual_summaries c.args.subject.now usual c.args.budget c.args.plan.now (subst (λ pairs. All (λ (pair : Experiment). pair.speedup ≤ 95) pairs) c.pairs.ensures.pairs c.pairs.ensures.speedups))
    c.run_lines.ensures.summaries
