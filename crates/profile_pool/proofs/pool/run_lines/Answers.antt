use Rattle.std.proofs.Common.{◌∙◌, sym}
use Rattle.experiment_plan.specs.declared.experiment.Experiment.{Experiment}
use Rattle.coz_types.specs.declared.record.Summary.{Summary}
use Rattle.profile_pool.specs.Subjects.{summary_on}
use Rattle.profile_pool.proofs.Lines.{no_lines}
use Rattle.profile_pool.proofs.pool.run_lines.Goals as goal

-- a plan with no line has no summary
pub returns-then-lines-eq0-clause-summaries : goal.returns-then-lines-eq0-clause-summaries
returns-then-lines-eq0-clause-summaries g c =
    let s : Experiment → Summary =
    λ pair. summary_on c.args.subject.now c.args.budget pair.line.0 pair.speedup in
    c.new.ensures.items ∙ no_lines s c.args.plan.now (sym c.line_count-lines.ensures.count ∙ c.if-lines-eq0.true)
