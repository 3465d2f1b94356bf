-- The summaries of the runs of a subject.
use Rattle.std.specs.Prelude.{ℕ, List, [], map, length, get_or, Some}
use Rattle.coz_types.specs.declared.record.Summary.{Summary}
use Rattle.experiment_plan.specs.declared.experiment.Experiment.{Experiment}
use Rattle.line_index.specs.Lines.{label}
use Rattle.machines.specs.Standing.{delayed_record}
use Rattle.run_engine.specs.Choices.{choice_of}
use Rattle.run_subject.specs.declared.Subject.{Subject}
use Rattle.run_subject.specs.Subjects.{experiment_on}
use Rattle.profile_pool.specs.Summaries.{summary_of}

-- of the run with the line at this position selected at this speedup
unfoldable pub summary_on : Subject → ℕ → ℕ → ℕ → Summary
summary_on s budget line speedup =
    summary_of (get_or (map label s.index.now.lines) line []) speedup (length s.points.now.lines)
    (delayed_record (experiment_on s (choice_of (Some line) speedup budget)))

-- of the run of each pair, in the plan's order
abbrev pub summaries_on : Subject → ℕ → List Experiment → List Summary
summaries_on s budget plan =
    map (λ (pair : Experiment). summary_on s budget pair.line.0 pair.speedup) plan
