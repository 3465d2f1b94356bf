use Rattle.std.proofs.Common.{◌==◌}
use Rattle.coz_types.specs.declared.record.Summary.{Summary}
use Rattle.page_values.proofs.Finds.{IsAhead}
use Rattle.page_cli.proofs.runs.plain_run.Given as goal

abbrev pub invariant-loop-summary : goal.invariant-loop-summary
invariant-loop-summary l = IsAhead (λ (s : Summary). s.speedup == 0) l.summaries l.summary-index
