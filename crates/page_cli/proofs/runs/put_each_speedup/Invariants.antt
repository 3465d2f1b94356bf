use Rattle.std.proofs.Common.{take}
use Rattle.std.specs.List.{flat_map}
use Rattle.coz_files.specs.Gathered.{Gathers}
use Rattle.page_cli.specs.Runs.{speedup_at}
use Rattle.page_cli.proofs.runs.put_each_speedup.Given as goal

abbrev pub invariant-loop-summary : goal.invariant-loop-summary
invariant-loop-summary g l = Gathers g.O.Sink.holds g.O.Sink.faults l.fn.out l.out l.fn.to l.to (flat_map (speedup_at l.label) (take l.summary-index l.summaries))
