use Rattle.std.proofs.Common.{take}
use Rattle.std.specs.List.{flat_map}
use Rattle.coz_files.specs.Gathered.{Gathers}
use Rattle.coz_files.specs.InMemory.{entries}
use Rattle.page_values.specs.Sources.{look_up}
use Rattle.page_cli.specs.Page.{row_text}
use Rattle.page_cli.proofs.tables.put_rows.Given as goal

abbrev pub invariant-loop-curve : goal.invariant-loop-curve
invariant-loop-curve g l = Gathers g.O.Sink.holds g.O.Sink.faults l.fn.out l.out l.fn.to l.to (flat_map (row_text l.top (look_up (entries l.view.sources.now)) l.summaries) (take l.curve-index l.curves))
