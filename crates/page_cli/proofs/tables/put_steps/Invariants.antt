use Rattle.std.proofs.Common.{take}
use Rattle.std.specs.List.{flat_map}
use Rattle.coz_files.specs.Gathered.{Gathers}
use Rattle.page_cli.specs.Page.{step_text}
use Rattle.page_cli.proofs.tables.put_steps.Given as goal

abbrev pub invariant-loop-step : goal.invariant-loop-step
invariant-loop-step g l = Gathers g.O.Sink.holds g.O.Sink.faults l.fn.out l.out l.fn.to l.to (flat_map (step_text l.label) (take l.step-index l.steps))
