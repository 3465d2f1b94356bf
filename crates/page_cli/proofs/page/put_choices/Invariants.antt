use Rattle.std.proofs.Common.{take}
use Rattle.std.specs.List.{flat_map, enumerate_from}
use Rattle.coz_files.specs.Gathered.{Gathers}
use Rattle.page_cli.specs.Page.{choice_text}
use Rattle.page_cli.proofs.page.put_choices.Given as goal

abbrev pub invariant-loop-index : goal.invariant-loop-index
invariant-loop-index g l = Gathers g.O.Sink.holds g.O.Sink.faults l.fn.out l.out l.fn.to l.to (flat_map (choice_text l.tables) (take l.index (enumerate_from 0 l.points)))
