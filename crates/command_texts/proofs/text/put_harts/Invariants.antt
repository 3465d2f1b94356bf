use Rattle.std.proofs.Common.{take}
use Rattle.std.specs.List.{flat_map, enumerate_from}
use Rattle.coz_files.specs.Gathered.{Gathers}
use Rattle.command_texts.proofs.Flat.{hart_line}
use Rattle.command_texts.proofs.text.put_harts.Given as goal

abbrev pub invariant-loop-number : goal.invariant-loop-number
invariant-loop-number g l = Gathers g.O.Sink.holds g.O.Sink.faults l.fn.out l.out l.fn.to l.to (flat_map hart_line (take l.number (enumerate_from 0 l.accounts)))
