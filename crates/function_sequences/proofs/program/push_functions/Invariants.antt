use Rattle.std.proofs.Common.{take}
use Rattle.std.specs.List.{AllZip}
use Rattle.line_write.specs.Unit.{views}
use Rattle.line_remap.specs.Runs.{Adds}
use Rattle.function_sequences.specs.Sequences.{IsOfFunction}
use Rattle.function_sequences.proofs.program.push_functions.Given as goal

abbrev pub invariant-loop-symbol : goal.invariant-loop-symbol
invariant-loop-symbol l = Adds (AllZip (IsOfFunction l.index l.names) (take l.symbol-index l.symbols)) (views l.initial.out.list.items) (views l.out.list.items)
