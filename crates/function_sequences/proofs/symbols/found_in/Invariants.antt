use Rattle.std.proofs.Common.{◌≡◌, ◌≤◌, ◌/◌, length}
use Rattle.function_sequences.specs.Functions.{by_address}
use Rattle.function_sequences.proofs.SymbolLists.{left_symbols}
use Rattle.function_sequences.proofs.symbols.found_in.Given as goal

abbrev pub invariant-loop-left : goal.invariant-loop-left
invariant-loop-left l = (l.left ≤ length l.table / 24) × (l.found.entries ≡ by_address l.code l.strings (left_symbols l.table l.left))

abbrev pub decreases-loop-left : goal.decreases-loop-left
decreases-loop-left l = l.left
