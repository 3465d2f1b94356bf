use Rattle.std.proofs.Common.{◌≡◌, ◌≤◌, length, take}
use Rattle.elf_symbols.specs.Symbols.{ended}
use Rattle.elf_symbols.proofs.symbols.ended.Given as goal

abbrev pub invariant-loop-end : goal.invariant-loop-end
invariant-loop-end l = (l.end ≤ length l.names) × (ended (take l.end l.names) ≡ ended l.names)

abbrev pub decreases-loop-end : goal.decreases-loop-end
decreases-loop-end l = l.end
