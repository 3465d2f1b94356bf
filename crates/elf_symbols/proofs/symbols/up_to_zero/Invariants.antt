use Rattle.std.proofs.Common.{◌≡◌, ◌≤◌, ◌-◌, ◌++◌, ◌==◌, not, length, take, drop}
use Rattle.std.specs.Prelude.{take_while}
use Rattle.elf_symbols.proofs.symbols.up_to_zero.Given as goal

abbrev pub invariant-loop-end : goal.invariant-loop-end
invariant-loop-end l = (l.end ≤ length l.bytes) × (take l.end l.bytes ++ take_while (λ b. not (b == 0)) (drop l.end l.bytes) ≡ take_while (λ b. not (b == 0)) l.bytes)

abbrev pub decreases-loop-end : goal.decreases-loop-end
decreases-loop-end l = length l.bytes - l.end
