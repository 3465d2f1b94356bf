use Rattle.std.proofs.Common.{length, ◌-◌, ◌≡◌, ◌≤◌, ◌+◌, ◌++◌, false, drop}
use Rattle.std.specs.Prelude.{option_map}
use Rattle.asm_tokens.specs.Tokens.{text}
use Rattle.asm_tokens.proofs.line.text.Given as goal

abbrev pub invariant-loop-i : goal.invariant-loop-i
invariant-loop-i l = (l.i ≤ length l.bytes) × (option_map (λ t. (l.out.items ++ t.0, l.i + t.1)) (text false (drop l.i l.bytes)) ≡ text false l.bytes)

abbrev pub decreases-loop-i : goal.decreases-loop-i
decreases-loop-i l = length l.bytes - l.i
