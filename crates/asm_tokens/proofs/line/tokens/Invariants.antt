use Rattle.std.proofs.Common.{length, ◌-◌, ◌≡◌, ◌≤◌, ◌+◌, map, drop}
use Rattle.asm_tokens.specs.Tokens.{tokens_from}
use Rattle.asm_tokens.specs.Views.{placed_of, with_front}
use Rattle.asm_tokens.proofs.line.tokens.Given as goal

abbrev pub invariant-loop-i : goal.invariant-loop-i
invariant-loop-i l = (l.i ≤ length l.line) × (with_front (map placed_of l.out.items) (tokens_from (l.i + 1) 0 (drop l.i l.line)) ≡ tokens_from 1 0 l.line)

abbrev pub decreases-loop-i : goal.decreases-loop-i
decreases-loop-i l = length l.line - l.i
