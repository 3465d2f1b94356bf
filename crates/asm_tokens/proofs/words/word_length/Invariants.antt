use Rattle.std.proofs.Common.{length, ◌-◌, ◌≡◌, ◌≤◌, ◌+◌, drop}
use Rattle.asm_tokens.specs.Tokens.{is_of_name}
use Rattle.std.specs.List.{prefix_len}
use Rattle.asm_tokens.proofs.words.word_length.Given as goal

abbrev pub invariant-loop-i : goal.invariant-loop-i
invariant-loop-i l = (l.i ≤ length l.bytes) × (prefix_len is_of_name l.bytes ≡ l.i + prefix_len is_of_name (drop l.i l.bytes))

abbrev pub decreases-loop-i : goal.decreases-loop-i
decreases-loop-i l = length l.bytes - l.i
