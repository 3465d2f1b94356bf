use Rattle.std.proofs.Common.{◌≡◌, ◌≤◌, ◌^◌, take}
use Rattle.asm_tokens.specs.Tokens.{number_in}
use Rattle.asm_tokens.proofs.words.number_in.Given as goal

abbrev pub invariant-loop-byte : goal.invariant-loop-byte
invariant-loop-byte l = (l.value ≡ number_in l.base (take l.byte-index l.digits)) × (l.value ≤ 2 ^ 64)
