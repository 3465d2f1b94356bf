use Rattle.std.proofs.Common.{◌≡◌, ◌≤◌, ◌-◌, length, drop}
use Rattle.rv_asm.specs.Assembled.{take_tokens}
use Rattle.asm_tokens.specs.Views.{all_placed}
use Rattle.rv_asm.specs.Views.{state_of}
use Rattle.rv_asm.proofs.lines.take_tokens.Given as goal

abbrev pub invariant-loop-label : goal.invariant-loop-label
invariant-loop-label l = (l.index ≤ length l.tokens) × (take_tokens l.line l.end (all_placed (drop l.index l.tokens)) (state_of l.state) ≡ take_tokens l.line l.end (all_placed l.tokens) (state_of l.initial.state))

abbrev pub decreases-loop-label : goal.decreases-loop-label
decreases-loop-label l = length l.tokens - l.index
