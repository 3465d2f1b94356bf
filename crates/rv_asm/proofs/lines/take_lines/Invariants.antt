use Rattle.std.proofs.Common.{length, ◌-◌, ◌≡◌, ◌≤◌, ◌+◌, drop}
use Rattle.asm_tokens.specs.Tokens.{lines}
use Rattle.rv_asm.specs.Assembled.{start, take_lines}
use Rattle.rv_asm.specs.Views.{state_of}
use Rattle.rv_asm.proofs.lines.take_lines.Given as goal

abbrev pub invariant-loop-index : goal.invariant-loop-index
invariant-loop-index l = (l.index ≤ length l.source + 1) × (l.number ≤ l.index) × (take_lines (l.number + 1) (lines (drop l.index l.source)) (state_of l.state) ≡ take_lines 1 (lines l.source) start)

abbrev pub decreases-loop-index : goal.decreases-loop-index
decreases-loop-index l = length l.source - l.index
