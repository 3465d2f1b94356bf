use Rattle.std.proofs.Common.{◌≡◌, ◌+◌, ◌-◌, ◌*◌, ◌≤◌, ◌++◌, length}
use Rattle.work_gen.specs.Text.{blocks, text_of_lines}
use Rattle.work_gen.proofs.text.put_blocks.Given as goal

abbrev pub invariant-loop-i : goal.invariant-loop-i
invariant-loop-i l =
    let left = blocks l.i (l.size - l.i) l.state in
    (l.lines ≤ 21 * l.i)
    × (l.lines + length left ≡ length (blocks 0 l.size l.seed))
    × (l.text.items ++ text_of_lines left ≡ l.initial.text.items ++ text_of_lines (blocks 0 l.size l.seed))
