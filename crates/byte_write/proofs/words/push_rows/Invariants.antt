use Rattle.std.proofs.Common.{◌≡◌, ◌≤◌, ◌+◌, ◌++◌, drop}
use Rattle.byte_write.specs.Programs.{rows}
use Rattle.byte_write.proofs.words.push_rows.Given as goal

abbrev pub invariant-loop-next : goal.invariant-loop-next
invariant-loop-next l = (l.words ≤ l.next-index + 1) × (l.out.items ++ rows l.words l.last (drop l.next-index l.lines) ≡ l.fn.out.items ++ rows 1 l.line l.lines)
