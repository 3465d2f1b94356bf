use Rattle.std.proofs.Common.{◌≡◌, ◌++◌, length}
use Rattle.dwarf_lines.proofs.fields.bytes.Given as goal

-- the bytes so far and those that are left are the part
abbrev pub invariant-loop-item : goal.invariant-loop-item
invariant-loop-item l = l.items.items ++ l.part.bytes ≡ l.initial.part.bytes

abbrev pub decreases-loop-item : goal.decreases-loop-item
decreases-loop-item l = length l.part.bytes
