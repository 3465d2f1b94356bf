use Rattle.std.proofs.Common.{◌≡◌, ◌++◌, drop}
use Rattle.dwarf_lines.specs.Zeros.{zeros_from}
use Rattle.dwarf_lines.proofs.strings.Texts.gather.Given as goal

-- the places so far and those of the bytes that are left are all
abbrev pub invariant-loop-i : goal.invariant-loop-i
invariant-loop-i l = l.zeros.items ++ zeros_from l.i (drop l.i l.bytes) ≡ zeros_from 0 l.bytes
