use Rattle.std.proofs.Common.{◌≡◌, ◌-◌}
use Rattle.dwarf_lines.specs.Reading.{formats}
use Rattle.dwarf_lines.proofs.Loops.{joined}
use Rattle.dwarf_lines.proofs.forms.read_formats.Given as goal

-- what is still to be read, after the formats so far, reads as the whole does
abbrev pub invariant-loop : goal.invariant-loop
invariant-loop l = joined l.formats.items (formats (l.count - l.counter) l.cursor) ≡ formats l.fn.count l.fn.cursor
