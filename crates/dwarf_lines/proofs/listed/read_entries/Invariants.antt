use Rattle.std.proofs.Common.{◌≡◌, ◌-◌}
use Rattle.dwarf_lines.specs.Reading.{entries}
use Rattle.dwarf_lines.specs.Views.{entries_view, strings_view}
use Rattle.dwarf_lines.proofs.Loops.{joined}
use Rattle.dwarf_lines.proofs.listed.read_entries.Given as goal

-- what is still to be read, after the entries so far, reads as the whole does
abbrev pub invariant-loop : goal.invariant-loop
invariant-loop l = joined (entries_view l.entries.items) (entries (l.count - l.counter) (strings_view l.strings) l.formats l.cursor) ≡ entries l.fn.count (strings_view l.strings) l.formats l.fn.cursor
