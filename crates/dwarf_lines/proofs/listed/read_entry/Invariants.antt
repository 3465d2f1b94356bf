use Rattle.std.proofs.Common.{◌≡◌, drop}
use Rattle.dwarf_lines.specs.Reading.{entry}
use Rattle.dwarf_lines.specs.Views.{entry_view, strings_view}
use Rattle.dwarf_lines.proofs.ListedLoops.{rest_of}
use Rattle.dwarf_lines.proofs.listed.read_entry.Given as goal

-- the fields that are left, after the entry so far, read as the whole does
abbrev pub invariant-loop-i : goal.invariant-loop-i
invariant-loop-i l = rest_of (strings_view l.strings) (drop l.i l.formats) (entry_view l.entry) l.cursor ≡ entry (strings_view l.strings) l.formats l.fn.cursor
