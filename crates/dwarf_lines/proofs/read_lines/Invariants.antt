use Rattle.std.proofs.Common.{◌≡◌, ◌≤◌, ◌+◌, suc, length}
use Rattle.coz_types.specs.declared.TheConstants.{MAX_PROGRAM}
use Rattle.dwarf_lines.specs.Reading.{units, reading}
use Rattle.dwarf_lines.specs.Bounds.{weight}
use Rattle.dwarf_lines.specs.Names.{strings}
use Rattle.dwarf_lines.specs.Views.{so_far, sections_view}
use Rattle.dwarf_lines.proofs.read_lines.Given as goal

-- what is still to be read reads as the whole does, the texts stay, and the table's items each took a byte or more
abbrev pub invariant-loop-cursor : goal.invariant-loop-cursor
invariant-loop-cursor l = record {
  read : units (suc (length l.cursor.bytes)) (strings l.general l.line) (so_far l.draft) l.cursor ≡ reading (strings l.general l.line) l.section;
  texts : sections_view l.sections ≡ strings l.general l.line;
  room : weight (so_far l.draft) + length l.cursor.bytes ≤ MAX_PROGRAM;
}

abbrev pub decreases-loop-cursor : goal.decreases-loop-cursor
decreases-loop-cursor l = length l.cursor.bytes
