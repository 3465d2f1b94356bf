use Rattle.std.proofs.Common.{◌≡◌, suc, length}
use Rattle.dwarf_lines.specs.Registers.{texts_view}
use Rattle.dwarf_lines.specs.Reading.{texts}
use Rattle.dwarf_lines.proofs.Loops.{joined}
use Rattle.dwarf_lines.proofs.entries.read_directories.Given as goal

-- what is still to be read, after the texts so far, reads as the whole does
abbrev pub invariant-loop-directories : goal.invariant-loop-directories
invariant-loop-directories l = joined (texts_view l.directories.items) (texts (suc (length l.cursor.bytes)) l.cursor) ≡ texts (suc (length l.fn.cursor.bytes)) l.fn.cursor

abbrev pub decreases-loop-directories : goal.decreases-loop-directories
decreases-loop-directories l = length l.cursor.bytes
