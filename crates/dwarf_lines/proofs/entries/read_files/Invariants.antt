use Rattle.std.proofs.Common.{◌≡◌, suc, length}
use Rattle.dwarf_lines.specs.Registers.{texts_view, files_view}
use Rattle.dwarf_lines.specs.Reading.{files}
use Rattle.dwarf_lines.proofs.Loops.{joined}
use Rattle.dwarf_lines.proofs.entries.read_files.Given as goal

-- what is still to be read, after the files so far, reads as the whole does
abbrev pub invariant-loop-files : goal.invariant-loop-files
invariant-loop-files l = joined (files_view l.files.items) (files (suc (length l.cursor.bytes)) (texts_view l.directories) l.cursor) ≡ files (suc (length l.fn.cursor.bytes)) (texts_view l.directories) l.fn.cursor

abbrev pub decreases-loop-files : goal.decreases-loop-files
decreases-loop-files l = length l.cursor.bytes
