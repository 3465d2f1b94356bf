use Rattle.std.proofs.Common.{◌≡◌, take}
use Rattle.dwarf_lines.specs.Names.{files_of}
use Rattle.dwarf_lines.specs.Registers.{texts_view, files_view}
use Rattle.dwarf_lines.specs.Views.{entries_view}
use Rattle.dwarf_lines.proofs.listed.files_of.Given as goal

-- the files so far are those of the entries so far
abbrev pub invariant-loop-entry : goal.invariant-loop-entry
invariant-loop-entry l = files_view l.files.items ≡ files_of (texts_view l.directories) (entries_view (take l.entry-index l.entries))
