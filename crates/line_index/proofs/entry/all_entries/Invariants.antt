use Rattle.std.proofs.Common.{◌≡◌, take}
use Rattle.dwarf_lines.specs.Registers.{files_view}
use Rattle.line_index.specs.Keys.{entries_view}
use Rattle.line_index.proofs.entry.all_entries.Given as goal

abbrev pub invariant-loop-file : goal.invariant-loop-file
invariant-loop-file l = entries_view l.entries.items ≡ files_view (take l.file-index l.files)
