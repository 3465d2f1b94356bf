use Rattle.std.proofs.Common.{◌≡◌, take}
use Rattle.dwarf_lines.specs.Names.{paths}
use Rattle.dwarf_lines.specs.Registers.{texts_view}
use Rattle.dwarf_lines.specs.Views.{entries_view}
use Rattle.dwarf_lines.proofs.listed.paths.Given as goal

-- the paths so far are those of the entries so far
abbrev pub invariant-loop-entry : goal.invariant-loop-entry
invariant-loop-entry l = texts_view l.paths.items ≡ paths (entries_view (take l.entry-index l.entries))
