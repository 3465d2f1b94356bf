use Rattle.std.proofs.Common.{ℕ, List, take}
use Rattle.std.specs.Global.{Vec}
use Rattle.dwarf_lines.specs.Registers.{files_view}
use Rattle.line_index.specs.Keys.{ArePlaces, entries_view}
use Rattle.line_index.proofs.entry.file_positions.Given as goal

abbrev pub invariant-loop-file : goal.invariant-loop-file
invariant-loop-file l = (paths : List (Vec ℕ)) → ArePlaces paths l.positions (entries_view l.entries) → ArePlaces paths l.placed.items (files_view (take l.file-index l.files))
