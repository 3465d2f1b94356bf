use Rattle.std.proofs.Common.{◌≡◌, take, map, option_map, Some}
use Rattle.dwarf_lines.specs.Registers.{File}
use Rattle.line_index.specs.Lines.{entry_path}
use Rattle.line_index.specs.Keys.{entries_view, path_place}
use Rattle.line_index.proofs.paths.path_positions.Given as goal

abbrev pub invariant-loop-entry : goal.invariant-loop-entry
invariant-loop-entry l = map (path_place l.paths) l.positions.items ≡ map (λ (file : File). option_map Some (entry_path file)) (entries_view (take l.entry-index l.entries))
