use Rattle.std.proofs.Common.{◌≡◌, take, map}
use Rattle.line_index.specs.Changes.{changes_of}
use Rattle.line_index.specs.Keys.{line_change, key_change}
use Rattle.line_index.proofs.lines.line_changes.Given as goal

abbrev pub invariant-loop-change : goal.invariant-loop-change
invariant-loop-change l = map (line_change l.keys) (changes_of l.lines.items) ≡ map (key_change l.rows l.positions) (take l.change-index l.changes)
