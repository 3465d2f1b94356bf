use Rattle.std.proofs.Common.{◌≡◌, take, All}
use Rattle.line_index.specs.Keys.{IsNumbered, change_keys}
use Rattle.line_index.proofs.lines.change_keys.Given as goal

abbrev pub invariant-loop-change : goal.invariant-loop-change
invariant-loop-change l = (l.keys.items ≡ change_keys l.rows l.positions (take l.change-index l.changes)) × All IsNumbered l.keys.items
