use Rattle.std.proofs.Common.{◌≡◌, map, drop}
use Rattle.asm_tokens.specs.Table.{look_up}
use Rattle.asm_tokens.specs.Views.{entry_view}
use Rattle.asm_tokens.proofs.table.look_up.Given as goal

abbrev pub invariant-loop-row : goal.invariant-loop-row
invariant-loop-row g l = look_up l.name (map entry_view (drop l.row-index l.rows)) ≡ look_up l.name (map entry_view l.rows)
