use Rattle.std.proofs.Common.{◌≡◌, map, drop}
use Rattle.std.specs.List.{flat_map}
use Rattle.asm_tokens.specs.Table.{look_up, order_rows}
use Rattle.asm_tokens.specs.Views.{entry_view}
use Rattle.asm_tokens.proofs.table.look_up_ordered.Given as goal

abbrev pub invariant-loop-atomic : goal.invariant-loop-atomic
invariant-loop-atomic l = look_up l.name (flat_map order_rows (map entry_view (drop l.atomic-index l.atomics))) ≡ look_up l.name (flat_map order_rows (map entry_view l.atomics))
