use Rattle.std.proofs.Common.{◌≡◌, ◌++◌, [], ◌∷◌, drop, flat_map}
use Rattle.line_write.specs.Unit.{views, numbers, file_entry}
use Rattle.line_write.proofs.header.header.Given as goal

abbrev pub invariant-loop-sequence : goal.invariant-loop-sequence
invariant-loop-sequence l = l.out.items ++ flat_map file_entry (views (drop l.sequence-index l.sequences)) ≡ (numbers ++ 0 ∷ []) ++ flat_map file_entry (views l.sequences)
