use Rattle.std.proofs.Common.{◌≡◌, ◌-◌, ◌^◌, min, take}
use Rattle.std.specs.List.{sum_by}
use Rattle.line_index.specs.Keys.{label_size, texts}
use Rattle.line_index.proofs.capacity.label_bytes.Given as goal

abbrev pub invariant-loop-key : goal.invariant-loop-key
invariant-loop-key l = l.total ≡ min (sum_by (label_size (texts l.paths)) (take l.key-index l.keys)) (2 ^ 64 - 1)
