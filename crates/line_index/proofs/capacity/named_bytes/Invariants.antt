use Rattle.std.proofs.Common.{◌≡◌, ◌-◌, ◌^◌, min, take}
use Rattle.std.specs.List.{sum_by}
use Rattle.line_index.specs.Keys.{name_size}
use Rattle.line_index.proofs.capacity.named_bytes.Given as goal

abbrev pub invariant-loop-file : goal.invariant-loop-file
invariant-loop-file l = l.total ≡ min (sum_by name_size (take l.file-index l.files)) (2 ^ 64 - 1)
