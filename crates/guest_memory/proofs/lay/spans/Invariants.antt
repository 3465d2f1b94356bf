use Rattle.std.proofs.Common.{◌≡◌, take, map}
use Rattle.guest_memory.specs.Whole.{area_span}
use Rattle.guest_memory.proofs.lay.spans.Given as goal

abbrev pub invariant-loop-area : goal.invariant-loop-area
invariant-loop-area l = l.wanted.items ≡ map area_span (take l.area-index l.area-items)
