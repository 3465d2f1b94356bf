use Rattle.std.proofs.Common.{sym, ap, ◌∙◌}
use Rattle.guest_memory.specs.declared.Layout.{Layout}
use Rattle.guest_memory.specs.Memory.{MemoryMap, first_memory}
use Rattle.guest_memory.proofs.Runs.{same_regions-first}
use Rattle.guest_tests.proofs.guest_areas_tests.entered.Goals as goal

pub new-requires-2 : goal.new-requires-2
new-requires-2 c =
    let first = c.in_ok-memory.ensures in
    let kept = same_regions-first c.args.image.now c.usual.result in
    first ∙ ap (λ (l : Layout). first_memory c.args.image.now l) (sym (ap (λ (m : MemoryMap). m.layout) first ∙ kept.1))
