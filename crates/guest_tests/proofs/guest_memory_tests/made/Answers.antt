use Rattle.std.proofs.Common.{◌≡◌, ap, ◌∙◌}
use Rattle.std.proofs.lemmas.Result.{IfOk-weaker}
use Rattle.guest_memory.specs.Memory.{MemoryMap, first_memory}
use Rattle.guest_memory.specs.Regions.{usual}
use Rattle.guest_memory.proofs.Runs.{same_regions-first}
use Rattle.guest_tests.proofs.guest_memory_tests.made.Goals as goal

pub returns : goal.returns
returns c =
    let same = same_regions-first c.args.image.now c.usual.result in
    IfOk-weaker c.new.result (λ (m : MemoryMap). m ≡ first_memory c.args.image.now c.usual.result) (λ (m : MemoryMap). (m.image ≡ c.args.image.now) × (m.layout ≡ usual))
    (λ m e. (ap (λ (x : MemoryMap). x.image) e ∙ same.0, ap (λ (x : MemoryMap). x.layout) e ∙ same.1 ∙ c.usual.ensures.sizes)) c.new.ensures
