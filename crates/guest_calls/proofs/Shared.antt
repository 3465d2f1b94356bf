-- What was made of the memory's image and layout, after the memory has changed.
use Rattle.std.proofs.Common.{◌≡◌, sym, ap, ◌∙◌}
use Rattle.coz_types.specs.Image.{ImageParts}
use Rattle.guest_memory.specs.Memory.{MemoryMap}
use Rattle.guest_areas.specs.Space.{RegionMap, Space, space}
use Rattle.guest_areas.proofs.Shares.{IsSteady}
use Rattle.hart_steps.specs.Code.{CodeMap, IsCodeOf}
use Rattle.guest_calls.specs.Kept.{Parts, AreShared}

pub still_shared : (r : Parts) (m after : MemoryMap) → after.image ≡ m.image → after.layout ≡ m.layout → AreShared r m → AreShared r after
still_shared r m after image layout shared = record {
  regions = record {
    areas = shared.regions.areas ∙ sym (ap (λ (i : ImageParts). i.areas) image);
    layout = shared.regions.layout ∙ sym layout;
  };
  code = record { image = shared.code.image ∙ sym image; layout = shared.code.layout ∙ sym layout };
}

-- after a call that changes the space
pub code_after : (code : CodeMap) (s after : Space) (r : RegionMap) (m : MemoryMap) → space r m ≡ after → IsSteady s after → IsCodeOf code s.memory → IsCodeOf code m
code_after code s after r m is steady of = record {
  image = of.image ∙ sym (ap (λ (x : Space). x.memory.image) is ∙ steady.image);
  layout = of.layout ∙ sym (ap (λ (x : Space). x.memory.layout) is ∙ steady.layout);
}
