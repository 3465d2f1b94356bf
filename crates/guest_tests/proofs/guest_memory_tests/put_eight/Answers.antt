use Rattle.std.proofs.Common.{ℕ, ◌≡◌, List, [], ◌∷◌, Result, Ok, Err, IsTrue, false, length, ap, ◌∙◌}
use Rattle.std.specs.Prelude.{MatchResult}
use Rattle.guest_memory.specs.Memory.{MemoryMap, is_writable, with_bytes}
use Rattle.guest_memory.proofs.Runs.{same_regions-with_bytes}
use Rattle.guest_tests.proofs.guest_memory_tests.put_eight.Goals as goal

kept : {T E : Type 0} (r : Result T E) (old new : MemoryMap) (a : ℕ) (bs : List ℕ) → MatchResult r (λ _. IsTrue (is_writable old a (length bs)) × (new ≡ with_bytes a bs old)) (λ _. (is_writable old a (length bs) ≡ false) × (new ≡ old)) → (new.image ≡ old.image) × (new.layout ≡ old.layout)
kept (Ok x) old new a bs e =
    let same = same_regions-with_bytes old a bs in
    (ap (λ (m : MemoryMap). m.image) e.1 ∙ same.0, ap (λ (m : MemoryMap). m.layout) e.1 ∙ same.1)
kept (Err x) old new a bs e = (ap (λ (m : MemoryMap). m.image) e.1, ap (λ (m : MemoryMap). m.layout) e.1)

pub returns : goal.returns
returns c =
    let same = kept c.copy_in.result c.args.memory.now c.copy_in.new.self c.args.address (1 ∷ 2 ∷ 3 ∷ 4 ∷ 5 ∷ 6 ∷ 7 ∷ 8 ∷ []) c.copy_in.ensures in
    record { image = same.0; layout = same.1 }
