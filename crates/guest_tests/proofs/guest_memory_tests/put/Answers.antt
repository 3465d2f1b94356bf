use Rattle.std.proofs.Common.{ℕ, ◌≡◌, Result, Ok, Err, Some, None, ap}
use Rattle.std.specs.Prelude.{MatchResult}
use Rattle.guest_memory.specs.Memory.{MemoryMap, store}
use Rattle.guest_memory.proofs.Runs.{same_regions-store}
use Rattle.guest_tests.proofs.guest_memory_tests.put.Goals as goal

kept : {T E : Type 0} (r : Result T E) (old new : MemoryMap) (a n v : ℕ) → MatchResult r (λ _. Some new ≡ store a n v old) (λ _. (None ≡ store a n v old) × (new ≡ old)) → (new.image ≡ old.image) × (new.layout ≡ old.layout)
kept (Ok x) old new a n v e = same_regions-store old new a n v e
kept (Err x) old new a n v e = (ap (λ (m : MemoryMap). m.image) e.1, ap (λ (m : MemoryMap). m.layout) e.1)

pub returns : goal.returns
returns c =
    let same = kept c.store.result c.args.memory.now c.store.new.self c.args.address 8 c.args.value c.store.ensures in
    record { image = same.0; layout = same.1 }
