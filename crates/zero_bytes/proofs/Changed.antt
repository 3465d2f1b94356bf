-- A piece after a write.
use Rattle.std.proofs.Common.{ℕ, ◌≡◌, List, Vec, length, sym, ap, ◌∙◌}
use Rattle.std.proofs.lemmas.List.{with_items_is}
use Rattle.std.specs.Vec.{with_items}
use Rattle.zero_bytes.specs.Pieces.{filled}
use Rattle.zero_bytes.proofs.Filled.{filled-whole}

pub changed_length : {Y : Type 0} (vec : Vec ℕ Y) (new : List ℕ) → length new ≡ length vec.items → length vec.items ≡ 262144 → length (with_items vec new).items ≡ 262144
changed_length vec new same whole =
    ap (λ (bs : List ℕ). length bs) (with_items_is vec new (same ∙ sym vec.ok.0)) ∙ same ∙ whole

pub changed : {Y : Type 0} (vec : Vec ℕ Y) (new : List ℕ) → length new ≡ length vec.items → length vec.items ≡ 262144 → filled 262144 (with_items vec new).items ≡ new
changed vec new same whole =
    filled-whole 262144 (with_items vec new).items (changed_length vec new same whole) ∙ with_items_is vec new (same ∙ sym vec.ok.0)
