-- A fetch from code that is as at first.
use Rattle.std.proofs.Common.{ℕ, zero, suc, ◌≡◌, ◌+◌, ◌≤◌, ◌<◌, Bool, true, false, if◌then◌else◌, Some, None, Option, arith, refl, sym, ap, ◌∙◌}
use Rattle.coz_types.specs.declared.image.Rights.{Rights}
use Rattle.guest_memory.specs.Memory.{MemoryMap, first_memory, rights_at, byte_at, is_allowed, number_at, fetch, IsFirstFrom}

same_allowed : (m f : MemoryMap) (a n : ℕ) → ((j : ℕ) → j < n → rights_at m (a + j) ≡ rights_at f (a + j)) → is_allowed (λ r. r.execute) m a n ≡ is_allowed (λ r. r.execute) f a n
same_allowed m f a zero h = refl
same_allowed m f a (suc n) h =
    let here : rights_at m a ≡ rights_at f a =
    ap (λ (b : ℕ). rights_at m b) (let e : a ≡ a + 0 = omega arith in e) ∙ h 0 (omega arith) ∙ ap (λ (b : ℕ). rights_at f b) (let e : a + 0 ≡ a = omega arith in e) in
    let rest : is_allowed (λ r. r.execute) m (a + 1) n ≡ is_allowed (λ r. r.execute) f (a + 1) n =
    same_allowed m f (a + 1) n (λ j below.
    ap (λ (b : ℕ). rights_at m b) (let e : a + 1 + j ≡ a + suc j = omega arith in e) ∙ h (suc j) (omega arith)
    ∙ ap (λ (b : ℕ). rights_at f b) (let e : a + suc j ≡ a + 1 + j = omega arith in e)) in
    ap (λ (r : Rights). elim (r.execute) [ true ↦ is_allowed (λ r. r.execute) m (a + 1) n | false ↦ false ]) here
    ∙ ap (λ (b : Bool). elim ((rights_at f a).execute) [ true ↦ b | false ↦ false ]) rest

same_number : (m f : MemoryMap) (a n : ℕ) → ((j : ℕ) → j < n → byte_at m (a + j) ≡ byte_at f (a + j)) → number_at m a n ≡ number_at f a n
same_number m f a zero h = refl
same_number m f a (suc n) h =
    let here : byte_at m a ≡ byte_at f a =
    ap (λ (b : ℕ). byte_at m b) (let e : a ≡ a + 0 = omega arith in e) ∙ h 0 (omega arith) ∙ ap (λ (b : ℕ). byte_at f b) (let e : a + 0 ≡ a = omega arith in e) in
    let rest : number_at m (a + 1) n ≡ number_at f (a + 1) n =
    same_number m f (a + 1) n (λ j below.
    ap (λ (b : ℕ). byte_at m b) (let e : a + 1 + j ≡ a + suc j = omega arith in e) ∙ h (suc j) (omega arith)
    ∙ ap (λ (b : ℕ). byte_at f b) (let e : a + suc j ≡ a + 1 + j = omega arith in e)) in
    omega (arith, here, rest)

pub as_first : (m : MemoryMap) (start size a : ℕ) → IsFirstFrom start size m → start ≤ a → a + 4 ≤ start + size → fetch m a ≡ fetch (first_memory m.image m.layout) a
as_first m start size a first from below =
    let f = first_memory m.image m.layout in
    let allowed = same_allowed m f a 4 (λ j within. (first (a + j) (omega arith) (omega arith)).0) in
    let number = same_number m f a 4 (λ j within. (first (a + j) (omega arith) (omega arith)).1) in
    ap (λ (b : Bool). if b then Some (number_at m a 4) else None) allowed
    ∙ ap (λ (n : ℕ). if is_allowed (λ r. r.execute) f a 4 then Some n else None) number

-- fewer bytes
pub first_within : (m : MemoryMap) (start size a n : ℕ) → IsFirstFrom start size m → start ≤ a → a + n ≤ start + size → IsFirstFrom a n m
first_within m start size a n first from below b above within = first b (omega (arith, from, above)) (omega (arith, within, below))
