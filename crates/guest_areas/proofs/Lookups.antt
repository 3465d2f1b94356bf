-- What a map has at a key after a change of one, and the rights after some were given.
use Rattle.std.proofs.Common.{ℕ, zero, suc, ◌≡◌, ◌+◌, ◌*◌, ◌%◌, ◌≤◌, ◌<◌, Bool, true, false, eqb, length, drop, get_or, List, [], ◌∷◌, arith, refl, sym, ap, ◌∙◌, ⊎_elim, ◌⊎◌}
use Rattle.std.proofs.lemmas.List.{drop_more}
use Rattle.std.proofs.lemmas.Bool.{cases_Bool, cases_order, le-ltb, ne_eqb}
use Rattle.std.specs.Int.{bytes_low_first}
use Rattle.coz_types.specs.declared.image.Rights.{Rights}
use Rattle.coz_types.specs.Image.{ImageParts}
use Rattle.coz_types.specs.Maps.{Map, value_or, with_value, entries_without}
use Rattle.guest_memory.specs.declared.Layout.{Layout}
use Rattle.guest_memory.specs.Entries.{with_kept}
use Rattle.guest_memory.specs.Memory.{MemoryMap, no_rights, read_and_write, is_any_right, rights_at, is_allowed, with_byte, with_bytes, with_number, with_rights, with_rights_from, with_area, empty_memory, first_memory}
use Rattle.guest_memory.specs.Regions.{page_of, stack_base, IsLayout}
use Rattle.guest_areas.specs.Entry.{with_numbers}
use Rattle.std.specs.Prelude.{fold}
use Rattle.guest_memory.proofs.Maps.{value_or-here, value_or-there, with_value-same, with_value-above, without-same, without-other, with_kept-kept, with_kept-left}
use Rattle.guest_memory.proofs.Runs.{allowed_from}

-- a value before the first entry
with_value-before : {X : Type 0} (n k : ℕ) (x y : X) (m : Map X) → k < n → with_value k x ((n, y) ∷ m) ≡ (k, x) ∷ (n, y) ∷ m
with_value-before {X = X} n k x y m h =
    ap (λ (b : Bool). elim b as (λ _. Map X) [ true ↦ (n, y) ∷ with_value k x m | false ↦ elim (eqb n k) as (λ _. Map X) [ true ↦ (k, x) ∷ m | false ↦ (k, x) ∷ (n, y) ∷ m ] ])
    (le-ltb n k (omega arith))
    ∙ ap (λ (b : Bool). elim b as (λ _. Map X) [ true ↦ (k, x) ∷ m | false ↦ (k, x) ∷ (n, y) ∷ m ])
    (ne_eqb n k (λ (same : n ≡ k). omega arith))

pub value_or-with_value : {X : Type 0} (d : X) (k : ℕ) (x : X) (m : Map X) → value_or d (with_value k x m) k ≡ x
value_or-with_value d k x [] = value_or-here d k x []
value_or-with_value {X = X} d k x (e ∷ es) =
    ⊎_elim
    (λ (s : e.0 ≡ k).
    ap (λ (n : ℕ). value_or d (with_value k x ((n, e.1) ∷ es)) k) s
    ∙ ap (λ (m : Map X). value_or d m k) (with_value-same k x e.1 es) ∙ value_or-here d k x es)
    (λ (o : (e.0 < k) ⊎ (k < e.0)).
    ⊎_elim
    (λ (l : e.0 < k).
    ap (λ (m : Map X). value_or d m k) (with_value-above e.0 k x e.1 es l)
    ∙ value_or-there d e.0 e.1 (with_value k x es) k (λ (s : e.0 ≡ k). omega arith) ∙ value_or-with_value d k x es)
    (λ (l : k < e.0).
    ap (λ (m : Map X). value_or d m k) (with_value-before e.0 k x e.1 es l) ∙ value_or-here d k x (e ∷ es))
    o)
    (cases_order e.0 k)

-- the same first entry before maps that have the same
beyond : {X : Type 0} (d : X) (n : ℕ) (y : X) (m now : Map X) (q : ℕ) → value_or d now q ≡ value_or d m q → value_or d ((n, y) ∷ now) q ≡ value_or d ((n, y) ∷ m) q
beyond {X = X} d n y m now q e =
    ⊎_elim
    (λ (s : n ≡ q).
    ap (λ (k : ℕ). value_or d ((k, y) ∷ now) q) s ∙ value_or-here d q y now
    ∙ sym (ap (λ (k : ℕ). value_or d ((k, y) ∷ m) q) s ∙ value_or-here d q y m))
    (λ (o : (n < q) ⊎ (q < n)).
    let differ : n ≡ q → ⊥ = λ s. omega arith in
    value_or-there d n y now q differ ∙ e ∙ sym (value_or-there d n y m q differ))
    (cases_order n q)

pub value_or-with_value_other : {X : Type 0} (d : X) (k : ℕ) (x : X) (m : Map X) (q : ℕ) → (k ≡ q → ⊥) → value_or d (with_value k x m) q ≡ value_or d m q
value_or-with_value_other d k x [] q h = value_or-there d k x [] q h
value_or-with_value_other {X = X} d k x (e ∷ es) q h =
    ⊎_elim
    (λ (s : e.0 ≡ k).
    ap (λ (n : ℕ). value_or d (with_value k x ((n, e.1) ∷ es)) q) s
    ∙ ap (λ (m : Map X). value_or d m q) (with_value-same k x e.1 es) ∙ value_or-there d k x es q h
    ∙ sym (value_or-there d k e.1 es q h) ∙ ap (λ (n : ℕ). value_or d ((n, e.1) ∷ es) q) (sym s))
    (λ (o : (e.0 < k) ⊎ (k < e.0)).
    ⊎_elim
    (λ (l : e.0 < k).
    ap (λ (m : Map X). value_or d m q) (with_value-above e.0 k x e.1 es l)
    ∙ beyond d e.0 e.1 es (with_value k x es) q (value_or-with_value_other d k x es q h))
    (λ (l : k < e.0).
    ap (λ (m : Map X). value_or d m q) (with_value-before e.0 k x e.1 es l) ∙ value_or-there d k x (e ∷ es) q h)
    o)
    (cases_order e.0 k)

pub value_or-without_other : {X : Type 0} (d : X) (k : ℕ) (m : Map X) (q : ℕ) → (k ≡ q → ⊥) → value_or d (entries_without (λ p. eqb p k) m) q ≡ value_or d m q
value_or-without_other d k [] q h = refl
value_or-without_other {X = X} d k (e ∷ es) q h =
    ⊎_elim
    (λ (s : e.0 ≡ k).
    ap (λ (n : ℕ). value_or d (entries_without (λ p. eqb p k) ((n, e.1) ∷ es)) q) s
    ∙ ap (λ (m : Map X). value_or d m q) (without-same k e.1 es) ∙ value_or-without_other d k es q h
    ∙ sym (value_or-there d k e.1 es q h) ∙ ap (λ (n : ℕ). value_or d ((n, e.1) ∷ es) q) (sym s))
    (λ (o : (e.0 < k) ⊎ (k < e.0)).
    ap (λ (m : Map X). value_or d m q) (without-other e.0 k e.1 es (λ s. omega arith))
    ∙ beyond d e.0 e.1 es (entries_without (λ p. eqb p k) es) q (value_or-without_other d k es q h))
    (cases_order e.0 k)

pub value_or-with_kept_other : {X : Type 0} (keeps : X → Bool) (d : X) (k : ℕ) (x : X) (m : Map X) (q : ℕ) → (k ≡ q → ⊥) → value_or d (with_kept keeps k x m) q ≡ value_or d m q
value_or-with_kept_other {X = X} keeps d k x m q h =
    ⊎_elim
    (λ (e : keeps x ≡ true). ap (λ (es : Map X). value_or d es q) (with_kept-kept keeps k x m e) ∙ value_or-with_value_other d k x m q h)
    (λ (e : keeps x ≡ false). ap (λ (es : Map X). value_or d es q) (with_kept-left keeps k x m e) ∙ value_or-without_other d k m q h)
    (cases_Bool (keeps x))

-- rights that are given to pages in a row leave those of lower pages
pub rights-with_rights_from_below : (first n : ℕ) (r : Rights) (m : MemoryMap) (q : ℕ) → q < first → value_or no_rights (with_rights_from first n r m).rights q ≡ value_or no_rights m.rights q
rights-with_rights_from_below first zero r m q h = refl
rights-with_rights_from_below first (suc n) r m q h =
    rights-with_rights_from_below (first + 1) n r (with_rights first r m) q (omega arith)
    ∙ value_or-with_kept_other is_any_right no_rights first r m.rights q (λ s. omega arith)

pub rights-with_rights_from : (first n : ℕ) (r : Rights) (m : MemoryMap) (q : ℕ) → is_any_right r ≡ true → first ≤ q → q < first + n → value_or no_rights (with_rights_from first n r m).rights q ≡ r
rights-with_rights_from first zero r m q some from below = absurd (omega arith)
rights-with_rights_from first (suc n) r m q some from below =
    ⊎_elim
    (λ (s : first ≡ q).
    rights-with_rights_from_below (first + 1) n r (with_rights first r m) q (omega arith)
    ∙ ap (λ (k : ℕ). value_or no_rights (with_kept is_any_right first r m.rights) k) (sym s)
    ∙ ap (λ (es : Map Rights). value_or no_rights es first) (with_kept-kept is_any_right first r m.rights some)
    ∙ value_or-with_value no_rights first r m.rights)
    (λ (o : (first < q) ⊎ (q < first)). rights-with_rights_from (first + 1) n r (with_rights first r m) q some (omega arith) (omega arith))
    (cases_order first q)

-- the highest page of the stack of a first memory
pub stack_rights : (image : ImageParts) (layout : Layout) → IsLayout layout → value_or no_rights (first_memory image layout).rights 0x3FFFFFF ≡ read_and_write
stack_rights image layout valid =
    let p = valid.whole_stack in
    let q = valid.some_stack in
    let s = valid.stack in
    rights-with_rights_from (page_of (stack_base layout)) (page_of layout.stack) read_and_write (fold (with_area image) (empty_memory image layout) image.areas) 0x3FFFFFF refl (omega arith) (omega arith)

rights-with_bytes : (m : MemoryMap) (a : ℕ) (bs : List ℕ) → (with_bytes a bs m).rights ≡ m.rights
rights-with_bytes m a [] = refl
rights-with_bytes m a (b ∷ bs) = rights-with_bytes (with_byte a b m) (a + 1) bs

pub rights-with_number : (m : MemoryMap) (a n v : ℕ) → (with_number a n v m).rights ≡ m.rights
rights-with_number m a n v = rights-with_bytes m a (bytes_low_first 0 n v)

-- bytes in one page have the right of its first one, also if only bytes have changed since
pub page_allowed : (right : Rights → Bool) (m now : MemoryMap) (a j n : ℕ) → right (rights_at m a) ≡ true → now.rights ≡ m.rights → a % 4096 + j + n ≤ 4096 → is_allowed right now (a + j) n ≡ true
page_allowed right m now a j n h same fits =
    allowed_from right now (a + j) n (λ i below.
    ap (λ (rs : Map Rights). right (value_or no_rights rs (page_of (a + j + i)))) same
    ∙ ap (λ (q : ℕ). right (value_or no_rights m.rights q)) (let e : page_of (a + j + i) ≡ page_of a = omega arith in e) ∙ h)

pub with_numbers-none : (m : MemoryMap) (a : ℕ) → with_numbers a [] m ≡ m
unfolding with_numbers
with_numbers-none m a = refl

pub with_numbers-more : (m : MemoryMap) (a n : ℕ) (ns : List ℕ) → with_numbers a (n ∷ ns) m ≡ with_numbers (a + 8) ns (with_number a 8 n m)
unfolding with_numbers
with_numbers-more m a n ns = refl

-- one number more
pub numbers_more : (m after : MemoryMap) (a i : ℕ) (ns : List ℕ) → i < length ns → after ≡ with_number (a + 8 * i) 8 (get_or ns i 0) m → with_numbers (a + 8 * (i + 1)) (drop (i + 1) ns) after ≡ with_numbers (a + 8 * i) (drop i ns) m
numbers_more m after a i ns h e =
    ap (λ (x : MemoryMap). with_numbers (a + 8 * (i + 1)) (drop (i + 1) ns) x) e
    ∙ ap (λ (q : ℕ). with_numbers q (drop (i + 1) ns) (with_number (a + 8 * i) 8 (get_or ns i 0) m)) (let f : a + 8 * (i + 1) ≡ a + 8 * i + 8 = omega arith in f)
    ∙ sym (with_numbers-more m (a + 8 * i) (get_or ns i 0) (drop (i + 1) ns))
    ∙ ap (λ (xs : List ℕ). with_numbers (a + 8 * i) xs m) (sym (drop_more ns i 0 h))
