-- n bytes from an address on.
use Rattle.std.proofs.Common.{ℕ, zero, suc, ◌≡◌, ◌+◌, ◌-◌, ◌*◌, ◌/◌, ◌%◌, ◌^◌, ◌≤◌, ◌<◌, Bool, true, false, List, [], ◌∷◌, length, get_or, arith, refl, sym, ap, ◌∙◌, ⊎_elim, Some, None}
use Rattle.std.specs.Int.{byte_at as byte_of, bytes_low_first}
use Rattle.std.proofs.Math.Nat.{pow-succ', div-div-eq-div-mul}
use Rattle.std.proofs.lemmas.Bool.{cases_Bool, both_ways, true_from_ne_false}
use Rattle.std.proofs.lemmas.List.{ext_get_or}
use Rattle.coz_types.specs.declared.image.Rights.{Rights}
use Rattle.guest_memory.specs.declared.Right.{Right}
use Rattle.guest_memory.specs.declared.Right.TheVariants.{Read, Write, Execute}
use Rattle.guest_memory.specs.Right.{has_right}
use Rattle.coz_types.specs.declared.image.Area.{Area}
use Rattle.coz_types.specs.Image.{ImageParts}
use Rattle.guest_memory.specs.declared.Layout.{Layout}
use Rattle.std.specs.Prelude.{fold, if◌then◌else◌}
use Rattle.coz_types.specs.Maps.{value_or}
use Rattle.byteorder.specs.Endian.{little_from}
use Rattle.guest_memory.specs.Memory.{empty_memory, first_memory, read_and_write, MemoryMap, no_rights, byte_at, with_byte, rights_at, is_allowed, is_writable, number_at, with_number, with_bytes, with_rights, with_area, area_bytes, with_rights_from, bytes_at, store}
use Rattle.guest_memory.specs.Regions.{page_of, stack_base}

pub allowed_from : (right : Rights → Bool) (m : MemoryMap) (a n : ℕ) → ((j : ℕ) → j < n → right (rights_at m (a + j)) ≡ true) → is_allowed right m a n ≡ true
allowed_from right m a zero h = refl
allowed_from right m a (suc n) h =
    let here : right (rights_at m a) ≡ true =
    ap (λ (b : ℕ). right (rights_at m b)) (let e : a ≡ a + 0 = omega arith in e) ∙ h 0 (omega arith) in
    ap (λ (b : Bool). elim b as (λ _. Bool) [ true ↦ is_allowed right m (a + 1) n | false ↦ false ]) here
    ∙ allowed_from right m (a + 1) n (λ j below.
    ap (λ (b : ℕ). right (rights_at m b)) (let e : a + 1 + j ≡ a + suc j = omega arith in e) ∙ h (suc j) (omega arith))

pub refused_from : (right : Rights → Bool) (m : MemoryMap) (a n j : ℕ) → j < n → right (rights_at m (a + j)) ≡ false → is_allowed right m a n ≡ false
refused_from right m a zero j below h = absurd (omega arith)
refused_from right m a (suc n) zero below h =
    let here : right (rights_at m a) ≡ false =
    ap (λ (b : ℕ). right (rights_at m b)) (let e : a ≡ a + 0 = omega arith in e) ∙ h in
    ap (λ (b : Bool). elim b as (λ _. Bool) [ true ↦ is_allowed right m (a + 1) n | false ↦ false ]) here
refused_from right m a (suc n) (suc j) below h =
    let rest : is_allowed right m (a + 1) n ≡ false = refused_from right m (a + 1) n j (omega arith)
    (ap (λ (b : ℕ). right (rights_at m b)) (let e : a + 1 + j ≡ a + suc j = omega arith in e) ∙ h) in
    ⊎_elim
    (λ (e : right (rights_at m a) ≡ true). ap (λ (b : Bool). elim b as (λ _. Bool) [ true ↦ is_allowed right m (a + 1) n | false ↦ false ]) e ∙ rest)
    (λ (e : right (rights_at m a) ≡ false). ap (λ (b : Bool). elim b as (λ _. Bool) [ true ↦ is_allowed right m (a + 1) n | false ↦ false ]) e)
    (cases_Bool (right (rights_at m a)))

-- the run of pages that n bytes meet
pub allowed_pages : (right : Rights → Bool) (m : MemoryMap) (a n last : ℕ) → last + 1 ≡ a + n → ((q : ℕ) → a / 4096 ≤ q → q ≤ last / 4096 → right (value_or no_rights m.rights q) ≡ true) → is_allowed right m a n ≡ true
allowed_pages right m a n last e h = allowed_from right m a n (λ j below. h ((a + j) / 4096) (omega arith) (omega arith))

pub refused_page : (right : Rights → Bool) (m : MemoryMap) (a n last q : ℕ) → 0 < n → last + 1 ≡ a + n → a / 4096 ≤ q → q ≤ last / 4096 → right (value_or no_rights m.rights q) ≡ false → is_allowed right m a n ≡ false
refused_page right m a n last q some e from to h =
    let first : (q * 4096 - a < n) × ((a + (q * 4096 - a)) / 4096 ≡ q) = (omega arith, omega arith) in
    refused_from right m a n (q * 4096 - a) first.0
    (ap (λ (p : ℕ). right (value_or no_rights m.rights p)) first.1 ∙ h)

-- if all bytes are in the page of the first
pub allowed_here : (right : Rights → Bool) (m : MemoryMap) (a n : ℕ) → a % 4096 + n ≤ 4096 → right (rights_at m a) ≡ true → is_allowed right m a n ≡ true
allowed_here right m a n fits h =
    allowed_from right m a n (λ j below.
    ap (λ (p : ℕ). right (value_or no_rights m.rights p)) (let e : (a + j) / 4096 ≡ a / 4096 = omega arith in e) ∙ h)

pub refused_here : (right : Rights → Bool) (m : MemoryMap) (a n : ℕ) → 0 < n → right (rights_at m a) ≡ false → is_allowed right m a n ≡ false
refused_here right m a n some h =
    refused_from right m a n 0 some
    (ap (λ (p : ℕ). right (rights_at m p)) (let e : a + 0 ≡ a = omega arith in e) ∙ h)

pub none_has : (right : Right) → has_right right no_rights ≡ false
none_has Read = refl
none_has Write = refl
none_has Execute = refl

pub number-from : (m : MemoryMap) (bytes : List ℕ) (a p n : ℕ) → ((j : ℕ) → j < n → byte_at m (a + j) ≡ get_or bytes (p + j) 0) → number_at m a n ≡ little_from p n bytes
number-from m bytes a p zero h = refl
number-from m bytes a p (suc n) h =
    let here : byte_at m a ≡ get_or bytes p 0 =
    ap (λ (b : ℕ). byte_at m b) (let e : a ≡ a + 0 = omega arith in e) ∙ h 0 (omega arith)
    ∙ ap (λ (b : ℕ). get_or bytes b 0) (let e : p + 0 ≡ p = omega arith in e) in
    let rest : number_at m (a + 1) n ≡ little_from (suc p) n bytes =
    number-from m bytes (a + 1) (suc p) n (λ j below.
    ap (λ (b : ℕ). byte_at m b) (let e : a + 1 + j ≡ a + suc j = omega arith in e) ∙ h (suc j) (omega arith)
    ∙ ap (λ (b : ℕ). get_or bytes b 0) (let e : p + suc j ≡ suc p + j = omega arith in e)) in
    omega (arith, here, rest)

-- the bytes of a number above its lowest
byte_above : (i v : ℕ) → byte_of (suc i) v ≡ byte_of i (v / 256)
byte_above zero v = refl
byte_above (suc i) v =
    ap (λ (k : ℕ). v / k % 256) (pow-succ' 256 (suc i))
    ∙ ap (λ (k : ℕ). k % 256) (sym (div-div-eq-div-mul v 256 (256 ^ suc i)))

bytes_above : (i n v : ℕ) → bytes_low_first (suc i) n v ≡ bytes_low_first i n (v / 256)
bytes_above i zero v = refl
bytes_above i (suc n) v =
    ap (λ (b : ℕ). b ∷ bytes_low_first (suc (suc i)) n v) (byte_above i v)
    ∙ ap (λ (bs : List ℕ). byte_of i (v / 256) ∷ bs) (bytes_above (suc i) n v)

-- a number's lowest byte is written first
pub number-more : (a n v : ℕ) (m : MemoryMap) → with_number a (suc n) v m ≡ with_number (a + 1) n (v / 256) (with_byte a (v % 256) m)
number-more a n v m = ap (λ (bs : List ℕ). with_bytes (a + 1) bs (with_byte a (v % 256) m)) (bytes_above 0 n v)

pub length-bytes_at : (m : MemoryMap) (a n : ℕ) → length (bytes_at m a n) ≡ n
length-bytes_at m a zero = refl
length-bytes_at m a (suc n) = omega (arith, length-bytes_at m (a + 1) n)

pub get_or-bytes_at : (m : MemoryMap) (a n k : ℕ) → k < n → get_or (bytes_at m a n) k 0 ≡ byte_at m (a + k)
get_or-bytes_at m a zero k h = absurd (omega arith)
get_or-bytes_at m a (suc n) zero h = ap (λ (b : ℕ). byte_at m b) (let e : a ≡ a + 0 = omega arith in e)
get_or-bytes_at m a (suc n) (suc k) h =
    get_or-bytes_at m (a + 1) n k (omega arith) ∙ ap (λ (b : ℕ). byte_at m b) (let e : a + 1 + k ≡ a + suc k = omega arith in e)

-- all of the bytes
pub bytes_from : (m : MemoryMap) (a : ℕ) (bs : List ℕ) → ((k : ℕ) → k < length bs → get_or bs k 0 ≡ byte_at m (a + k)) → bs ≡ bytes_at m a (length bs)
bytes_from m a bs h =
    ext_get_or 0 bs (bytes_at m a (length bs)) (sym (length-bytes_at m a (length bs)))
    (λ i below. h i below ∙ sym (get_or-bytes_at m a (length bs) i below))

-- the right to each of the bytes
pub allowed_each : (right : Rights → Bool) (m : MemoryMap) (a n : ℕ) → is_allowed right m a n ≡ true → (j : ℕ) → j < n → right (rights_at m (a + j)) ≡ true
allowed_each right m a n h j below =
    true_from_ne_false (right (rights_at m (a + j))) (λ e. both_ways (is_allowed right m a n) (refused_from right m a n j below e) h)

-- one page more
pub with_rights_from_more : (m after : MemoryMap) (first count i : ℕ) (r : Rights) → i < count → after ≡ with_rights (first + i) r m → with_rights_from (first + (i + 1)) (count - (i + 1)) r after ≡ with_rights_from (first + i) (count - i) r m
with_rights_from_more m after first count i r h e =
    ap (λ (x : MemoryMap). with_rights_from (first + (i + 1)) (count - (i + 1)) r x) e
    ∙ ap (λ (q : ℕ). with_rights_from q (count - (i + 1)) r (with_rights (first + i) r m)) (let f : first + (i + 1) ≡ first + i + 1 = omega arith in f)
    ∙ ap (λ (k : ℕ). with_rights_from (first + i) k r m) (let f : suc (count - (i + 1)) ≡ count - i = omega arith in f)

-- neither the rights nor the bytes that are given change the image and the layout
pub same_regions-with_rights_from : (m : MemoryMap) (first count : ℕ) (r : Rights) → ((with_rights_from first count r m).image ≡ m.image) × ((with_rights_from first count r m).layout ≡ m.layout)
same_regions-with_rights_from m first zero r = (refl, refl)
same_regions-with_rights_from m first (suc count) r = same_regions-with_rights_from (with_rights first r m) (first + 1) count r

pub same_regions-with_bytes : (m : MemoryMap) (a : ℕ) (bs : List ℕ) → ((with_bytes a bs m).image ≡ m.image) × ((with_bytes a bs m).layout ≡ m.layout)
same_regions-with_bytes m a [] = (refl, refl)
same_regions-with_bytes m a (b ∷ bs) = same_regions-with_bytes (with_byte a b m) (a + 1) bs

pub same_regions-with_area : (image : ImageParts) (m : MemoryMap) (area : Area) → ((with_area image m area).image ≡ m.image) × ((with_area image m area).layout ≡ m.layout)
same_regions-with_area image m area =
    let g = same_regions-with_rights_from m (page_of area.start) (page_of area.size) area.rights in
    let w = same_regions-with_bytes (with_rights_from (page_of area.start) (page_of area.size) area.rights m) area.vaddr (area_bytes image area) in
    (w.0 ∙ g.0, w.1 ∙ g.1)

same_regions-areas : (image : ImageParts) (m : MemoryMap) (areas : List Area) → ((fold (with_area image) m areas).image ≡ m.image) × ((fold (with_area image) m areas).layout ≡ m.layout)
same_regions-areas image m [] = (refl, refl)
same_regions-areas image m (a ∷ as_) =
    let here = same_regions-with_area image m a in
    let rest = same_regions-areas image (with_area image m a) as_ in
    (rest.0 ∙ here.0, rest.1 ∙ here.1)

-- a first memory keeps the image and the layout
pub same_regions-first : (image : ImageParts) (layout : Layout) → ((first_memory image layout).image ≡ image) × ((first_memory image layout).layout ≡ layout)
same_regions-first image layout =
    let m = fold (with_area image) (empty_memory image layout) image.areas in
    let g = same_regions-with_rights_from m (page_of (stack_base layout)) (page_of layout.stack) read_and_write in
    let a = same_regions-areas image (empty_memory image layout) image.areas in
    (g.0 ∙ a.0, g.1 ∙ a.1)

-- what is a first memory is that of its own image and layout
pub first_again : (image : ImageParts) (layout : Layout) (m : MemoryMap) → m ≡ first_memory image layout → m ≡ first_memory m.image m.layout
first_again image layout m e =
    let f = same_regions-first image layout in
    e ∙ ap (λ (i : ImageParts). first_memory i layout) (sym (ap (λ (x : MemoryMap). x.image) e ∙ f.0))
    ∙ ap (λ (l : Layout). first_memory m.image l) (sym (ap (λ (x : MemoryMap). x.layout) e ∙ f.1))

-- nor does a store change them
pub same_regions-store : (m after : MemoryMap) (a n v : ℕ) → Some after ≡ store a n v m → (after.image ≡ m.image) × (after.layout ≡ m.layout)
same_regions-store m after a n v e =
    let same : after ≡ with_number a n v m = told (is_writable m a n) (with_number a n v m) after e in
    let kept = same_regions-with_bytes m a (bytes_low_first 0 n v) in
    (ap (λ (x : MemoryMap). x.image) same ∙ kept.0, ap (λ (x : MemoryMap). x.layout) same ∙ kept.1)
  where
    told : (b : Bool) (x y : MemoryMap) → Some y ≡ (if b then Some x else None) → y ≡ x
    told true x y e = cc
    told false x y e = absurd (cc)
