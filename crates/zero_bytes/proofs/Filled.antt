-- A piece and the bytes that it stands for.
use Rattle.std.proofs.Common.{ℕ, zero, suc, Bool, true, false, eqb, ◌≡◌, ◌+◌, ◌-◌, ◌≤◌, ◌<◌, List, [], ◌∷◌, ◌++◌, length, replicate, take, drop, get_or, arith, refl, sym, ap, ◌∙◌, ⊎_elim}
use Rattle.std.proofs.lemmas.Bool.{cases_lt, both_ways, eqb-true}
use Rattle.std.proofs.lemmas.List.{length-append, length-replicate, length-take, length-drop, take_all, get_or-take, get_or-drop, ext_get_or, append-nil, get_or-replicate, get_or_past, get_or_append_left, get_or-append_right}
use Rattle.byteorder.specs.Endian.{little_from}
use Rattle.zero_bytes.specs.Bytes.{IsZeroedFrom, IsCopiedAt}
use Rattle.zero_bytes.specs.Pieces.{filled, IsPiece}

pub length-filled : (size : ℕ) (bytes : List ℕ) → length bytes ≤ size → length (filled size bytes) ≡ size
unfolding filled
length-filled size bytes h =
    omega (arith, length-append bytes (replicate (size - length bytes) 0), length-replicate {A = ℕ} (size - length bytes) 0)

-- a whole piece stands for itself
pub filled-whole : (size : ℕ) (bytes : List ℕ) → length bytes ≡ size → filled size bytes ≡ bytes
unfolding filled
filled-whole size bytes h =
    ap (λ (n : ℕ). bytes ++ replicate n 0) (let e : size - length bytes ≡ 0 = omega arith in e) ∙ append-nil bytes

-- an empty one for zeros
pub filled-empty : (size : ℕ) → filled size [] ≡ replicate (size - 0) 0
unfolding filled
filled-empty size = refl

zero_past : (n i : ℕ) → get_or (replicate {A = ℕ} n 0) i 0 ≡ 0
zero_past n i =
    ⊎_elim
    (λ (h : i < n). get_or-replicate n i 0 0 h)
    (λ (h : n ≤ i). get_or_past (replicate n 0) i 0 (omega (arith, length-replicate {A = ℕ} n 0)))
    (cases_lt i n)

pub get_or-filled : (size i : ℕ) (bytes : List ℕ) → get_or (filled size bytes) i 0 ≡ get_or bytes i 0
unfolding filled
get_or-filled size i bytes =
    ⊎_elim
    (λ (h : i < length bytes). get_or_append_left bytes (replicate (size - length bytes) 0) 0 i h)
    (λ (h : length bytes ≤ i).
    get_or-append_right bytes (replicate (size - length bytes) 0) (length bytes) i 0 refl h
    ∙ zero_past (size - length bytes) (i - length bytes)
    ∙ sym (get_or_past bytes i 0 h))
    (cases_lt i (length bytes))

-- a number in zeros
pub little-zeros : (at n : ℕ) (bytes : List ℕ) → ((i : ℕ) → get_or bytes i 0 ≡ 0) → little_from at n bytes ≡ 0
little-zeros at zero bytes none = refl
little-zeros at (suc n) bytes none = omega (arith, none at, little-zeros (suc at) n bytes none)

-- an empty piece
pub no_bytes : (empty : Bool) (n : ℕ) (bytes : List ℕ) → empty ≡ eqb n 0 → n ≡ length bytes → empty ≡ true → bytes ≡ []
no_bytes empty n [] e size is_empty = refl
no_bytes empty n (b ∷ bytes) e size is_empty = absurd (omega (arith, eqb-true n 0 (sym e ∙ is_empty), size))

-- a piece that is not empty
pub all_bytes : (empty : Bool) (n : ℕ) (bytes : List ℕ) → empty ≡ eqb n 0 → n ≡ length bytes → empty ≡ false → IsPiece bytes → length bytes ≡ 262144
all_bytes empty n bytes e size not_empty is =
    ⊎_elim
    (λ (none : bytes ≡ []).
    let zero_size : n ≡ 0 = size ∙ ap (λ (bs : List ℕ). length bs) none in
    absurd (both_ways empty not_empty (e ∙ ap (λ (k : ℕ). eqb k 0) zero_size)))
    (λ (whole : length bytes ≡ 262144). whole)
    is

pub little-empty : (size at n : ℕ) (bytes : List ℕ) → bytes ≡ [] → little_from at n (filled size bytes) ≡ 0
little-empty size at n bytes none =
    little-zeros at n (filled size bytes) (λ i. get_or-filled size i bytes ∙ ap (λ (bs : List ℕ). get_or bs i 0) none)

pub read-empty : (size at n : ℕ) (bytes into : List ℕ) → bytes ≡ [] → at + n ≤ size → length into ≡ n → ((i : ℕ) → i < n → get_or into i 0 ≡ 0) → into ≡ take n (drop at (filled size bytes))
read-empty size at n bytes into none inside many zeros =
    let whole : length (filled size bytes) ≡ size = length-filled size bytes (omega (arith, ap (λ (bs : List ℕ). length bs) none)) in
    let read : length (take n (drop at (filled size bytes))) ≡ n = omega (arith, length-take n (drop at (filled size bytes)), length-drop at (filled size bytes), whole) in
    ext_get_or 0 into (take n (drop at (filled size bytes))) (many ∙ sym read) (λ i below.
    let within : i < n = omega (arith, many) in
    zeros i within
    ∙ sym (get_or-take n (drop at (filled size bytes)) i 0 within ∙ get_or-drop at (filled size bytes) i 0
    ∙ get_or-filled size (at + i) bytes ∙ ap (λ (bs : List ℕ). get_or bs (at + i) 0) none))

-- an empty piece that is made a whole one
pub filled-resized : (size n : ℕ) (bytes new : List ℕ) → bytes ≡ [] → n ≡ length bytes → new ≡ take size bytes ++ replicate (size - n) 0 → new ≡ filled size bytes
unfolding filled
filled-resized size n bytes new none many e =
    e ∙ ap (λ (k : ℕ). take size bytes ++ replicate (size - k) 0) many
    ∙ ap (λ (bs : List ℕ). bs ++ replicate (size - length bytes) 0) (take_all size bytes (omega (arith, ap (λ (bs : List ℕ). length bs) none)))

-- an empty piece has zeros in each page
pub zero-empty : (size at : ℕ) (bytes : List ℕ) → bytes ≡ [] → IsZeroedFrom at (filled size bytes) (filled size bytes)
zero-empty size at bytes none = record {
  same_length = refl;
  zeros = λ j from to. get_or-filled size j bytes ∙ ap (λ (bs : List ℕ). get_or bs j 0) none;
  others = λ j out. refl;
}

-- so a page of an empty piece is copied by zeros
pub copied-empty : (size at : ℕ) (old bytes new : List ℕ) → bytes ≡ [] → IsZeroedFrom at old new → IsCopiedAt at old (filled size bytes) new
copied-empty size at old bytes new none zeroed = record {
  same_length = zeroed.same_length;
  here = λ j from to. zeroed.zeros j from to ∙ sym (get_or-filled size j bytes ∙ ap (λ (bs : List ℕ). get_or bs j 0) none);
  others = zeroed.others;
}
