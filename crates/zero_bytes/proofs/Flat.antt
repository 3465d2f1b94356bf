-- Bytes in pieces as one list.
use Rattle.std.proofs.Common.{ℕ, zero, suc, ◌≡◌, ◌≢◌, ◌+◌, ◌*◌, ◌/◌, ◌%◌, ◌≤◌, ◌<◌, List, [], ◌∷◌, length, set, take, drop, replicate, get_or, arith, refl, sym, ap, subst, ◌∙◌, ⊎_elim}
use Rattle.std.specs.Prelude.{All}
use Rattle.std.proofs.Math.Seq.{sets, length-sets}
use Rattle.std.proofs.lemmas.Bool.{cases_eq, cases_lt}
use Rattle.std.proofs.lemmas.List.{length-set, length-take, length-drop, length-replicate, get_or-take, get_or-drop, get_or-replicate, get_or-set_other, get_or-set_same, get_or_past, ext_get_or}
use Rattle.std.proofs.lemmas.List.Edits.{sets-eq}
use Rattle.std.proofs.lemmas.List.Elements.{All-get_or, All-replicate}
use Rattle.byteorder.specs.Endian.{little_from}
use Rattle.zero_bytes.specs.Bytes.{bytes_with_number, bytes_with_put, IsZeroedFrom, IsCopiedAt}
use Rattle.zero_bytes.specs.Pieces.{filled, piece_byte, flat_from, ArePieces}
use Rattle.zero_bytes.proofs.Filled.{length-filled, get_or-filled}
use Rattle.zero_bytes.proofs.Written.{bytes_with_number_others, sets_others, length-bytes_with_number}

length-flat_from : (ps : List (List ℕ)) (a n : ℕ) → length (flat_from ps a n) ≡ n
unfolding flat_from
length-flat_from ps a zero = refl
length-flat_from ps a (suc n) = omega (arith, length-flat_from ps (a + 1) n)

get_or-flat_from : (ps : List (List ℕ)) (a n j : ℕ) → j < n → get_or (flat_from ps a n) j 0 ≡ piece_byte ps (a + j)
unfolding flat_from
get_or-flat_from ps a zero j h = absurd (omega arith)
get_or-flat_from ps a (suc n) zero h = ap (λ (q : ℕ). piece_byte ps q) (let e : a ≡ a + 0 = omega arith in e)
get_or-flat_from ps a (suc n) (suc j) h =
    get_or-flat_from ps (a + 1) n j (omega arith) ∙ ap (λ (q : ℕ). piece_byte ps q) (let e : a + 1 + j ≡ a + suc j = omega arith in e)

pub length-flat : (ps : List (List ℕ)) (n : ℕ) → length (flat_from ps 0 n) ≡ n
length-flat ps n = length-flat_from ps 0 n

pub get_or-flat : (ps : List (List ℕ)) (n j : ℕ) → j < n → get_or (flat_from ps 0 n) j 0 ≡ piece_byte ps j
get_or-flat ps n j h = get_or-flat_from ps 0 n j h ∙ ap (λ (q : ℕ). piece_byte ps q) (let e : 0 + j ≡ j = omega arith in e)

-- a list of the same bytes
flat-is : (ps : List (List ℕ)) (n : ℕ) (xs : List ℕ) → length xs ≡ n → ((j : ℕ) → j < n → piece_byte ps j ≡ get_or xs j 0) → flat_from ps 0 n ≡ xs
flat-is ps n xs many same =
    ext_get_or 0 (flat_from ps 0 n) xs (length-flat ps n ∙ sym many) (λ j below.
    let inside : j < n = omega (arith, length-flat ps n) in
    get_or-flat ps n j inside ∙ same j inside)

-- the byte at a place of one piece
at_piece : (ps : List (List ℕ)) (k i : ℕ) → i < 262144 → piece_byte ps (k * 262144 + i) ≡ get_or (get_or ps k []) i 0
at_piece ps k i h =
    let piece : (k * 262144 + i) / 262144 ≡ k = omega arith in
    let place : (k * 262144 + i) % 262144 ≡ i = omega arith in
    ap (λ (q : ℕ). get_or (get_or ps q []) ((k * 262144 + i) % 262144) 0) piece
    ∙ ap (λ (q : ℕ). get_or (get_or ps k []) q 0) place

set_here : (ps : List (List ℕ)) (k j : ℕ) (q : List ℕ) → k < length ps → j / 262144 ≡ k → piece_byte (set ps k q) j ≡ get_or q (j % 262144) 0
set_here ps k j q inside e =
    ap (λ (i : ℕ). get_or (get_or (set ps k q) i []) (j % 262144) 0) e
    ∙ ap (λ (bs : List ℕ). get_or bs (j % 262144) 0) (get_or-set_same ps k q [] inside)

set_other : (ps : List (List ℕ)) (k j : ℕ) (q : List ℕ) → j / 262144 ≢ k → piece_byte (set ps k q) j ≡ piece_byte ps j
set_other ps k j q n = ap (λ (bs : List ℕ). get_or bs (j % 262144) 0) (get_or-set_other ps k (j / 262144) q [] n)

-- a list that has the bytes of another piece at its place, and all else the same
set-is : (ps : List (List ℕ)) (n k : ℕ) (q xs : List ℕ) → k < length ps → length xs ≡ n
    → ((j : ℕ) → j < n → j / 262144 ≡ k → get_or q (j % 262144) 0 ≡ get_or xs j 0)
    → ((j : ℕ) → j < n → j / 262144 ≢ k → piece_byte ps j ≡ get_or xs j 0)
    → flat_from (set ps k q) 0 n ≡ xs
set-is ps n k q xs inside many here others =
    flat-is (set ps k q) n xs many (λ j below.
    ⊎_elim
    (λ (e : j / 262144 ≡ k). set_here ps k j q inside e ∙ here j below e)
    (λ (e : j / 262144 ≡ k → ⊥). set_other ps k j q e ∙ others j below e)
    (cases_eq (j / 262144) k))

-- the same number from the same bytes
same_little : (p q n : ℕ) (xs ys : List ℕ) → ((i : ℕ) → i < n → get_or xs (p + i) 0 ≡ get_or ys (q + i) 0) → little_from p n xs ≡ little_from q n ys
same_little p q zero xs ys same = refl
same_little p q (suc n) xs ys same =
    let first : get_or xs p 0 ≡ get_or ys q 0 =
    ap (λ (i : ℕ). get_or xs i 0) (let e : p ≡ p + 0 = omega arith in e) ∙ same 0 (omega arith)
    ∙ ap (λ (i : ℕ). get_or ys i 0) (let e : q + 0 ≡ q = omega arith in e) in
    let rest : little_from (suc p) n xs ≡ little_from (suc q) n ys =
    same_little (suc p) (suc q) n xs ys (λ i below.
    ap (λ (j : ℕ). get_or xs j 0) (let e : suc p + i ≡ p + suc i = omega arith in e) ∙ same (suc i) (omega arith)
    ∙ ap (λ (j : ℕ). get_or ys j 0) (let e : q + suc i ≡ suc q + i = omega arith in e)) in
    omega (arith, first, rest)

-- the bytes of one piece in all
in_piece : (ps : List (List ℕ)) (n o i : ℕ) → o + i < n → o % 262144 + i < 262144 → get_or (flat_from ps 0 n) (o + i) 0 ≡ get_or (get_or ps (o / 262144) []) (o % 262144 + i) 0
in_piece ps n o i below inside =
    get_or-flat ps n (o + i) below
    ∙ ap (λ (q : ℕ). piece_byte ps q) (let e : o + i ≡ o / 262144 * 262144 + (o % 262144 + i) = omega arith in e)
    ∙ at_piece ps (o / 262144) (o % 262144 + i) inside

pub little-flat : (ps : List (List ℕ)) (n o s : ℕ) → o + s ≤ n → o % 262144 + s ≤ 262144 → little_from (o % 262144) s (get_or ps (o / 262144) []) ≡ little_from o s (flat_from ps 0 n)
little-flat ps n o s below inside =
    same_little (o % 262144) o s (get_or ps (o / 262144) []) (flat_from ps 0 n) (λ i h. sym (in_piece ps n o i (omega arith) (omega arith)))

pub read-flat : (ps : List (List ℕ)) (n o s : ℕ) → length (get_or ps (o / 262144) []) ≡ 262144 → o + s ≤ n → o % 262144 + s ≤ 262144
    → take s (drop (o % 262144) (get_or ps (o / 262144) [])) ≡ take s (drop o (flat_from ps 0 n))
read-flat ps n o s size below inside =
    let p = get_or ps (o / 262144) [] in
    let f = flat_from ps 0 n in
    let left : length (take s (drop (o % 262144) p)) ≡ s = omega (arith, length-take s (drop (o % 262144) p), length-drop (o % 262144) p, size) in
    let right : length (take s (drop o f)) ≡ s = omega (arith, length-take s (drop o f), length-drop o f, length-flat ps n) in
    ext_get_or 0 (take s (drop (o % 262144) p)) (take s (drop o f)) (left ∙ sym right) (λ i h.
    let within : i < s = omega (arith, left) in
    get_or-take s (drop (o % 262144) p) i 0 within ∙ get_or-drop (o % 262144) p i 0
    ∙ sym (in_piece ps n o i (omega arith) (omega arith))
    ∙ sym (get_or-take s (drop o f) i 0 within ∙ get_or-drop o f i 0))

-- writes of the same bytes to two lists
set_moved : (xs ys : List ℕ) (p q s t b : ℕ) → get_or xs s 0 ≡ get_or ys t 0 → s + q ≡ t + p → p < length xs → q < length ys → get_or (set xs p b) s 0 ≡ get_or (set ys q b) t 0
set_moved xs ys p q s t b same apart first second =
    ⊎_elim
    (λ (e : s ≡ p).
    let f : t ≡ q = omega arith in
    ap (λ (i : ℕ). get_or (set xs p b) i 0) e ∙ get_or-set_same xs p b 0 first
    ∙ sym (ap (λ (i : ℕ). get_or (set ys q b) i 0) f ∙ get_or-set_same ys q b 0 second))
    (λ (e : s ≡ p → ⊥).
    get_or-set_other xs p s b 0 e ∙ same ∙ sym (get_or-set_other ys q t b 0 (λ f. e (omega arith))))
    (cases_eq s p)

number_moved : (p q n v : ℕ) (xs ys : List ℕ) (s t : ℕ) → get_or xs s 0 ≡ get_or ys t 0 → s + q ≡ t + p → p + n ≤ length xs → q + n ≤ length ys
    → get_or (bytes_with_number p n v xs) s 0 ≡ get_or (bytes_with_number q n v ys) t 0
number_moved p q zero v xs ys s t same apart first second = same
number_moved p q (suc n) v xs ys s t same apart first second =
    number_moved (p + 1) (q + 1) n (v / 256) (set xs p (v % 256)) (set ys q (v % 256)) s t
    (set_moved xs ys p q s t (v % 256) same apart (omega arith) (omega arith)) (omega arith)
    (omega (arith, length-set xs p (v % 256))) (omega (arith, length-set ys q (v % 256)))

sets_moved : (p q : ℕ) (ws xs ys : List ℕ) (s t : ℕ) → get_or xs s 0 ≡ get_or ys t 0 → s + q ≡ t + p → p + length ws ≤ length xs → q + length ws ≤ length ys
    → get_or (sets xs p ws) s 0 ≡ get_or (sets ys q ws) t 0
sets_moved p q [] xs ys s t same apart first second = same
sets_moved p q (w ∷ ws) xs ys s t same apart first second =
    sets_moved (suc p) (suc q) ws (set xs p w) (set ys q w) s t
    (set_moved xs ys p q s t w same apart (omega arith) (omega arith)) (omega arith)
    (omega (arith, length-set xs p w)) (omega (arith, length-set ys q w))

pub write-flat : (ps : List (List ℕ)) (n o s v : ℕ) → o / 262144 < length ps → length (get_or ps (o / 262144) []) ≡ 262144 → o + s ≤ n → o % 262144 + s ≤ 262144
    → flat_from (set ps (o / 262144) (bytes_with_number (o % 262144) s v (get_or ps (o / 262144) []))) 0 n ≡ bytes_with_number o s v (flat_from ps 0 n)
write-flat ps n o s v inside size below fits =
    let p = get_or ps (o / 262144) [] in
    let f = flat_from ps 0 n in
    set-is ps n (o / 262144) (bytes_with_number (o % 262144) s v p) (bytes_with_number o s v f) inside
    (length-bytes_with_number o s v f ∙ length-flat ps n)
    (λ j h e.
    number_moved (o % 262144) o s v p f (j % 262144) j
    (sym (get_or-flat ps n j h ∙ ap (λ (k : ℕ). get_or (get_or ps k []) (j % 262144) 0) e))
    (omega arith) (omega (arith, size)) (omega (arith, length-flat ps n)))
    (λ j h e. sym (bytes_with_number_others o s v f j (λ from to. e (omega arith)) ∙ get_or-flat ps n j h))

pub put-flat : (ps : List (List ℕ)) (n o : ℕ) (ws : List ℕ) → o / 262144 < length ps → length (get_or ps (o / 262144) []) ≡ 262144 → o + length ws ≤ n → o % 262144 + length ws ≤ 262144
    → flat_from (set ps (o / 262144) (bytes_with_put (o % 262144) ws (get_or ps (o / 262144) []))) 0 n ≡ bytes_with_put o ws (flat_from ps 0 n)
put-flat ps n o ws inside size below fits =
    let p = get_or ps (o / 262144) [] in
    let f = flat_from ps 0 n in
    ap (λ (bs : List ℕ). flat_from (set ps (o / 262144) bs) 0 n) (sym (sets-eq ws p (o % 262144) (omega (arith, size))))
    ∙ set-is ps n (o / 262144) (sets p (o % 262144) ws) (sets f o ws) inside
    (length-sets f o ws ∙ length-flat ps n)
    (λ j h e.
    sets_moved (o % 262144) o ws p f (j % 262144) j
    (sym (get_or-flat ps n j h ∙ ap (λ (k : ℕ). get_or (get_or ps k []) (j % 262144) 0) e))
    (omega arith) (omega (arith, size)) (omega (arith, length-flat ps n)))
    (λ j h e. sym (sets_others o f ws j (λ from to. e (omega arith)) ∙ get_or-flat ps n j h))
    ∙ sets-eq ws f o (omega (arith, length-flat ps n))

-- a byte of all pieces after a change of one
changed_here : (ps : List (List ℕ)) (n k : ℕ) (q : List ℕ) (j : ℕ) → k < length ps → j < n → j / 262144 ≡ k → get_or (flat_from (set ps k q) 0 n) j 0 ≡ get_or q (j % 262144) 0
changed_here ps n k q j inside h e = get_or-flat (set ps k q) n j h ∙ set_here ps k j q inside e

changed_other : (ps : List (List ℕ)) (n k : ℕ) (q : List ℕ) (j : ℕ) → (j < n → j / 262144 ≢ k) → get_or (flat_from (set ps k q) 0 n) j 0 ≡ get_or (flat_from ps 0 n) j 0
changed_other ps n k q j e =
    ⊎_elim
    (λ (h : j < n). get_or-flat (set ps k q) n j h ∙ set_other ps k j q (e h) ∙ sym (get_or-flat ps n j h))
    (λ (h : n ≤ j).
    get_or_past (flat_from (set ps k q) 0 n) j 0 (omega (arith, length-flat (set ps k q) n))
    ∙ sym (get_or_past (flat_from ps 0 n) j 0 (omega (arith, length-flat ps n))))
    (cases_lt j n)

-- a byte of the changed piece that is as before
kept_here : (ps : List (List ℕ)) (n o : ℕ) (q : List ℕ) (j : ℕ) → o / 262144 < length ps → j < n → j / 262144 ≡ o / 262144
    → get_or q (j % 262144) 0 ≡ get_or (get_or ps (o / 262144) []) (j % 262144) 0 → get_or (flat_from (set ps (o / 262144) q) 0 n) j 0 ≡ get_or (flat_from ps 0 n) j 0
kept_here ps n o q j inside h e same =
    changed_here ps n (o / 262144) q j inside h e ∙ same
    ∙ ap (λ (k : ℕ). get_or (get_or ps k []) (j % 262144) 0) (sym e)
    ∙ sym (get_or-flat ps n j h)

others_flat : (ps : List (List ℕ)) (n o : ℕ) (q : List ℕ) → o / 262144 < length ps → o % 4096 ≡ 0
    → ((i : ℕ) → (o % 262144 ≤ i → i < o % 262144 + 4096 → ⊥) → get_or q i 0 ≡ get_or (get_or ps (o / 262144) []) i 0)
    → (j : ℕ) → (o ≤ j → j < o + 4096 → ⊥) → get_or (flat_from (set ps (o / 262144) q) 0 n) j 0 ≡ get_or (flat_from ps 0 n) j 0
others_flat ps n o q inside page same j out =
    ⊎_elim
    (λ (h : j < n).
    ⊎_elim
    (λ (e : j / 262144 ≡ o / 262144). kept_here ps n o q j inside h e (same (j % 262144) (λ from to. out (omega arith) (omega arith))))
    (λ (e : j / 262144 ≡ o / 262144 → ⊥). changed_other ps n (o / 262144) q j (λ below. e))
    (cases_eq (j / 262144) (o / 262144)))
    (λ (h : n ≤ j). changed_other ps n (o / 262144) q j (λ below. absurd (omega arith)))
    (cases_lt j n)

pub zero-flat : (ps : List (List ℕ)) (n o : ℕ) (q : List ℕ) → o / 262144 < length ps → o % 4096 ≡ 0 → o + 4096 ≤ n
    → IsZeroedFrom (o % 262144) (get_or ps (o / 262144) []) q → IsZeroedFrom o (flat_from ps 0 n) (flat_from (set ps (o / 262144) q) 0 n)
zero-flat ps n o q inside page below zeroed = record {
  same_length = length-flat (set ps (o / 262144) q) n ∙ sym (length-flat ps n);
  zeros = λ j from to.
      changed_here ps n (o / 262144) q j inside (omega arith) (omega arith) ∙ zeroed.zeros (j % 262144) (omega arith) (omega arith);
  others = others_flat ps n o q inside page zeroed.others;
}

pub copy-flat : (ps others : List (List ℕ)) (n m o : ℕ) (q : List ℕ) → o / 262144 < length ps → o % 4096 ≡ 0 → o + 4096 ≤ n → o + 4096 ≤ m
    → IsCopiedAt (o % 262144) (get_or ps (o / 262144) []) (get_or others (o / 262144) []) q
    → IsCopiedAt o (flat_from ps 0 n) (flat_from others 0 m) (flat_from (set ps (o / 262144) q) 0 n)
copy-flat ps others n m o q inside page below within copied = record {
  same_length = length-flat (set ps (o / 262144) q) n ∙ sym (length-flat ps n);
  here = λ j from to.
      let e : j / 262144 ≡ o / 262144 = omega arith in
      changed_here ps n (o / 262144) q j inside (omega arith) e ∙ copied.here (j % 262144) (omega arith) (omega arith)
      ∙ ap (λ (k : ℕ). get_or (get_or others k []) (j % 262144) 0) (sym e)
      ∙ sym (get_or-flat others m j (omega arith));
  others = others_flat ps n o q inside page copied.others;
}

-- pieces of zeros
zero_byte : (m k i : ℕ) → get_or (get_or (replicate m (filled 262144 [])) k []) i 0 ≡ 0
zero_byte m k i =
    ⊎_elim
    (λ (h : k < m). ap (λ (bs : List ℕ). get_or bs i 0) (get_or-replicate m k (filled 262144 []) [] h) ∙ get_or-filled 262144 i [])
    (λ (h : m ≤ k). ap (λ (bs : List ℕ). get_or bs i 0) (get_or_past (replicate m (filled 262144 [])) k [] (omega (arith, length-replicate m (filled 262144 [])))))
    (cases_lt k m)

pub zeros-flat : (ps : List (List ℕ)) (m n : ℕ) → ps ≡ replicate m (filled 262144 []) → flat_from ps 0 n ≡ replicate n 0
zeros-flat ps m n e =
    flat-is ps n (replicate n 0) (length-replicate n 0) (λ j below.
    ap (λ (xs : List (List ℕ)). piece_byte xs j) e ∙ zero_byte m (j / 262144) (j % 262144) ∙ sym (get_or-replicate n j 0 0 below))

pub zeros-pieces : (ps : List (List ℕ)) (m n : ℕ) → ps ≡ replicate m (filled 262144 []) → n < 262144 * m → ArePieces n ps
zeros-pieces ps m n e room = record {
  each = subst (λ (xs : List (List ℕ)). All (λ (p : List ℕ). length p ≡ 262144) xs) (sym e)
      (All-replicate (λ (p : List ℕ). length p ≡ 262144) m (filled 262144 []) (length-filled 262144 [] (omega arith)));
  room = omega (arith, room, ap (λ (xs : List (List ℕ)). length xs) e, length-replicate m (filled 262144 []));
}

-- the piece of a place has its size
pub piece_size : (ps : List (List ℕ)) (n o : ℕ) → ArePieces n ps → o ≤ n → (o / 262144 < length ps) × (length (get_or ps (o / 262144) []) ≡ 262144)
piece_size ps n o are below =
    let inside : o / 262144 < length ps = omega (arith, are.room) in
    (inside, All-get_or (λ (p : List ℕ). length p ≡ 262144) ps (o / 262144) [] inside are.each)
