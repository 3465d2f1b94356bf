-- The pieces of vectored reads and writes, one by one.
use Rattle.std.proofs.Common.{ℕ, zero, suc, ◌≡◌, ◌+◌, ◌-◌, ◌*◌, ◌<◌, ◌≤◌, ◌++◌, min, List, [], ◌∷◌, length, take, drop, get_or, Bool, true, false, ◌&&◌, Some, refl, sym, ap, ◌∙◌, arith, append_assoc, add-one}
use Rattle.std.proofs.lemmas.List.{append-nil, take_all}
use Rattle.std.proofs.Math.Seq.{drop-cons}
use Rattle.std.proofs.lemmas.List.{length-drop}
use Rattle.guest_memory.specs.Memory.{MemoryMap, is_allowed, is_readable, is_writable, no_rights, rights_at, number_at, bytes_at, load}
use Rattle.guest_memory.specs.Regions.{page_of}
use Rattle.coz_types.specs.Maps.{Map, value_or}
use Rattle.coz_types.specs.declared.image.Rights.{Rights}
use Rattle.guest_memory.proofs.Runs.{allowed_from, allowed_each}
use Rattle.guest_memory.proofs.Pieces.{rights-with_bytes}
use Rattle.guest_calls.specs.declared.pieces.Piece.{Piece}
use Rattle.guest_calls.specs.Output.{Written, with_bytes_written}
use Rattle.guest_calls.specs.Guest.{Guest, memory_of}
use Rattle.guest_calls.proofs.Rows.{written}
use Rattle.guest_calls.specs.Calls.{piece_at, pieces_at, filled_parts, total, is_each_readable, is_each_writable, bytes_of, with_filled, with_read}

pub readable-within : (m : MemoryMap) (a n k j : ℕ) → is_readable m a n ≡ true → k + j ≤ n → is_readable m (a + k) j ≡ true
readable-within m a n k j may fits =
    allowed_from (λ r. r.read) m (a + k) j
    (λ i below. ap (λ (q : ℕ). (rights_at m q).read) (let e : a + k + i ≡ a + (k + i) = omega arith in e) ∙ allowed_each (λ r. r.read) m a n may (k + i) (omega arith))

pub load-readable : (m : MemoryMap) (a n : ℕ) → is_readable m a n ≡ true → load m a n ≡ Some (number_at m a n)
load-readable m a n may = rw may refl

pub pieces-more : (m : MemoryMap) (a i : ℕ) → pieces_at m a i ++ piece_at m (a + 16 * i) ∷ [] ≡ pieces_at m a (suc i)
pieces-more m a zero = ap (λ (q : ℕ). piece_at m q ∷ []) (let e : a + 16 * 0 ≡ a = omega arith in e)
pieces-more m a (suc i) =
    ap (λ (q : ℕ). piece_at m a ∷ (pieces_at m (a + 16) i ++ piece_at m q ∷ [])) (let e : a + 16 * suc i ≡ a + 16 + 16 * i = omega arith in e)
    ∙ ap (λ (ps : List Piece). piece_at m a ∷ ps) (pieces-more m (a + 16) i)

pub pieces-next : (m : MemoryMap) (a i : ℕ) → pieces_at m a i ++ piece_at m (a + 16 * i) ∷ [] ≡ pieces_at m a (i + 1)
pieces-next m a i = pieces-more m a i ∙ ap (pieces_at m a) (sym (add-one i))

-- a piece that a list has past its end
abbrev pub no_piece : Piece
no_piece = record { address = 0; length = 0 }

pub next-piece : (ps : List Piece) (i : ℕ) → i < length ps → drop i ps ≡ get_or ps i no_piece ∷ drop (i + 1) ps
next-piece ps i below =
    drop-cons ps i no_piece below ∙ ap (λ (k : ℕ). get_or ps i no_piece ∷ drop k ps) (sym (add-one i))

-- two appendings are one
take-twice : (n : ℕ) (xs ys : List ℕ) → take n (take n xs ++ ys) ≡ take n (xs ++ ys)
take-twice zero xs ys = refl
take-twice (suc n) [] ys = refl
take-twice (suc n) (x ∷ xs) ys = ap (λ (zs : List ℕ). x ∷ zs) (take-twice n xs ys)

pub written-twice : (xs ys : List ℕ) (w : Written) → with_bytes_written ys (with_bytes_written xs w) ≡ with_bytes_written (xs ++ ys) w
written-twice xs ys w =
    ap (λ (bs : List ℕ). record w { bytes = bs }) (take-twice w.limit (w.bytes ++ xs) ys ∙ ap (take w.limit) (append_assoc w.bytes xs ys))

and-first : (a b : Bool) → (a && b) ≡ true → a ≡ true
and-first true b e = refl
and-first false b e = e

and-second : (a b : Bool) → (a && b) ≡ true → b ≡ true
and-second true b e = e
and-second false b e = absurd (let q : false ≡ true = e in cc)

pub readable-first : (m : MemoryMap) (p : Piece) (ps : List Piece) → is_each_readable m (p ∷ ps) ≡ true → is_readable m p.address p.length ≡ true
readable-first m p ps e = and-first (is_readable m p.address p.length) (is_each_readable m ps) e

pub readable-rest : (m : MemoryMap) (p : Piece) (ps : List Piece) → is_each_readable m (p ∷ ps) ≡ true → is_each_readable m ps ≡ true
readable-rest m p ps e = and-second (is_readable m p.address p.length) (is_each_readable m ps) e

pub readable-next : (m : MemoryMap) (ps : List Piece) (i : ℕ) → i < length ps → is_each_readable m (drop i ps) ≡ true → is_each_readable m (get_or ps i no_piece ∷ drop (i + 1) ps) ≡ true
readable-next m ps i below e = ap (is_each_readable m) (sym (next-piece ps i below)) ∙ e

-- an output with nothing more
pub written-none : (bytes : List ℕ) (limit : ℕ) (w : Written) → length bytes ≤ limit → written bytes limit ≡ w → w ≡ with_bytes_written [] w
written-none bytes limit w inside view =
    let same : bytes ≡ take limit (bytes ++ []) = sym (ap (take limit) (append-nil bytes) ∙ take_all limit bytes inside) in
    sym view ∙ ap (λ (bs : List ℕ). written bs limit) same ∙ ap (with_bytes_written []) view

pub written-next : (m : MemoryMap) (ps : List Piece) (i : ℕ) (old new : Written) → i < length ps → new ≡ with_bytes_written (bytes_at m (get_or ps i no_piece).address (get_or ps i no_piece).length) old
    → with_bytes_written (bytes_of m (drop (i + 1) ps)) new ≡ with_bytes_written (bytes_of m (drop i ps)) old
written-next m ps i old new below e =
    ap (with_bytes_written (bytes_of m (drop (i + 1) ps))) e
    ∙ written-twice (bytes_at m (get_or ps i no_piece).address (get_or ps i no_piece).length) (bytes_of m (drop (i + 1) ps)) old
    ∙ ap (λ (qs : List Piece). with_bytes_written (bytes_of m qs) old) (sym (next-piece ps i below))

pub total-next : (ps : List Piece) (i : ℕ) → i < length ps → total (drop i ps) ≡ (get_or ps i no_piece).length + total (drop (i + 1) ps)
total-next ps i below = ap total (next-piece ps i below)

-- what is left after n bytes of a piece were filled
pub writable-next : (m : MemoryMap) (ps : List Piece) (i left taken : ℕ) → i < length ps → taken ≡ min (get_or ps i no_piece).length left
    → is_each_writable m (filled_parts (drop i ps) left) ≡ (is_writable m (get_or ps i no_piece).address taken && is_each_writable m (filled_parts (drop (i + 1) ps) (left - taken)))
writable-next m ps i left taken below e =
    let p : Piece = get_or ps i no_piece in
    ap (λ (qs : List Piece). is_each_writable m (filled_parts qs left)) (next-piece ps i below)
    ∙ ap (λ (n : ℕ). is_writable m p.address n && is_each_writable m (filled_parts (drop (i + 1) ps) (left - p.length))) (sym e)
    ∙ ap (λ (n : ℕ). is_writable m p.address taken && is_each_writable m (filled_parts (drop (i + 1) ps) n)) (let f : left - p.length ≡ left - taken = omega arith in f)

pub writable-accepted : (m : MemoryMap) (ps : List Piece) (i left taken : ℕ) → i < length ps → taken ≡ min (get_or ps i no_piece).length left → is_writable m (get_or ps i no_piece).address taken ≡ true
    → is_each_writable m (filled_parts (drop (i + 1) ps) (left - taken)) ≡ is_each_writable m (filled_parts (drop i ps) left)
writable-accepted m ps i left taken below e may =
    sym (writable-next m ps i left taken below e ∙ ap (λ (b : Bool). b && is_each_writable m (filled_parts (drop (i + 1) ps) (left - taken))) may)

pub writable-refused : (m : MemoryMap) (ps : List Piece) (i left taken : ℕ) → i < length ps → taken ≡ min (get_or ps i no_piece).length left → is_writable m (get_or ps i no_piece).address taken ≡ false
    → false ≡ is_each_writable m (filled_parts (drop i ps) left)
writable-refused m ps i left taken below e refused =
    sym (writable-next m ps i left taken below e ∙ ap (λ (b : Bool). b && is_each_writable m (filled_parts (drop (i + 1) ps) (left - taken))) refused)

allowed-same : (right : Rights → Bool) (m k : MemoryMap) → m.rights ≡ k.rights → (a n : ℕ) → is_allowed right m a n ≡ is_allowed right k a n
allowed-same right m k e a zero = refl
allowed-same right m k e a (suc n) =
    ap (λ (r : Map Rights). elim (right (value_or no_rights r (page_of a))) [ true ↦ is_allowed right m (a + 1) n | false ↦ false ]) e
    ∙ ap (λ (b : Bool). elim (right (rights_at k a)) [ true ↦ b | false ↦ false ]) (allowed-same right m k e (a + 1) n)

each-same : (m k : MemoryMap) → m.rights ≡ k.rights → (ps : List Piece) → is_each_writable m ps ≡ is_each_writable k ps
each-same m k e [] = refl
each-same m k e (p ∷ ps) =
    ap (λ (b : Bool). b && is_each_writable m ps) (allowed-same (λ r. r.write) m k e p.address p.length)
    ∙ ap (λ (b : Bool). is_writable k p.address p.length && b) (each-same m k e ps)

pub fill-writable : (g : Guest) (ps : List Piece) (i taken : ℕ) → i < length ps → taken ≡ min (get_or ps i no_piece).length (length g.input) → is_each_writable (memory_of g) (filled_parts (drop i ps) (length g.input)) ≡ true
    → is_writable (memory_of g) (get_or ps i no_piece).address taken ≡ true
fill-writable g ps i taken below e all =
    and-first (is_writable (memory_of g) (get_or ps i no_piece).address taken) (is_each_writable (memory_of g) (filled_parts (drop (i + 1) ps) (length g.input - taken)))
    (sym (writable-next (memory_of g) ps i (length g.input) taken below e) ∙ all)

input-left : (g after : Guest) (address taken : ℕ) → after ≡ with_filled address taken g → length after.input ≡ length g.input - taken
input-left g after address taken e = ap (λ (x : Guest). length x.input) e ∙ length-drop taken g.input

pub fill-rest : (g after : Guest) (ps : List Piece) (i taken : ℕ) → i < length ps → taken ≡ min (get_or ps i no_piece).length (length g.input) → is_each_writable (memory_of g) (filled_parts (drop i ps) (length g.input)) ≡ true
    → after ≡ with_filled (get_or ps i no_piece).address taken g → is_each_writable (memory_of after) (filled_parts (drop (i + 1) ps) (length after.input)) ≡ true
fill-rest g after ps i taken below e all f =
    let p : Piece = get_or ps i no_piece in
    let rights : (memory_of after).rights ≡ (memory_of g).rights = ap (λ (x : Guest). (memory_of x).rights) f ∙ rights-with_bytes (memory_of g) p.address (take taken g.input) in
    each-same (memory_of after) (memory_of g) rights (filled_parts (drop (i + 1) ps) (length after.input))
    ∙ ap (λ (n : ℕ). is_each_writable (memory_of g) (filled_parts (drop (i + 1) ps) n)) (input-left g after p.address taken f)
    ∙ and-second (is_writable (memory_of g) p.address taken) (is_each_writable (memory_of g) (filled_parts (drop (i + 1) ps) (length g.input - taken)))
    (sym (writable-next (memory_of g) ps i (length g.input) taken below e) ∙ all)

pub fill-next : (g after : Guest) (ps : List Piece) (i taken : ℕ) → i < length ps → taken ≡ min (get_or ps i no_piece).length (length g.input) → after ≡ with_filled (get_or ps i no_piece).address taken g
    → with_read (filled_parts (drop (i + 1) ps) (length after.input)) after ≡ with_read (filled_parts (drop i ps) (length g.input)) g
fill-next g after ps i taken below e f =
    let p : Piece = get_or ps i no_piece in
    let left : length (drop taken g.input) ≡ length g.input - p.length = length-drop taken g.input ∙ (let k : length g.input - taken ≡ length g.input - p.length = omega arith in k) in
    ap (λ (x : Guest). with_read (filled_parts (drop (i + 1) ps) (length x.input)) x) f
    ∙ ap (λ (n : ℕ). with_read (filled_parts (drop (i + 1) ps) n) (with_filled p.address taken g)) left
    ∙ ap (λ (n : ℕ). with_read (filled_parts (drop (i + 1) ps) (length g.input - p.length)) (with_filled p.address n g)) e
    ∙ ap (λ (qs : List Piece). with_read (filled_parts qs (length g.input)) g) (sym (next-piece ps i below))

pub fill-count : (g after : Guest) (ps : List Piece) (i taken : ℕ) → i < length ps → taken ≡ min (get_or ps i no_piece).length (length g.input) → after ≡ with_filled (get_or ps i no_piece).address taken g
    → total (filled_parts (drop i ps) (length g.input)) ≡ taken + total (filled_parts (drop (i + 1) ps) (length after.input))
fill-count g after ps i taken below e f =
    let p : Piece = get_or ps i no_piece in
    ap (λ (qs : List Piece). total (filled_parts qs (length g.input))) (next-piece ps i below)
    ∙ ap (λ (n : ℕ). n + total (filled_parts (drop (i + 1) ps) (length g.input - p.length))) (sym e)
    ∙ ap (λ (n : ℕ). taken + total (filled_parts (drop (i + 1) ps) n)) (sym (input-left g after p.address taken f ∙ (let k : length g.input - taken ≡ length g.input - p.length = omega arith in k)))

pub fill-left : (g after : Guest) (address taken : ℕ) → after ≡ with_filled address taken g → length after.input ≡ length g.input - taken
fill-left g after address taken f = input-left g after address taken f

-- reading makes no hart
pub read-harts : (ps : List Piece) (g : Guest) → length (with_read ps g).harts ≡ length g.harts
read-harts [] g = refl
read-harts (p ∷ ps) g = read-harts ps (with_filled p.address p.length g)
