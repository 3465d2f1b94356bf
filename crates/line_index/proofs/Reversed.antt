-- Paths by their bytes from the last to the first: where those stand that end alike.
use Rattle.std.proofs.Common.{◌≡◌, ℕ, suc, ◌+◌, ◌-◌, ◌<◌, ◌≤◌, ⊎_elim, true, false, List, [], ◌∷◌, ◌++◌, length, take, drop, get_or, Ordering, reverse, refl, sym, ap, ◌∙◌, arith}
use Rattle.std.specs.declared.cmp.Ordering.TheVariants.{Less, Equal, Greater}
use Rattle.std.specs.Ordering.{nat_cmp, ordering_then, ordering_index, is_lt, is_le}
use Rattle.std.specs.Cmp.{nat_cmp_total}
use Rattle.std.specs.Cmp.Lexicographic.{slice_cmp}
use Rattle.std.specs.List.Sorted.{IsSorted, IsNonDecreasingBy, IsPartitionPoint, IsPartitionedBy}
use Rattle.std.proofs.lemmas.Bool.{cases_lt}
use Rattle.std.proofs.lemmas.Cmp.{ranked}
use Rattle.std.proofs.lemmas.List.{reverse-append, reverse-reverse, length-append, take-append-drop}
use Rattle.std.proofs.lemmas.List.Sorted.{IsNonDecreasingBy-from_all_adjacent}
use Rattle.std.proofs.lemmas.Slice.Eq.{bytes_eq-Decides}
use Rattle.line_index.specs.Lines.{ends_with}
use Rattle.line_index.specs.Backwards.{IsStretch, backward, backward_cmp, ending, start_cmp}
use Rattle.line_index.proofs.Order.{self_equal}

-- ---- a start among bytes in order

no_more : (o : Ordering) → ordering_index o ≤ 2
no_more Less = omega arith
no_more Equal = omega arith
no_more Greater = omega arith

one_step : (b x y : ℕ) (p q r rest m n : Ordering) → p ≡ nat_cmp x b → q ≡ nat_cmp y b → r ≡ nat_cmp y x → (is_lt rest ≡ false → ordering_index m ≤ ordering_index n)
    → is_lt (ordering_then r rest) ≡ false → ordering_index (ordering_then p m) ≤ ordering_index (ordering_then q n)
one_step b x y p q Less rest m n e f g more not = let no : ⊥ = cc in absurd no
one_step b x y Less q r rest m n e f g more not = omega arith
one_step b x y Equal Greater r rest m n e f g more not = no_more m
one_step b x y Greater Greater r rest m n e f g more not = omega arith
one_step b x y Equal Equal Equal rest m n e f g more not = more not
one_step b x y Equal Less Equal rest m n e f g more not =
    let first : x ≡ b = ranked x b Equal e in
    let second : y < b = ranked y b Less f in
    let third : y ≡ x = ranked y x Equal g in
    absurd (omega arith)
one_step b x y Equal Less Greater rest m n e f g more not =
    let first : x ≡ b = ranked x b Equal e in
    let second : y < b = ranked y b Less f in
    let third : x < y = ranked y x Greater g in
    absurd (omega arith)
one_step b x y Equal Equal Greater rest m n e f g more not =
    let first : x ≡ b = ranked x b Equal e in
    let second : y ≡ b = ranked y b Equal f in
    let third : x < y = ranked y x Greater g in
    absurd (omega arith)
one_step b x y Greater Less Equal rest m n e f g more not =
    let first : b < x = ranked x b Greater e in
    let second : y < b = ranked y b Less f in
    let third : y ≡ x = ranked y x Equal g in
    absurd (omega arith)
one_step b x y Greater Less Greater rest m n e f g more not =
    let first : b < x = ranked x b Greater e in
    let second : y < b = ranked y b Less f in
    let third : x < y = ranked y x Greater g in
    absurd (omega arith)
one_step b x y Greater Equal Equal rest m n e f g more not =
    let first : b < x = ranked x b Greater e in
    let second : y ≡ b = ranked y b Equal f in
    let third : y ≡ x = ranked y x Equal g in
    absurd (omega arith)
one_step b x y Greater Equal Greater rest m n e f g more not =
    let first : b < x = ranked x b Greater e in
    let second : y ≡ b = ranked y b Equal f in
    let third : x < y = ranked y x Greater g in
    absurd (omega arith)

-- what stands later stands no earlier to those that begin so
later : (start xs ys : List ℕ) → is_lt (slice_cmp nat_cmp ys xs) ≡ false → ordering_index (start_cmp start xs) ≤ ordering_index (start_cmp start ys)
later [] xs ys not = omega arith
later (b ∷ start) [] ys not = omega arith
later (b ∷ start) (x ∷ xs) [] not = let no : ⊥ = cc in absurd no
later (b ∷ start) (x ∷ xs) (y ∷ ys) not =
    one_step b x y (nat_cmp x b) (nat_cmp y b) (nat_cmp y x) (slice_cmp nat_cmp ys xs) (start_cmp start xs) (start_cmp start ys) refl refl refl (later start xs ys) not

pub they_rise : (paths : List (List ℕ)) (list : List ℕ) (start : List ℕ) → IsSorted (backward_cmp paths) list → IsNonDecreasingBy (λ p. ordering_index (start_cmp start (backward paths p))) list
they_rise paths list start up =
    IsNonDecreasingBy-from_all_adjacent (λ p. ordering_index (start_cmp start (backward paths p))) list
    (λ k d lt. later start (backward paths (get_or list k d)) (backward paths (get_or list (k + 1) d)) (up k d (omega arith) lt))

less_before : (first second : Ordering) → ordering_index first ≤ ordering_index second → is_lt second ≡ true → is_lt first ≡ true
less_before Less second le e = refl
less_before Equal Less le e = absurd (omega (arith, le))
less_before Equal Equal le e = e
less_before Equal Greater le e = e
less_before Greater Less le e = absurd (omega (arith, le))
less_before Greater Equal le e = e
less_before Greater Greater le e = e

upto_before : (first second : Ordering) → ordering_index first ≤ ordering_index second → is_le second ≡ true → is_le first ≡ true
upto_before Less second le e = refl
upto_before Equal second le e = refl
upto_before Greater Less le e = absurd (omega (arith, le))
upto_before Greater Equal le e = absurd (omega (arith, le))
upto_before Greater Greater le e = e

pub before_parts : (paths : List (List ℕ)) (list : List ℕ) (start : List ℕ) → IsSorted (backward_cmp paths) list → IsPartitionedBy (λ p. is_lt (start_cmp start (backward paths p))) list
before_parts paths list start up i j d le lt e =
    less_before (start_cmp start (backward paths (get_or list i d))) (start_cmp start (backward paths (get_or list j d))) (they_rise paths list start up i j d le lt) e

pub upto_parts : (paths : List (List ℕ)) (list : List ℕ) (start : List ℕ) → IsSorted (backward_cmp paths) list → IsPartitionedBy (λ p. is_le (start_cmp start (backward paths p))) list
upto_parts paths list start up i j d le lt e =
    upto_before (start_cmp start (backward paths (get_or list i d))) (start_cmp start (backward paths (get_or list j d))) (they_rise paths list start up i j d le lt) e

-- ---- the paths that end with a text

begins : (start rest : List ℕ) → start_cmp start (start ++ rest) ≡ Equal
begins [] rest = refl
begins (b ∷ start) rest = ap (λ r. ordering_then r (start_cmp start (start ++ rest))) (self_equal nat_cmp_total b) ∙ begins start rest

begun_by : (b x : ℕ) (start bytes : List ℕ) (r : Ordering) → r ≡ nat_cmp x b → (start_cmp start bytes ≡ Equal → (rest : List ℕ) × (bytes ≡ start ++ rest)) → ordering_then r (start_cmp start bytes) ≡ Equal → (rest : List ℕ) × (x ∷ bytes ≡ b ∷ (start ++ rest))
begun_by b x start bytes Less is more e = let no : ⊥ = cc in absurd no
begun_by b x start bytes Equal is more e =
    let found = more e in
    let same : x ≡ b = ranked x b Equal is in
    (found.0, λ i. same i ∷ found.1 i)
begun_by b x start bytes Greater is more e = let no : ⊥ = cc in absurd no

begun : (start bytes : List ℕ) → start_cmp start bytes ≡ Equal → (rest : List ℕ) × (bytes ≡ start ++ rest)
begun [] bytes e = (bytes, refl)
begun (b ∷ start) [] e = let no : ⊥ = cc in absurd no
begun (b ∷ start) (x ∷ bytes) e = begun_by b x start bytes (nat_cmp x b) refl (begun start bytes) e

pub ends_among : (path text : List ℕ) → ends_with path text ≡ true → start_cmp (ending text) (reverse path) ≡ Equal
ends_among path text e =
    let k : ℕ = length path - suc (length text) in
    let end : drop k path ≡ 47 ∷ text = (bytes_eq-Decides (drop k path) (47 ∷ text)).0 e in
    let whole : take k path ++ (47 ∷ text) ≡ path = ap (λ rest. take k path ++ rest) (sym end) ∙ take-append-drop k path in
    ap (λ bytes. start_cmp (ending text) bytes) (ap reverse (sym whole) ∙ reverse-append (take k path) (47 ∷ text))
    ∙ begins (ending text) (reverse (take k path))

dropped : (front back : List ℕ) → drop (length (front ++ back) - length back) (front ++ back) ≡ back
dropped front back =
    let long : length (front ++ back) ≡ length front + length back = length-append front back in
    let many : length (front ++ back) - length back ≡ length front = omega arith in
    ap (λ k. drop k (front ++ back)) many ∙ behind front back
  where
    behind : (front back : List ℕ) → drop (length front) (front ++ back) ≡ back
    behind [] back = refl
    behind (x ∷ front) back = behind front back

pub among_ends : (path text : List ℕ) → start_cmp (ending text) (reverse path) ≡ Equal → ends_with path text ≡ true
among_ends path text e =
    let found = begun (ending text) (reverse path) e in
    let whole : path ≡ reverse found.0 ++ (47 ∷ text) = sym (reverse-reverse path) ∙ ap reverse found.1 ∙ reverse-append (ending text) found.0 ∙ ap (λ end. reverse found.0 ++ end) (reverse-reverse (47 ∷ text)) in
    (bytes_eq-Decides (drop (length path - suc (length text)) path) (47 ∷ text)).1
    (ap (λ p. drop (length p - suc (length text)) p) whole ∙ dropped (reverse found.0) (47 ∷ text))

-- ---- the stretch of those

one_of_three : (o : Ordering) → is_lt o ≡ false → is_le o ≡ true → o ≡ Equal
one_of_three Less e f = let no : ⊥ = cc in absurd no
one_of_three Equal e f = refl
one_of_three Greater e f = let no : ⊥ = cc in absurd no

-- those that don't stand before them, and not after them either
pub is_stretch : (paths : List (List ℕ)) (list : List ℕ) (text : List ℕ) (start end : ℕ)
    → IsPartitionPoint (λ p. is_lt (start_cmp (ending text) (backward paths p)) ≡ true) (λ p. is_lt (start_cmp (ending text) (backward paths p)) ≡ false) list start
    → IsPartitionPoint (λ p. is_le (start_cmp (ending text) (backward paths p)) ≡ true) (λ p. is_le (start_cmp (ending text) (backward paths p)) ≡ false) list end
    → IsStretch paths list text start end
is_stretch paths list text start end before upto rank lt =
    let path : List ℕ = get_or paths (get_or list rank 0) [] in
    let o : Ordering = start_cmp (ending text) (reverse path) in (
      λ h. among_ends path text (one_of_three o (before.1 rank 0 h.0 lt) (upto.0 rank 0 (omega arith) h.1)),
      λ e.
          let equal : o ≡ Equal = ends_among path text e in (
            ⊎_elim
                (λ less. let no : true ≡ false = sym (before.0 rank 0 (omega arith) less) ∙ ap is_lt equal in let none : ⊥ = cc in absurd none)
                (λ le. le)
                (cases_lt rank start),
            ⊎_elim
                (λ less. less)
                (λ le. let no : true ≡ false = sym (ap is_le equal) ∙ upto.1 rank 0 le lt in let none : ⊥ = cc in absurd none)
                (cases_lt rank end),
          ),
    )
