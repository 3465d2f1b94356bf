-- What stands at an address, by places.
use Rattle.std.proofs.Common.{◌≡◌, ℕ, zero, suc, ◌-◌, ◌≤◌, ◌<◌, true, false, List, [], ◌∷◌, length, get_or, Option, None, nat_lt, leb, refl, sym, ap, ◌∙◌, subst, arith}
use Rattle.std.proofs.lemmas.List.{length-map, get_or-map}
use Rattle.std.proofs.lemmas.Bool.Decides.{nat_tests}
use Rattle.std.specs.List.Sorted.{IsNonDecreasingBy, IsPartitionPoint}
use Rattle.line_index.specs.declared.changes.Change.{Change}
use Rattle.line_index.specs.declared.changes.LineChange.{LineChange}
use Rattle.line_index.specs.Changes.{value_at, IsRising, place_of, change_of, changes_of}

pub low_at : (cs : List Change) (low k : ℕ) (d : Change) → IsRising low cs → k < length cs → low ≤ (get_or cs k d).address
low_at [] low k d up lt = absurd (omega arith)
low_at (c ∷ cs) low zero d up lt = up.0
low_at (c ∷ cs) low (suc k) d up lt = omega (arith, up.0, low_at cs (suc c.address) k d up.1 (omega arith))

pub rising_by_place : (cs : List Change) (low : ℕ) → IsRising low cs → IsNonDecreasingBy (λ (c : Change). c.address) cs
rising_by_place [] low up i j d le lt = absurd (omega arith)
rising_by_place (c ∷ cs) low up zero zero d le lt = omega arith
rising_by_place (c ∷ cs) low up zero (suc j) d le lt = omega (arith, low_at cs (suc c.address) j d up.1 (omega arith))
rising_by_place (c ∷ cs) low up (suc i) zero d le lt = absurd (omega arith)
rising_by_place (c ∷ cs) low up (suc i) (suc j) d le lt = rising_by_place cs (suc c.address) up.1 i j d (omega arith) (omega arith)

before_first : (cs : List Change) (a : ℕ) (x : Option ℕ) → ((d : Change) → 0 < length cs → leb (get_or cs 0 d).address a ≡ false) → value_at a x cs ≡ x
before_first [] a x h = refl
before_first (c ∷ cs) a x h = let f : leb c.address a ≡ false = h c (omega arith) in let t : nat_lt a c.address ≡ true = grind (arith, nat_tests) in rw t refl

at_place : (cs : List Change) (a n : ℕ) (x : Option ℕ) (d : Change) → n < length cs → ((k : ℕ) (e : Change) → k ≤ n → leb (get_or cs k e).address a ≡ true)
    → ((e : Change) → suc n < length cs → leb (get_or cs (suc n) e).address a ≡ false) → value_at a x cs ≡ (get_or cs n d).position
at_place [] a n x d lt before after = absurd (omega arith)
at_place (c ∷ cs) a zero x d lt before after =
    let t : leb c.address a ≡ true = before 0 c (omega arith) in
    let f : nat_lt a c.address ≡ false = grind (arith, nat_tests) in
    rw f (before_first cs a c.position (λ e less. after e (omega arith)))
at_place (c ∷ cs) a (suc n) x d lt before after =
    let t : leb c.address a ≡ true = before 0 c (omega arith) in
    let f : nat_lt a c.address ≡ false = grind (arith, nat_tests) in
    rw f (at_place cs a n c.position d (omega arith) (λ k e le. before (suc k) e (omega arith)) (λ e less. after e (omega arith)))

abbrev pub IsPoint : ℕ → List Change → ℕ → Type 0
IsPoint a cs n = IsPartitionPoint (λ (c : Change). leb c.address a ≡ true) (λ (c : Change). leb c.address a ≡ false) cs n

pub none_passed : (cs : List Change) (a n : ℕ) → n ≡ 0 → IsPoint a cs n → None ≡ value_at a None cs
none_passed cs a n e h = sym (before_first cs a None (λ d lt. h.1 0 d (omega arith) lt))

pub some_passed : (cs : List Change) (a n : ℕ) (d : Change) → 0 < n → n ≤ length cs → IsPoint a cs n → (get_or cs (n - 1) d).position ≡ value_at a None cs
some_passed cs a n d lt le h = sym (at_place cs a (n - 1) None d (omega arith) (λ k e less. h.0 k e (omega arith) (omega arith)) (λ e less. h.1 (suc (n - 1)) e (omega arith) less))

-- ---- the same of changes of lines

pub lines_by_place : (cs : List LineChange) → IsRising 0 (changes_of cs) → IsNonDecreasingBy (λ (c : LineChange). c.address) cs
lines_by_place cs up i j d le lt =
    let one : (get_or (changes_of cs) i (change_of d)).address ≡ (get_or cs i d).address = ap (λ (c : Change). c.address) (get_or-map change_of cs i d (change_of d) (omega arith)) in
    let other : (get_or (changes_of cs) j (change_of d)).address ≡ (get_or cs j d).address = ap (λ (c : Change). c.address) (get_or-map change_of cs j d (change_of d) lt) in
    omega (arith, rising_by_place (changes_of cs) 0 up i j (change_of d) le (omega (arith, length-map cs change_of)))

abbrev pub IsPlace : ℕ → List LineChange → ℕ → Type 0
IsPlace a cs n = IsPartitionPoint (λ (c : LineChange). leb c.address a ≡ true) (λ (c : LineChange). leb c.address a ≡ false) cs n

no_line : LineChange
no_line = record { address = 0; line = None }

is_point : (cs : List LineChange) (a n : ℕ) → n ≤ length cs → IsPlace a cs n → IsPoint a (changes_of cs) n
is_point cs a n within h = (
  λ k e low less. subst (λ (c : Change). leb c.address a ≡ true) (sym (get_or-map change_of cs k no_line e (omega arith))) (h.0 k no_line low less),
  λ k e le lt.
      let inside : k < length cs = omega (arith, length-map cs change_of) in
      subst (λ (c : Change). leb c.address a ≡ false) (sym (get_or-map change_of cs k no_line e inside)) (h.1 k no_line le inside),
)

pub no_line_passed : (cs : List LineChange) (a n : ℕ) → n ≡ 0 → IsPlace a cs n → None ≡ value_at a None (changes_of cs)
no_line_passed cs a n e h = none_passed (changes_of cs) a n e (is_point cs a n (omega arith) h)

pub line_passed : (cs : List LineChange) (a n : ℕ) (d : LineChange) → 0 < n → n ≤ length cs → IsPlace a cs n → place_of (get_or cs (n - 1) d).line ≡ value_at a None (changes_of cs)
line_passed cs a n d lt le h =
    ap (λ (c : Change). c.position) (sym (get_or-map change_of cs (n - 1) d (change_of d) (omega arith)))
    ∙ some_passed (changes_of cs) a n (change_of d) lt (omega (arith, length-map cs change_of)) (is_point cs a n le h)
