-- Lists of harts: which are among them, and that no hart comes twice.
use Rattle.std.proofs.Common.{ℕ, zero, suc, ◌≡◌, ◌≢◌, ◌≤◌, ◌<◌, ◌⊎◌, inl, inr, Bool, true, false, not, ◌||◌, ◌==◌, eqb, if◌then◌else◌, List, [], ◌∷◌, ◌++◌, length, map, filter, take, get_or, refl, sym, ap, ◌∙◌, subst, ⊎_elim, arith, eqb-true}
use Rattle.std.specs.List.{list_any, AllByRecursion, IsDistinct}
use Rattle.std.proofs.lemmas.Bool.{cases_Bool, eq-eqb, ne_eqb}
use Rattle.std.proofs.lemmas.List.{map-append}
use Rattle.std.proofs.lemmas.Map.Steps.{length-le_from_distinct_below}
use Rattle.machines.specs.Places.{is_among, AllApart}

pub never : {A : Type 0} (b : Bool) → b ≡ true → b ≡ false → A
never true e f = absurd (let no : true ≡ false = f in cc)
never false e f = absurd (let no : false ≡ true = e in cc)

if_or : (is a b : Bool) → (if is then true else (a || b)) ≡ ((if is then true else a) || b)
if_or true a b = refl
if_or false a b = refl

among-append : (k : ℕ) (xs ys : List ℕ) → is_among k (xs ++ ys) ≡ (is_among k xs || is_among k ys)
among-append k [] ys = refl
among-append k (x ∷ xs) ys = ap (λ (b : Bool). if k == x then true else b) (among-append k xs ys) ∙ if_or (k == x) (is_among k xs) (is_among k ys)

or_cases : (a b : Bool) → (a || b) ≡ true → (a ≡ true) ⊎ (b ≡ true)
or_cases true b e = inl refl
or_cases false b e = inr e

or_left : (a b : Bool) → a ≡ true → (a || b) ≡ true
or_left true b e = refl
or_left false b e = absurd (let no : false ≡ true = e in cc)

or_right : (a b : Bool) → b ≡ true → (a || b) ≡ true
or_right true b e = refl
or_right false b e = e

or_none : (a b : Bool) → a ≡ false → b ≡ false → (a || b) ≡ false
or_none true b e f = absurd (let no : true ≡ false = e in cc)
or_none false b e f = f

pub among_cases : (k : ℕ) (xs ys : List ℕ) → is_among k (xs ++ ys) ≡ true → (is_among k xs ≡ true) ⊎ (is_among k ys ≡ true)
among_cases k xs ys e = or_cases (is_among k xs) (is_among k ys) (sym (among-append k xs ys) ∙ e)

pub among_left : (k : ℕ) (xs ys : List ℕ) → is_among k xs ≡ true → is_among k (xs ++ ys) ≡ true
among_left k xs ys e = among-append k xs ys ∙ or_left (is_among k xs) (is_among k ys) e

pub among_right : (k : ℕ) (xs ys : List ℕ) → is_among k ys ≡ true → is_among k (xs ++ ys) ≡ true
among_right k xs ys e = among-append k xs ys ∙ or_right (is_among k xs) (is_among k ys) e

pub among_none : (k : ℕ) (xs ys : List ℕ) → is_among k xs ≡ false → is_among k ys ≡ false → is_among k (xs ++ ys) ≡ false
among_none k xs ys e f = among-append k xs ys ∙ or_none (is_among k xs) (is_among k ys) e f

-- what is not among more is not among fewer
pub among_fewer : (k : ℕ) (xs ys : List ℕ) → (is_among k xs ≡ true → is_among k ys ≡ true) → is_among k ys ≡ false → is_among k xs ≡ false
among_fewer k xs ys more none =
    ⊎_elim (λ (yes : is_among k xs ≡ true). never (is_among k ys) (more yes) none) (λ (no : is_among k xs ≡ false). no) (cases_Bool (is_among k xs))

first_or : (is rest : Bool) → (if is then true else rest) ≡ true → (is ≡ true) ⊎ (rest ≡ true)
first_or true rest e = inl refl
first_or false rest e = inr e

first_is : (k h : ℕ) (hs : List ℕ) → k ≡ h → is_among k (h ∷ hs) ≡ true
first_is k h hs same = rw (eq-eqb k h same) refl

rest_is : (k h : ℕ) (hs : List ℕ) → is_among k hs ≡ true → is_among k (h ∷ hs) ≡ true
rest_is k h hs e = elim (k == h) as (λ (b : Bool). (if b then true else is_among k hs) ≡ true) [ true ↦ refl | false ↦ e ]

pub among_first : (k h : ℕ) (hs : List ℕ) → is_among k (h ∷ hs) ≡ true → (k ≡ h) ⊎ (is_among k hs ≡ true)
among_first k h hs e = ⊎_elim (λ (is : (k == h) ≡ true). inl (eqb-true k h is)) (λ (in' : is_among k hs ≡ true). inr in') (first_or (k == h) (is_among k hs) e)

pub only : (k h : ℕ) → is_among k (h ∷ []) ≡ true → k ≡ h
only k h e = ⊎_elim (λ (is : k ≡ h). is) (λ (no : is_among k [] ≡ true). absurd (let no : false ≡ true = no in cc)) (among_first k h [] e)

-- two lists without a hart in common
pub record Parts (xs ys : List ℕ) : Type 0 where
  pub left : AllApart xs
  pub right : AllApart ys
  pub between : (k : ℕ) → is_among k xs ≡ true → is_among k ys ≡ false

none_left : (k : ℕ) (xs ys : List ℕ) → is_among k (xs ++ ys) ≡ false → is_among k xs ≡ false
none_left k xs ys e = among_fewer k xs (xs ++ ys) (among_left k xs ys) e

none_right : (k : ℕ) (xs ys : List ℕ) → is_among k (xs ++ ys) ≡ false → is_among k ys ≡ false
none_right k xs ys e = among_fewer k ys (xs ++ ys) (among_right k xs ys) e

pub parts : (xs ys : List ℕ) → AllApart (xs ++ ys) → Parts xs ys
parts [] ys apart = record { left = tt; right = apart; between = λ k e. absurd (let no : false ≡ true = e in cc) }
parts (x ∷ xs) ys apart =
    let rest = parts xs ys apart.1 in
    record {
      left = (none_left x xs ys apart.0, rest.left);
      right = rest.right;
      between = λ k e. ⊎_elim (λ (is : k ≡ x). rw is (none_right x xs ys apart.0)) (λ (in' : is_among k xs ≡ true). rest.between k in') (among_first k x xs e);
    }

pub joined : (xs ys : List ℕ) → Parts xs ys → AllApart (xs ++ ys)
joined [] ys p = p.right
joined (x ∷ xs) ys p = (
  among_none x xs ys p.left.0 (p.between x (first_is x x xs refl)),
  joined xs ys (record { left = p.left.1; right = p.right; between = λ k e. p.between k (rest_is k x xs e) }),
)

apart_one : (h : ℕ) → AllApart (h ∷ [])
apart_one h = (refl, tt)

-- the first ones
among_take : (n k : ℕ) (xs : List ℕ) → is_among k (take n xs) ≡ true → is_among k xs ≡ true
among_take zero k [] e = e
among_take zero k (x ∷ xs) e = absurd (let no : false ≡ true = e in cc)
among_take (suc n) k [] e = e
among_take (suc n) k (x ∷ xs) e = ⊎_elim (λ (is : k ≡ x). first_is k x xs is) (λ (in' : is_among k (take n xs) ≡ true). rest_is k x xs (among_take n k xs in')) (among_first k x (take n xs) e)

apart_take : (n : ℕ) (xs : List ℕ) → AllApart xs → AllApart (take n xs)
apart_take zero [] apart = tt
apart_take zero (x ∷ xs) apart = tt
apart_take (suc n) [] apart = tt
apart_take (suc n) (x ∷ xs) apart = (among_fewer x (take n xs) xs (among_take n x xs) apart.0, apart_take n xs apart.1)

module _ {X : Type 0} (f : X → ℕ) (keeps : X → Bool) where
  among_filter : (k : ℕ) (ws : List X) → is_among k (map f (filter keeps ws)) ≡ true → is_among k (map f ws) ≡ true
  among_filter k [] e = e
  among_filter k (w ∷ ws) e =
      ⊎_elim
      (λ (yes : keeps w ≡ true).
      ⊎_elim (λ (is : k ≡ f w). first_is k (f w) (map f ws) is) (λ (in' : is_among k (map f (filter keeps ws)) ≡ true). rest_is k (f w) (map f ws) (among_filter k ws in'))
      (among_first k (f w) (map f (filter keeps ws)) (rw yes at e)))
      (λ (no : keeps w ≡ false). rest_is k (f w) (map f ws) (among_filter k ws (rw no at e)))
      (cases_Bool (keeps w))

  apart_filter : (ws : List X) → AllApart (map f ws) → AllApart (map f (filter keeps ws))
  apart_filter [] apart = tt
  apart_filter (w ∷ ws) apart =
      ⊎_elim
      (λ (yes : keeps w ≡ true). rw yes (among_fewer (f w) (map f (filter keeps ws)) (map f ws) (among_filter (f w) ws) apart.0, apart_filter ws apart.1))
      (λ (no : keeps w ≡ false). rw no (apart_filter ws apart.1))
      (cases_Bool (keeps w))

  -- what holds of each that is kept
  among_kept : (Q : ℕ → Type 0) → ((w : X) → keeps w ≡ true → Q (f w)) → (k : ℕ) (ws : List X) → is_among k (map f (filter keeps ws)) ≡ true → Q k
  among_kept Q has k [] e = absurd (let no : false ≡ true = e in cc)
  among_kept Q has k (w ∷ ws) e =
      ⊎_elim
      (λ (yes : keeps w ≡ true).
      ⊎_elim (λ (is : k ≡ f w). subst Q (sym is) (has w yes)) (λ (in' : is_among k (map f (filter keeps ws)) ≡ true). among_kept Q has k ws in')
      (among_first k (f w) (map f (filter keeps ws)) (rw yes at e)))
      (λ (no : keeps w ≡ false). among_kept Q has k ws (rw no at e))
      (cases_Bool (keeps w))

-- one that is kept isn't among those that aren't
halves : {X : Type 0} (f : X → ℕ) (keeps : X → Bool) (k : ℕ) (ws : List X) → AllApart (map f ws) → is_among k (map f (filter (λ w. not (keeps w)) ws)) ≡ true → is_among k (map f (filter keeps ws)) ≡ false
halves f keeps k [] apart e = refl
halves f keeps k (w ∷ ws) apart e =
    ⊎_elim
    (λ (yes : keeps w ≡ true).
    let in' : is_among k (map f (filter (λ w. not (keeps w)) ws)) ≡ true = rw yes at e in
    let other : k ≢ f w = λ (is : k ≡ f w). never (is_among (f w) (map f ws)) (subst (λ (n : ℕ). is_among n (map f ws) ≡ true) is (among_filter f (λ w. not (keeps w)) k ws in')) apart.0 in
    rw (yes, ne_eqb k (f w) other) (halves f keeps k ws apart.1 in'))
    (λ (no : keeps w ≡ false).
    rw no
    (⊎_elim
    (λ (is : k ≡ f w). among_fewer k (map f (filter keeps ws)) (map f ws) (among_filter f keeps k ws) (subst (λ (n : ℕ). is_among n (map f ws) ≡ false) (sym is) apart.0))
    (λ (in' : is_among k (map f (filter (λ w. not (keeps w)) ws)) ≡ true). halves f keeps k ws apart.1 in')
    (among_first k (f w) (map f (filter (λ w. not (keeps w)) ws)) (rw no at e))))
    (cases_Bool (keeps w))

-- of those that waited some are woken, and the others are left
pub record IsWoken (before woken left : List ℕ) : Type 0 where
  pub from : (k : ℕ) → is_among k woken ≡ true → is_among k before ≡ true
  pub rest : (k : ℕ) → is_among k left ≡ true → is_among k before ≡ true
  pub gone : (k : ℕ) → is_among k left ≡ true → is_among k woken ≡ false
  pub apart : AllApart woken
  pub still : AllApart left

pub none_woken : (hs : List ℕ) → AllApart hs → IsWoken hs [] hs
none_woken hs apart = record {
  from = λ k e. absurd (let no : false ≡ true = e in cc);
  rest = λ k e. e;
  gone = λ k e. refl;
  apart = tt;
  still = apart;
}

-- those that a test keeps, at most n, if the others aren't among them
pub first_woken : {X : Type 0} (f : X → ℕ) (wakes keeps : X → Bool) (count : ℕ) (ws : List X) → AllApart (map f ws) → ((w : X) → keeps w ≡ true → is_among (f w) (take count (map f (filter wakes ws))) ≡ false)
    → IsWoken (map f ws) (take count (map f (filter wakes ws))) (map f (filter keeps ws))
first_woken f wakes keeps count ws apart others = record {
  from = λ k e. among_filter f wakes k ws (among_take count k (map f (filter wakes ws)) e);
  rest = λ k e. among_filter f keeps k ws e;
  gone = λ k e. among_kept f keeps (λ n. is_among n (take count (map f (filter wakes ws))) ≡ false) others k ws e;
  apart = apart_take count (map f (filter wakes ws)) (apart_filter f wakes ws apart);
  still = apart_filter f keeps ws apart;
}

-- all that a test keeps
pub all_woken : {X : Type 0} (f : X → ℕ) (wakes : X → Bool) (ws : List X) → AllApart (map f ws) → IsWoken (map f ws) (map f (filter wakes ws)) (map f (filter (λ w. not (wakes w)) ws))
all_woken f wakes ws apart = record {
  from = λ k e. among_filter f wakes k ws e;
  rest = λ k e. among_filter f (λ w. not (wakes w)) k ws e;
  gone = λ k e. halves f wakes k ws apart e;
  apart = apart_filter f wakes ws apart;
  still = apart_filter f (λ w. not (wakes w)) ws apart;
}

pub woken_then : (a first b second c : List ℕ) → IsWoken a first b → IsWoken b second c → IsWoken a (first ++ second) c
woken_then a first b second c x y = record {
  from = λ k e. ⊎_elim (λ (in' : is_among k first ≡ true). x.from k in') (λ (in' : is_among k second ≡ true). x.rest k (y.from k in')) (among_cases k first second e);
  rest = λ k e. x.rest k (y.rest k e);
  gone = λ k e. among_none k first second (x.gone k (y.rest k e)) (y.gone k e);
  apart = joined first second (record {
    left = x.apart;
    right = y.apart;
    between = λ k e.
        ⊎_elim (λ (in' : is_among k second ≡ true). never (is_among k first) e (x.gone k (y.from k in'))) (λ (no : is_among k second ≡ false). no) (cases_Bool (is_among k second));
  });
  still = y.still;
}

pub woken_left : (a woken b other : List ℕ) → AllApart (a ++ other) → IsWoken a woken b → IsWoken (a ++ other) woken (b ++ other)
woken_left a woken b other apart x =
    let p = parts a other apart in
    record {
      from = λ k e. among_left k a other (x.from k e);
      rest = λ k e. ⊎_elim (λ (in' : is_among k b ≡ true). among_left k a other (x.rest k in')) (λ (in' : is_among k other ≡ true). among_right k a other in') (among_cases k b other e);
      gone = λ k e.
          ⊎_elim (λ (in' : is_among k b ≡ true). x.gone k in')
          (λ (in' : is_among k other ≡ true).
          ⊎_elim (λ (yes : is_among k woken ≡ true). never (is_among k other) in' (p.between k (x.from k yes))) (λ (no : is_among k woken ≡ false). no) (cases_Bool (is_among k woken)))
          (among_cases k b other e);
      apart = x.apart;
      still = joined b other (record { left = x.still; right = p.right; between = λ k e. p.between k (x.rest k e) });
    }

pub woken_right : (other a woken b : List ℕ) → AllApart (other ++ a) → IsWoken a woken b → IsWoken (other ++ a) woken (other ++ b)
woken_right other a woken b apart x =
    let p = parts other a apart in
    record {
      from = λ k e. among_right k other a (x.from k e);
      rest = λ k e. ⊎_elim (λ (in' : is_among k other ≡ true). among_left k other a in') (λ (in' : is_among k b ≡ true). among_right k other a (x.rest k in')) (among_cases k other b e);
      gone = λ k e.
          ⊎_elim
          (λ (in' : is_among k other ≡ true).
          ⊎_elim (λ (yes : is_among k woken ≡ true). never (is_among k a) (x.from k yes) (p.between k in')) (λ (no : is_among k woken ≡ false). no) (cases_Bool (is_among k woken)))
          (λ (in' : is_among k b ≡ true). x.gone k in')
          (among_cases k other b e);
      apart = x.apart;
      still = joined other b (record {
        left = p.left;
        right = x.still;
        between = λ k e. among_fewer k b a (x.rest k) (p.between k e);
      });
    }

-- a hart waits beside those that did
pub record IsAdded (before : List ℕ) (h : ℕ) (after : List ℕ) : Type 0 where
  pub from : (k : ℕ) → is_among k after ≡ true → (k ≡ h) ⊎ (is_among k before ≡ true)
  pub apart : AllApart after

appended : (a : List ℕ) (h : ℕ) → AllApart a → is_among h a ≡ false → AllApart (a ++ h ∷ [])
appended a h apart none = joined a (h ∷ []) (record {
  left = apart;
  right = apart_one h;
  between = λ k e.
      ⊎_elim (λ (yes : is_among k (h ∷ []) ≡ true). never (is_among h a) (subst (λ (n : ℕ). is_among n a ≡ true) (only k h yes) e) none) (λ (no : is_among k (h ∷ []) ≡ false). no)
      (cases_Bool (is_among k (h ∷ [])));
})

pub added_first : {X : Type 0} (f : X → ℕ) (ws : List X) (w : X) (other : List ℕ) → AllApart (map f ws ++ other) → is_among (f w) (map f ws ++ other) ≡ false → IsAdded (map f ws ++ other) (f w) (map f (ws ++ w ∷ []) ++ other)
added_first f ws w other apart none =
    let p = parts (map f ws) other apart in
    rw (map-append f ws (w ∷ []))
    (record {
      from = λ k e.
          ⊎_elim
          (λ (in' : is_among k (map f ws ++ f w ∷ []) ≡ true).
          ⊎_elim (λ (here : is_among k (map f ws) ≡ true). inr (among_left k (map f ws) other here)) (λ (here : is_among k (f w ∷ []) ≡ true). inl (only k (f w) here)) (among_cases k (map f ws) (f w ∷ []) in'))
          (λ (in' : is_among k other ≡ true). inr (among_right k (map f ws) other in'))
          (among_cases k (map f ws ++ f w ∷ []) other e);
      apart = joined (map f ws ++ f w ∷ []) other (record {
        left = appended (map f ws) (f w) p.left (none_left (f w) (map f ws) other none);
        right = p.right;
        between = λ k e.
            ⊎_elim (λ (here : is_among k (map f ws) ≡ true). p.between k here)
            (λ (here : is_among k (f w ∷ []) ≡ true). subst (λ (n : ℕ). is_among n other ≡ false) (sym (only k (f w) here)) (none_right (f w) (map f ws) other none))
            (among_cases k (map f ws) (f w ∷ []) e);
      });
    })

pub added_last : {X : Type 0} (f : X → ℕ) (other : List ℕ) (ws : List X) (w : X) → AllApart (other ++ map f ws) → is_among (f w) (other ++ map f ws) ≡ false → IsAdded (other ++ map f ws) (f w) (other ++ map f (ws ++ w ∷ []))
added_last f other ws w apart none =
    let p = parts other (map f ws) apart in
    rw (map-append f ws (w ∷ []))
    (record {
      from = λ k e.
          ⊎_elim
          (λ (in' : is_among k other ≡ true). inr (among_left k other (map f ws) in'))
          (λ (in' : is_among k (map f ws ++ f w ∷ []) ≡ true).
          ⊎_elim (λ (here : is_among k (map f ws) ≡ true). inr (among_right k other (map f ws) here)) (λ (here : is_among k (f w ∷ []) ≡ true). inl (only k (f w) here)) (among_cases k (map f ws) (f w ∷ []) in'))
          (among_cases k other (map f ws ++ f w ∷ []) e);
      apart = joined other (map f ws ++ f w ∷ []) (record {
        left = p.left;
        right = appended (map f ws) (f w) p.right (none_right (f w) other (map f ws) none);
        between = λ k e.
            among_none k (map f ws) (f w ∷ []) (p.between k e)
            (⊎_elim (λ (yes : is_among k (f w ∷ []) ≡ true). never (is_among (f w) other) (subst (λ (n : ℕ). is_among n other ≡ true) (only k (f w) yes) e) (none_left (f w) other (map f ws) none)) (λ (no : is_among k (f w ∷ []) ≡ false). no)
            (cases_Bool (is_among k (f w ∷ []))));
      });
    })

-- apart numbers below a bound are no more than it
distinct : (h : ℕ) (hs : List ℕ) → is_among h hs ≡ false → AllByRecursion (λ q. eqb h q ≡ false) hs
distinct h [] none = tt
distinct h (x ∷ xs) none =
    ⊎_elim
    (λ (yes : eqb h x ≡ true). absurd (let no : true ≡ false = rw yes at none in cc))
    (λ (no : eqb h x ≡ false). (no, distinct h xs (rw no at none)))
    (cases_Bool (eqb h x))

all_distinct : (hs : List ℕ) → AllApart hs → IsDistinct eqb hs
unfolding IsDistinct
all_distinct [] apart = tt
all_distinct (h ∷ hs) apart = (distinct h hs apart.0, all_distinct hs apart.1)

any_among : (q : ℕ) (hs : List ℕ) → list_any (eqb q) hs ≡ true → is_among q hs ≡ true
any_among q [] e = e
any_among q (h ∷ hs) e =
    ⊎_elim (λ (yes : eqb q h ≡ true). rw yes refl) (λ (no : eqb q h ≡ false). rw no (any_among q hs (rw no at e))) (cases_Bool (eqb q h))

pub few_apart : (hs : List ℕ) (n : ℕ) → AllApart hs → ((k : ℕ) → is_among k hs ≡ true → k < n) → length hs ≤ n
few_apart hs n apart below = length-le_from_distinct_below hs n (all_distinct hs apart) (λ q here. below q (any_among q hs here))

-- the hart at a place
pub among_at : (hs : List ℕ) (i : ℕ) → i < length hs → is_among (get_or hs i 0) hs ≡ true
among_at [] i below = absurd (omega arith)
among_at (h ∷ hs) zero below = first_is h h hs refl
among_at (h ∷ hs) (suc i) below = rest_is (get_or hs i 0) h hs (among_at hs i (omega arith))

pub not_any : (k : ℕ) (hs : List ℕ) → list_any (λ h. h == k) hs ≡ false → is_among k hs ≡ false
not_any k [] e = refl
not_any k (h ∷ hs) e =
    ⊎_elim
    (λ (yes : eqb h k ≡ true). absurd (let no : true ≡ false = rw yes at e in cc))
    (λ (no : eqb h k ≡ false). rw (ne_eqb k h (λ (is : k ≡ h). never (eqb h k) (eq-eqb h k (sym is)) no)) (not_any k hs (rw no at e)))
    (cases_Bool (eqb h k))
