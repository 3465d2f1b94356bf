-- Changes of finite maps, in lists.
use Rattle.std.proofs.Common.{◌≡◌, ℕ, zero, suc, ◌+◌, ◌-◌, ◌<◌, ◌≤◌, List, [], ◌∷◌, ◌++◌, length, map, replicate, get_or, set, refl, sym, ap, ◌∙◌, arith, length-append}
use Rattle.std.proofs.lemmas.List.{append-nil, append_assoc}
use Rattle.machines.specs.Places.{change}

-- a number that has a value
pub change_within : {A : Type 0} (x : A) (h : ℕ) (v : A) (xs : List A) → h < length xs → change x h (λ _. v) xs ≡ set xs h v
change_within x h v [] below = absurd (omega (arith, below))
change_within x zero v (y ∷ ys) below = refl
change_within x (suc h) v (y ∷ ys) below = ap (λ zs. y ∷ zs) (change_within x h v ys (omega (arith, below)))

nil_past : {A : Type 0} (x : A) (k : ℕ) (v : A) → change x k (λ _. v) [] ≡ replicate k x ++ v ∷ []
nil_past x zero v = refl
nil_past x (suc k) v = ap (λ zs. x ∷ zs) (nil_past x k v)

-- a number past the last value, by so many
past_by : {A : Type 0} (x : A) (k : ℕ) (v : A) (xs : List A) (h : ℕ) → length xs + k ≡ h → change x h (λ _. v) xs ≡ xs ++ replicate k x ++ v ∷ []
past_by x k v [] h is = let same : h ≡ k = omega (arith, is) in ap (λ n. change x n (λ _. v) []) same ∙ nil_past x k v
past_by x k v (y ∷ ys) zero is = absurd (omega (arith, is))
past_by x k v (y ∷ ys) (suc h) is = ap (λ zs. y ∷ zs) (past_by x k v ys h (omega (arith, is)))

pub change_past : {A : Type 0} (x : A) (h : ℕ) (v : A) (xs : List A) → length xs ≤ h → change x h (λ _. v) xs ≡ xs ++ replicate (h - length xs) x ++ v ∷ []
change_past x h v xs past = past_by x (h - length xs) v xs h (omega (arith, past))

-- what is read is put
pub change_read : {A : Type 0} (x : A) (h : ℕ) (f : A → A) (xs : List A) → change x h (λ _. f (get_or xs h x)) xs ≡ change x h f xs
change_read x zero f [] = refl
change_read x zero f (y ∷ ys) = refl
change_read x (suc h) f [] = ap (λ zs. x ∷ zs) (change_read x h f [])
change_read x (suc h) f (y ∷ ys) = ap (λ zs. y ∷ zs) (change_read x h f ys)

-- with each value mapped
pub map_change : {A B : Type 0} (t : A → B) (x : A) (h : ℕ) (v : A) (xs : List A) → map t (change x h (λ _. v) xs) ≡ change (t x) h (λ _. t v) (map t xs)
map_change t x zero v [] = refl
map_change t x zero v (y ∷ ys) = refl
map_change t x (suc h) v [] = ap (λ zs. t x ∷ zs) (map_change t x h v [])
map_change t x (suc h) v (y ∷ ys) = ap (λ zs. t y ∷ zs) (map_change t x h v ys)

pub map_get : {A B : Type 0} (t : A → B) (xs : List A) (h : ℕ) (x : A) → get_or (map t xs) h (t x) ≡ t (get_or xs h x)
map_get t [] h x = refl
map_get t (y ∷ ys) zero x = refl
map_get t (y ∷ ys) (suc h) x = map_get t ys h x

-- a list while it is extended up to a length
pub record Extended {A : Type 0} (x : A) (count : ℕ) (old new : List A) : Type 0 where
  pub more : ℕ
  pub items : new ≡ old ++ replicate more x
  pub long : length new ≡ length old + more
  pub within : length new ≤ count

replicate_more : {A : Type 0} (x : A) (n : ℕ) → replicate n x ++ x ∷ [] ≡ x ∷ replicate n x
replicate_more x zero = refl
replicate_more x (suc n) = ap (λ zs. x ∷ zs) (replicate_more x n)

pub extended_first : {A : Type 0} (x : A) (count : ℕ) (xs : List A) → length xs ≤ count → Extended x count xs xs
extended_first x count xs within = record { more = 0; items = sym (append-nil xs); long = omega arith; within = within }

pub extended_more : {A : Type 0} (x : A) (count : ℕ) (old new : List A) → Extended x count old new → length new < count → Extended x count old (new ++ x ∷ [])
extended_more x count old new e room = record {
  more = suc e.more;
  items = ap (λ zs. zs ++ x ∷ []) e.items ∙ append_assoc old (replicate e.more x) (x ∷ []) ∙ ap (λ zs. old ++ zs) (replicate_more x e.more);
  long = let long = e.long in length-append new (x ∷ []) ∙ (let sum : length new + 1 ≡ length old + suc e.more = omega (arith, long) in sum);
  within = rw (length-append new (x ∷ [])) (omega (arith, room));
}

pub extended_all : {A : Type 0} (x : A) (count : ℕ) (old new : List A) → Extended x count old new → count ≤ length new → new ≡ old ++ replicate (count - length old) x
extended_all x count old new e full =
    let long = e.long in
    let within = e.within in
    let same : e.more ≡ count - length old = omega (arith, long, within, full) in
    e.items ∙ ap (λ k. old ++ replicate k x) same
