-- The elements of a list, by its recursion.
use Rattle.std.proofs.Common.{◌≡◌, ℕ, zero, suc, ◌<◌, ◌⊎◌, inl, inr, ⊎_elim, List, [], ◌∷◌, ◌++◌, length, get_or, map, Contains, refl, sym, ap, subst, arith}
use Rattle.std.specs.List.{flat_map, AllByRecursion}
use Rattle.std.specs.List.Sorted.{IsPermutation}
use Rattle.std.proofs.lemmas.List.Sorted.{Contains-permutation}

abbrev pub Among : {X : Type 0} → X → List X → Type 0
Among x [] = ⊥
Among x (y ∷ ys) = (y ≡ x) ⊎ Among x ys

pub to_among : {X : Type 0} (x : X) (xs : List X) (k : ℕ) → k < length xs → get_or xs k x ≡ x → Among x xs
to_among x [] k lt e = absurd (omega arith)
to_among x (y ∷ ys) zero lt e = inl e
to_among x (y ∷ ys) (suc k) lt e = inr (to_among x ys k (omega (arith, lt)) e)

pub from_among : {X : Type 0} (x : X) (xs : List X) → Among x xs → Contains xs x
from_among x [] h = absurd h
from_among x (y ∷ ys) (inl e) = (0, omega arith, e)
from_among x (y ∷ ys) (inr h) = let more = from_among x ys h in (suc more.0, omega (arith, more.1), more.2)

pub among_moved : {X : Type 0} (xs ys : List X) (x : X) → IsPermutation xs ys → Among x xs → Among x ys
among_moved xs ys x moved h = let at = Contains-permutation xs ys x moved (from_among x xs h) in to_among x ys at.0 at.1 at.2

pub among_left : {X : Type 0} (x : X) (xs ys : List X) → Among x xs → Among x (xs ++ ys)
among_left x [] ys h = absurd h
among_left x (z ∷ xs) ys (inl e) = inl e
among_left x (z ∷ xs) ys (inr h) = inr (among_left x xs ys h)

pub among_right : {X : Type 0} (x : X) (xs ys : List X) → Among x ys → Among x (xs ++ ys)
among_right x [] ys h = h
among_right x (z ∷ xs) ys h = inr (among_right x xs ys h)

pub among_either : {X : Type 0} (x : X) (xs ys : List X) → Among x (xs ++ ys) → Among x xs ⊎ Among x ys
among_either x [] ys h = inr h
among_either x (z ∷ xs) ys (inl e) = inl (inl e)
among_either x (z ∷ xs) ys (inr h) = ⊎_elim (λ m. inl (inr m)) (λ m. inr m) (among_either x xs ys h)

module _ {X Y : Type 0} (f : X → List Y) where
  pub into_all : (x : X) (y : Y) (xs : List X) → Among x xs → Among y (f x) → Among y (flat_map f xs)
  into_all x y [] h m = absurd h
  into_all x y (z ∷ xs) (inl e) m = among_left y (f z) (flat_map f xs) (subst (λ w. Among y (f w)) (sym e) m)
  into_all x y (z ∷ xs) (inr h) m = among_right y (f z) (flat_map f xs) (into_all x y xs h m)

  pub out_of_all : (y : Y) (xs : List X) → Among y (flat_map f xs) → (x : X) × Among x xs × Among y (f x)
  out_of_all y [] h = absurd h
  out_of_all y (z ∷ xs) h = ⊎_elim
      (λ m. (z, inl refl, m))
      (λ m. let more = out_of_all y xs m in (more.0, inr more.1, more.2))
      (among_either y (f z) (flat_map f xs) h)

  -- the lists of elements that are moved have the same elements
  pub all_moved : (xs ys : List X) (y : Y) → IsPermutation xs ys → Among y (flat_map f xs) → Among y (flat_map f ys)
  all_moved xs ys y moved h =
      let at = out_of_all y xs h in
      into_all at.0 y ys (among_moved xs ys at.0 moved at.1) at.2

pub among_map : {X Y : Type 0} (f : X → Y) (x : X) (xs : List X) → Among x xs → Among (f x) (map f xs)
among_map f x [] h = absurd h
among_map f x (y ∷ ys) (inl e) = inl (ap f e)
among_map f x (y ∷ ys) (inr h) = inr (among_map f x ys h)

pub among_mapped : {X Y : Type 0} (f : X → Y) (y : Y) (xs : List X) → Among y (map f xs) → (x : X) × Among x xs × (f x ≡ y)
among_mapped f y [] h = absurd h
among_mapped f y (x ∷ xs) (inl e) = (x, inl refl, e)
among_mapped f y (x ∷ xs) (inr h) = let more = among_mapped f y xs h in (more.0, inr more.1, more.2)

pub each_of : {X : Type 0} (P : X → Type 0) (xs : List X) → ((x : X) → Among x xs → P x) → AllByRecursion P xs
each_of P [] all = tt
each_of P (x ∷ xs) all = (all x (inl refl), each_of P xs (λ y h. all y (inr h)))

pub one_of : {X : Type 0} (P : X → Type 0) (x : X) (xs : List X) → AllByRecursion P xs → Among x xs → P x
one_of P x [] all h = absurd h
one_of P x (y ∷ ys) all (inl e) = subst P e all.0
one_of P x (y ∷ ys) all (inr h) = one_of P x ys all.1 h
