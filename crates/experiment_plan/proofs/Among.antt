-- What holds of the elements of a list.
use Rattle.std.proofs.Common.{◌⊎◌, inl, inr, List, [], ◌∷◌, ◌++◌, All, refl, subst, arith}
use Rattle.std.specs.List.{AllByRecursion}
use Rattle.std.proofs.lemmas.List.Elements.{All-cons, All-contains}
use Rattle.line_index.proofs.Pieces.{Among, from_among}

pub all_among : {X : Type 0} (P : X → Type 0) (xs : List X) → ((x : X) → Among x xs → P x) → All P xs
all_among P [] h = λ k d lt. absurd (omega arith)
all_among P (x ∷ xs) h = All-cons P x xs (h x (inl refl)) (all_among P xs (λ y m. h y (inr m)))

pub one_among : {X : Type 0} (P : X → Type 0) (x : X) (xs : List X) → All P xs → Among x xs → P x
one_among P x xs all m = All-contains P xs x all (from_among x xs m)

pub each_among : {X : Type 0} (P : X → Type 0) (x : X) (xs : List X) → AllByRecursion P xs → Among x xs → P x
each_among P x [] all m = absurd m
each_among P x (y ∷ ys) all (inl e) = subst P e all.0
each_among P x (y ∷ ys) all (inr m) = each_among P x ys all.1 m

pub each_append : {X : Type 0} (P : X → Type 0) (xs ys : List X) → AllByRecursion P xs → AllByRecursion P ys → AllByRecursion P (xs ++ ys)
each_append P [] ys one two = two
each_append P (x ∷ xs) ys one two = (one.0, each_append P xs ys one.1 two)

pub among_either : {X : Type 0} (x : X) (xs ys : List X) → Among x (xs ++ ys) → Among x xs ⊎ Among x ys
among_either x [] ys m = inr m
among_either x (y ∷ xs) ys (inl e) = inl (inl e)
among_either x (y ∷ xs) ys (inr m) = either (among_either x xs ys m)
  where
    either : Among x xs ⊎ Among x ys → Among x (y ∷ xs) ⊎ Among x ys
    either (inl h) = inl (inr h)
    either (inr h) = inr h
