-- Values that are all present.
use Rattle.std.proofs.Common.{◌≡◌, ◌<◌, List, [], ◌∷◌, length, map, slice_index_or, Option, Some, None, IfSome, ℤ, pos, sym, subst, ap, ◌∙◌, refl, arith}
use Rattle.std.specs.List.{All}
use Rattle.std.proofs.lemmas.List.Elements.{All-map}
use Rattle.average_values.specs.Values.{mean}
use Rattle.average_steps.specs.Steps.{or_zero, present, mean_in}

mended : (P : ℤ → Type 0) → P (pos 0) → (v : Option ℤ) → IfSome v P → P (or_zero v)
mended P zero None h = zero
mended P zero (Some v) h = h

pub all_mended : (P : ℤ → Type 0) → P (pos 0) → (xs : List (Option ℤ)) (vs : List ℤ) → vs ≡ map or_zero xs → All (λ v. IfSome v P) xs → All P vs
all_mended P zero xs vs is all = subst (All P) (sym is) (All-map P or_zero xs (λ k d lt. mended P zero (slice_index_or xs k d) (all k d lt)))

some_mean : (vs : List ℤ) → 0 < length vs → mean_in (Some vs) ≡ Some (mean vs)
some_mean [] some = absurd (omega (arith, some))
some_mean (v ∷ vs) some = refl

pub mean_is : (xs : List (Option ℤ)) (vs : List ℤ) → 0 < length xs → length vs ≡ length xs → Some vs ≡ present xs → Some (mean vs) ≡ mean_in (present xs)
mean_is xs vs some count is = let here : 0 < length vs = omega (arith, some, count) in sym (some_mean vs here) ∙ ap mean_in is
