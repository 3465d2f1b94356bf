-- How many harts are in a schedule.
use Rattle.std.proofs.Common.{◌≡◌, ℕ, zero, suc, ◌+◌, ◌≤◌, ◌<◌, [], ◌∷◌, length, arith, Option, Some, None}
use Rattle.std.proofs.lemmas.List.{length-set}
use Rattle.hart_schedule.specs.Keys.{Keys, key_of, with_key, without_key}
use Rattle.run_engine.specs.Begin.{many}

-- one more, as a hart is put into it
pub many_with : (keys : Keys) (h v : ℕ) → h < length keys → key_of keys h ≡ None → many (with_key h v keys) ≡ many keys + 1
many_with [] h v below none = absurd (omega (arith, below))
many_with (None ∷ keys) zero v below none = omega arith
many_with (Some u ∷ keys) zero v below none = absurd (let no : ◌≡◌ {A = Option ℕ} (Some u) None = none in cc)
many_with (None ∷ keys) (suc h) v below none = let less : h < length keys = omega arith in many_with keys h v less none
many_with (Some u ∷ keys) (suc h) v below none =
    let less : h < length keys = omega arith in
    let more : many (with_key h v keys) ≡ many keys + 1 = many_with keys h v less none in
    omega arith

-- one less, as a hart is taken out
pub many_without : (keys : Keys) (h v : ℕ) → key_of keys h ≡ Some v → many keys ≡ many (without_key h keys) + 1
many_without [] h v has = absurd (let no : ◌≡◌ {A = Option ℕ} None (Some v) = has in cc)
many_without (None ∷ keys) zero v has = absurd (let no : ◌≡◌ {A = Option ℕ} None (Some v) = has in cc)
many_without (Some u ∷ keys) zero v has = omega arith
many_without (None ∷ keys) (suc h) v has = many_without keys h v has
many_without (Some u ∷ keys) (suc h) v has =
    let less : many keys ≡ many (without_key h keys) + 1 = many_without keys h v has in
    omega arith

pub many_few : (keys : Keys) → many keys ≤ length keys
many_few [] = omega arith
many_few (None ∷ keys) = let few : many keys ≤ length keys = many_few keys in omega arith
many_few (Some u ∷ keys) = let few : many keys ≤ length keys = many_few keys in omega arith

-- there is room for a hart that isn't in it
pub many_below : (keys : Keys) (h : ℕ) → h < length keys → key_of keys h ≡ None → many keys < length keys
many_below keys h below none =
    let more : many (with_key h 0 keys) ≡ many keys + 1 = many_with keys h 0 below none in
    let few : many (with_key h 0 keys) ≤ length (with_key h 0 keys) = many_few (with_key h 0 keys) in
    let same : length (with_key h 0 keys) ≡ length keys = length-set keys h (Some 0) in
    omega arith
