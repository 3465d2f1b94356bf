-- Reservations of harts that are apart stay so, and are at most 256.
use Rattle.std.proofs.Common.{ℕ, ◌≡◌, ◌≢◌, ◌≤◌, ◌<◌, Bool, true, false, eqb, List, [], ◌∷◌, ◌++◌, ◌+◌, length, take, set, map, filter, arith, subst, ap, ◌∙◌, ⊎_elim, sym}
use Rattle.std.specs.List.{list_any, AllByRecursion, IsDistinct}
use Rattle.std.proofs.lemmas.Bool.{eqb-true, eqb-false, ne_eqb, cases_Bool}
use Rattle.std.proofs.lemmas.List.{length-map, length-take, take_more_set}
use Rattle.std.proofs.lemmas.Map.Steps.{length-le_from_distinct_below}
use Rattle.rv_execute.specs.Held.{AreOthers, AreApart}
use Rattle.rv_execute.specs.Reservations.{without_own, with_reservation, eight_at}

pub others-filter : (keeps : (ℕ × ℕ) → Bool) (hart : ℕ) (es : List (ℕ × ℕ)) → AreOthers hart es → AreOthers hart (filter keeps es)
others-filter keeps hart [] others = tt
others-filter keeps hart (e ∷ es) others =
    let rest : AreOthers hart (filter keeps es) = others-filter keeps hart es others.1 in
    ⊎_elim
    (λ (yes : keeps e ≡ true). rw yes (others.0, rest))
    (λ (no : keeps e ≡ false). rw no rest)
    (cases_Bool (keeps e))

pub apart-filter : (keeps : (ℕ × ℕ) → Bool) (es : List (ℕ × ℕ)) → AreApart es → AreApart (filter keeps es)
apart-filter keeps [] apart = tt
apart-filter keeps (e ∷ es) apart =
    let rest : AreApart (filter keeps es) = apart-filter keeps es apart.2 in
    ⊎_elim
    (λ (yes : keeps e ≡ true). rw yes (apart.0, others-filter keeps e.0 es apart.1, rest))
    (λ (no : keeps e ≡ false). rw no rest)
    (cases_Bool (keeps e))

-- none of the hart's is left
pub others-without_own : (hart : ℕ) (es : List (ℕ × ℕ)) → AreOthers hart (without_own hart es)
others-without_own hart [] = tt
others-without_own hart (e ∷ es) =
    let rest : AreOthers hart (without_own hart es) = others-without_own hart es in
    ⊎_elim
    (λ (same : eqb e.0 hart ≡ true). rw same rest)
    (λ (other : eqb e.0 hart ≡ false). rw other ((λ (is : hart ≡ e.0). eqb-false e.0 hart other (sym is)), rest))
    (cases_Bool (eqb e.0 hart))

pub others-append : (hart : ℕ) (es : List (ℕ × ℕ)) (e : ℕ × ℕ) → AreOthers hart es → hart ≢ e.0 → AreOthers hart (es ++ e ∷ [])
others-append hart [] e others ne = (ne, tt)
others-append hart (x ∷ xs) e others ne = (others.0, others-append hart xs e others.1 ne)

pub apart-append : (es : List (ℕ × ℕ)) (e : ℕ × ℕ) → AreApart es → e.0 < 256 → AreOthers e.0 es → AreApart (es ++ e ∷ [])
apart-append [] e apart low others = (low, tt, tt)
apart-append (x ∷ xs) e apart low others =
    (apart.0, others-append x.0 xs e apart.1 (λ (is : x.0 ≡ e.0). others.0 (sym is)), apart-append xs e apart.2 low others.1)

-- a hart's new reservation is apart from those of others
pub apart-with_reservation : (hart address : ℕ) (es : List (ℕ × ℕ)) → hart < 256 → AreApart (without_own hart es) → AreApart (with_reservation hart address es)
apart-with_reservation hart address es low apart =
    apart-append (without_own hart es) (hart, eight_at address) apart low (others-without_own hart es)

pub distinct_from_others : (hart : ℕ) (es : List (ℕ × ℕ)) → AreOthers hart es → AllByRecursion (λ q. eqb hart q ≡ false) (map (λ e. e.0) es)
distinct_from_others hart [] others = tt
distinct_from_others hart (e ∷ es) others = (ne_eqb hart e.0 others.0, distinct_from_others hart es others.1)

pub distinct_from_apart : (es : List (ℕ × ℕ)) → AreApart es → IsDistinct eqb (map (λ e. e.0) es)
unfolding IsDistinct
distinct_from_apart [] apart = tt
distinct_from_apart (e ∷ es) apart = (distinct_from_others e.0 es apart.1, distinct_from_apart es apart.2)

pub low_from_apart : (es : List (ℕ × ℕ)) → AreApart es → (q : ℕ) → list_any (eqb q) (map (λ e. e.0) es) ≡ true → q < 256
low_from_apart [] apart q here = cc
low_from_apart (e ∷ es) apart q here =
    ⊎_elim
    (λ (same : eqb q e.0 ≡ true). let is : q ≡ e.0 = eqb-true q e.0 same in let low : e.0 < 256 = apart.0 in omega arith)
    (λ (other : eqb q e.0 ≡ false). low_from_apart es apart.2 q (rw other at here))
    (cases_Bool (eqb q e.0))

pub length-apart : (es : List (ℕ × ℕ)) → AreApart es → length es ≤ 256
length-apart es apart =
    let many : length (map (λ (e : ℕ × ℕ). e.0) es) ≤ 256 = length-le_from_distinct_below (map (λ e. e.0) es) 256 (distinct_from_apart es apart) (low_from_apart es apart) in
    rw length-map at many

-- there is room for one more
pub length-others : (hart : ℕ) (es : List (ℕ × ℕ)) → hart < 256 → AreApart (without_own hart es) → length (without_own hart es) < 256
length-others hart es low apart =
    let one_more : AreApart ((hart, 0) ∷ without_own hart es) = (low, others-without_own hart es, apart) in
    let many = length-apart ((hart, 0) ∷ without_own hart es) one_more in
    omega arith

-- what is held with one more in the first slot that is free
pub reserved : (hart address count : ℕ) (places r : List (ℕ × ℕ)) → hart < 256 → count ≤ length places → length places ≡ 256 → AreApart (take count places) → take count places ≡ without_own hart r → (count < 256) × (take (count + 1) (set places count (hart, eight_at address)) ≡ with_reservation hart address r) × AreApart (with_reservation hart address r)
reserved hart address count places r low within all apart kept =
    let others : AreApart (without_own hart r) = subst AreApart kept apart in
    let room = length-others hart r low others in
    let many = length-take count places in
    let same = ap length kept in
    let free : count < 256 = omega arith in
    (free, take_more_set places count (hart, eight_at address) (omega arith) ∙ ap (λ es. es ++ (hart, eight_at address) ∷ []) kept, apart-with_reservation hart address r low others)
