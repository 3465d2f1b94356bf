-- Waiters of a queue stay apart, and are at most 256.
use Rattle.std.proofs.Common.{ℕ, zero, suc, ◌≡◌, ◌≢◌, ◌≤◌, ◌<◌, Bool, true, false, eqb, List, [], ◌∷◌, ◌++◌, length, map, filter, arith, ⊎_elim, sym}
use Rattle.std.specs.Prelude.{All}
use Rattle.std.specs.List.{list_any, AllByRecursion, IsDistinct}
use Rattle.std.proofs.lemmas.Bool.{eqb-true, ne_eqb, cases_Bool}
use Rattle.std.proofs.lemmas.List.{length-map}
use Rattle.std.proofs.lemmas.Map.Steps.{length-le_from_distinct_below}
use Rattle.guest_futex.specs.Waiters.{Waiter, with_waiter, woken_harts, waiters_left}
use Rattle.guest_futex.specs.Apart.{AreOthers, AreApart}

-- a hart that no waiter is
pub others_from_all : (hart : ℕ) (ws : List Waiter) → All (λ w. w.hart ≢ hart) ws → AreOthers hart ws
others_from_all hart [] all = tt
others_from_all hart (w ∷ ws) all =
    (all 0 w (omega arith), others_from_all hart ws (λ k d (below : k < length ws). all (suc k) d (omega arith)))

pub others-append : (hart : ℕ) (ws : List Waiter) (w : Waiter) → AreOthers hart ws → w.hart ≢ hart → AreOthers hart (ws ++ w ∷ [])
others-append hart [] w others ne = (ne, tt)
others-append hart (x ∷ xs) w others ne = (others.0, others-append hart xs w others.1 ne)

pub apart-append : (ws : List Waiter) (w : Waiter) → AreApart ws → w.hart < 256 → AreOthers w.hart ws → AreApart (ws ++ w ∷ [])
apart-append [] w apart low others = (low, tt, tt)
apart-append (x ∷ xs) w apart low others =
    (apart.0, others-append x.hart xs w apart.1 (λ (is : w.hart ≡ x.hart). others.0 (sym is)), apart-append xs w apart.2 low others.1)

-- a hart that waits from now on is apart from the others
pub apart-with_waiter : (address hart : ℕ) (ws : List Waiter) → hart < 256 → AreOthers hart ws → AreApart ws → AreApart (with_waiter address hart ws)
apart-with_waiter address hart ws low others apart = apart-append ws (record { address = address; hart = hart }) apart low others

pub others-filter : (hart : ℕ) (keeps : Waiter → Bool) (ws : List Waiter) → AreOthers hart ws → AreOthers hart (filter keeps ws)
others-filter hart keeps [] others = tt
others-filter hart keeps (w ∷ ws) others =
    ⊎_elim
    (λ (yes : keeps w ≡ true). rw yes (others.0, others-filter hart keeps ws others.1))
    (λ (no : keeps w ≡ false). rw no (others-filter hart keeps ws others.1))
    (cases_Bool (keeps w))

apart-filter : (keeps : Waiter → Bool) (ws : List Waiter) → AreApart ws → AreApart (filter keeps ws)
apart-filter keeps [] apart = tt
apart-filter keeps (w ∷ ws) apart =
    ⊎_elim
    (λ (yes : keeps w ≡ true). rw yes (apart.0, others-filter w.hart keeps ws apart.1, apart-filter keeps ws apart.2))
    (λ (no : keeps w ≡ false). rw no (apart-filter keeps ws apart.2))
    (cases_Bool (keeps w))

-- those that are left are apart
pub apart-left : (address : ℕ) (ws : List Waiter) (count : ℕ) → AreApart ws → AreApart (waiters_left address ws count)
apart-left address ws count apart = apart-filter _ ws apart

distinct_from_others : (hart : ℕ) (ws : List Waiter) → AreOthers hart ws → AllByRecursion (λ q. eqb hart q ≡ false) (map (λ w. w.hart) ws)
distinct_from_others hart [] others = tt
distinct_from_others hart (w ∷ ws) others =
    (ne_eqb hart w.hart (λ (is : hart ≡ w.hart). others.0 (sym is)), distinct_from_others hart ws others.1)

distinct_from_apart : (ws : List Waiter) → AreApart ws → IsDistinct eqb (map (λ w. w.hart) ws)
unfolding IsDistinct
distinct_from_apart [] apart = tt
distinct_from_apart (w ∷ ws) apart = (distinct_from_others w.hart ws apart.1, distinct_from_apart ws apart.2)

low_from_apart : (ws : List Waiter) → AreApart ws → (q : ℕ) → list_any (eqb q) (map (λ w. w.hart) ws) ≡ true → q < 256
low_from_apart [] apart q here = cc
low_from_apart (w ∷ ws) apart q here =
    ⊎_elim
    (λ (same : eqb q w.hart ≡ true). let is : q ≡ w.hart = eqb-true q w.hart same in let low : w.hart < 256 = apart.0 in omega arith)
    (λ (other : eqb q w.hart ≡ false). low_from_apart ws apart.2 q (rw other at here))
    (cases_Bool (eqb q w.hart))

pub length-apart : (ws : List Waiter) → AreApart ws → length ws ≤ 256
length-apart ws apart =
    let many : length (map (λ (w : Waiter). w.hart) ws) ≤ 256 = length-le_from_distinct_below (map (λ w. w.hart) ws) 256 (distinct_from_apart ws apart) (low_from_apart ws apart) in
    rw length-map at many

-- there is room for one more
pub length-others : (hart : ℕ) (ws : List Waiter) → hart < 256 → AreOthers hart ws → AreApart ws → length ws < 256
length-others hart ws low others apart =
    let more : AreApart (record { address = 0; hart = hart } ∷ ws) = (low, others, apart) in
    let many = length-apart (record { address = 0; hart = hart } ∷ ws) more in
    omega arith

-- at most all are woken
pub length-woken : (address : ℕ) (ws : List Waiter) (count : ℕ) → length (woken_harts address ws count) ≤ length ws
length-woken address [] zero = omega arith
length-woken address [] (suc count) = omega arith
length-woken address (w ∷ ws) zero = omega arith
length-woken address (w ∷ ws) (suc count) =
    ⊎_elim
    (λ (here : eqb w.address address ≡ true). rw here (omega (arith, length-woken address ws count)))
    (λ (elsewhere : eqb w.address address ≡ false). rw elsewhere (omega (arith, length-woken address ws (suc count))))
    (cases_Bool (eqb w.address address))
