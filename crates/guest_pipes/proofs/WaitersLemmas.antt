-- Waiters stay apart, and are at most 256; those at an end are listed one by one.
use Rattle.std.proofs.Common.{ℕ, suc, ◌≡◌, ◌≢◌, ◌≤◌, ◌<◌, ◌+◌, Bool, true, false, not, ◌&&◌, eqb, List, [], ◌∷◌, ◌++◌, length, map, filter, drop, get_or, arith, ⊎_elim, refl, sym, ap, ◌∙◌, drop-cons, add-one, length-append}
use Rattle.std.specs.Prelude.{All}
use Rattle.std.specs.List.{list_any, AllByRecursion, IsDistinct}
use Rattle.std.proofs.lemmas.Bool.{eqb-true, ne_eqb, cases_Bool}
use Rattle.std.proofs.lemmas.List.{length-map}
use Rattle.std.proofs.lemmas.Map.Steps.{length-le_from_distinct_below}
use Rattle.guest_pipes.specs.declared.ends.End.{End}
use Rattle.guest_pipes.specs.declared.ends.PipeEnd.{PipeEnd}
use Rattle.guest_pipes.specs.declared.ends.PipeEnd.TheVariants.{Reading, Writing}
use Rattle.guest_pipes.specs.declared.waiters.PipeWaiter.{PipeWaiter}
use Rattle.guest_pipes.specs.Pipes.{is_kind, is_same, end_of, waits_at, woken_at, left_at}
use Rattle.guest_pipes.specs.Kept.{AreOthers, AreApart}

-- a hart that no waiter is
pub others_from_all : (hart : ℕ) (ws : List PipeWaiter) → All (λ w. w.hart.0 ≢ hart) ws → AreOthers hart ws
others_from_all hart [] all = tt
others_from_all hart (w ∷ ws) all =
    (all 0 w (omega arith), others_from_all hart ws (λ k d (below : k < length ws). all (suc k) d (omega arith)))

others-append : (hart : ℕ) (ws : List PipeWaiter) (w : PipeWaiter) → AreOthers hart ws → w.hart.0 ≢ hart → AreOthers hart (ws ++ w ∷ [])
others-append hart [] w others ne = (ne, tt)
others-append hart (x ∷ xs) w others ne = (others.0, others-append hart xs w others.1 ne)

pub apart-append : (ws : List PipeWaiter) (w : PipeWaiter) → AreApart ws → w.hart.0 < 256 → AreOthers w.hart.0 ws → AreApart (ws ++ w ∷ [])
apart-append [] w apart low others = (low, tt, tt)
apart-append (x ∷ xs) w apart low others =
    (apart.0, others-append x.hart.0 xs w apart.1 (λ (is : w.hart.0 ≡ x.hart.0). others.0 (sym is)), apart-append xs w apart.2 low others.1)

others-filter : (hart : ℕ) (keeps : PipeWaiter → Bool) (ws : List PipeWaiter) → AreOthers hart ws → AreOthers hart (filter keeps ws)
others-filter hart keeps [] others = tt
others-filter hart keeps (w ∷ ws) others =
    ⊎_elim
    (λ (yes : keeps w ≡ true). rw yes (others.0, others-filter hart keeps ws others.1))
    (λ (no : keeps w ≡ false). rw no (others-filter hart keeps ws others.1))
    (cases_Bool (keeps w))

apart-filter : (keeps : PipeWaiter → Bool) (ws : List PipeWaiter) → AreApart ws → AreApart (filter keeps ws)
apart-filter keeps [] apart = tt
apart-filter keeps (w ∷ ws) apart =
    ⊎_elim
    (λ (yes : keeps w ≡ true). rw yes (apart.0, others-filter w.hart.0 keeps ws apart.1, apart-filter keeps ws apart.2))
    (λ (no : keeps w ≡ false). rw no (apart-filter keeps ws apart.2))
    (cases_Bool (keeps w))

-- those that are left are apart
pub apart-left : (e : End) (ws : List PipeWaiter) → AreApart ws → AreApart (left_at e ws)
apart-left e ws apart = apart-filter (λ w. not (waits_at e w)) ws apart

distinct_from_others : (hart : ℕ) (ws : List PipeWaiter) → AreOthers hart ws → AllByRecursion (λ q. eqb hart q ≡ false) (map (λ w. w.hart.0) ws)
distinct_from_others hart [] others = tt
distinct_from_others hart (w ∷ ws) others =
    (ne_eqb hart w.hart.0 (λ (is : hart ≡ w.hart.0). others.0 (sym is)), distinct_from_others hart ws others.1)

distinct_from_apart : (ws : List PipeWaiter) → AreApart ws → IsDistinct eqb (map (λ w. w.hart.0) ws)
unfolding IsDistinct
distinct_from_apart [] apart = tt
distinct_from_apart (w ∷ ws) apart = (distinct_from_others w.hart.0 ws apart.1, distinct_from_apart ws apart.2)

low_from_apart : (ws : List PipeWaiter) → AreApart ws → (q : ℕ) → list_any (eqb q) (map (λ w. w.hart.0) ws) ≡ true → q < 256
low_from_apart [] apart q here = cc
low_from_apart (w ∷ ws) apart q here =
    ⊎_elim
    (λ (same : eqb q w.hart.0 ≡ true). let is : q ≡ w.hart.0 = eqb-true q w.hart.0 same in let low : w.hart.0 < 256 = apart.0 in omega arith)
    (λ (other : eqb q w.hart.0 ≡ false). low_from_apart ws apart.2 q (rw other at here))
    (cases_Bool (eqb q w.hart.0))

pub length-apart : (ws : List PipeWaiter) → AreApart ws → length ws ≤ 256
length-apart ws apart =
    let many : length (map (λ (w : PipeWaiter). w.hart.0) ws) ≤ 256 = length-le_from_distinct_below (map (λ w. w.hart.0) ws) 256 (distinct_from_apart ws apart) (low_from_apart ws apart) in
    rw length-map at many

-- there is room for one more
pub length-others : (w : PipeWaiter) (ws : List PipeWaiter) → w.hart.0 < 256 → AreOthers w.hart.0 ws → AreApart ws → length ws < 256
length-others w ws low others apart =
    let more : AreApart (w ∷ ws) = (low, others, apart) in
    let many = length-apart (w ∷ ws) more in
    omega arith

-- the waiter at a slot is listed, or it isn't
pub listed : (e : End) (ws : List PipeWaiter) (i : ℕ) (d : PipeWaiter) → i < length ws → is_same e (get_or ws i d).at ≡ true → woken_at e (drop i ws) ≡ (get_or ws i d).hart.0 ∷ woken_at e (drop (i + 1) ws)
listed e ws i d below here = ap (woken_at e) (drop-cons ws i d below) ∙ rw (add-one, here) refl

pub passed : (e : End) (ws : List PipeWaiter) (i : ℕ) (d : PipeWaiter) → i < length ws → is_same e (get_or ws i d).at ≡ false → woken_at e (drop i ws) ≡ woken_at e (drop (i + 1) ws)
passed e ws i d below elsewhere = ap (woken_at e) (drop-cons ws i d below) ∙ rw (add-one, elsewhere) refl

pub listed-room : (e : End) (ws : List PipeWaiter) (i : ℕ) (d : PipeWaiter) (into before : List ℕ) → i < length ws → is_same e (get_or ws i d).at ≡ true → into ++ woken_at e (drop i ws) ≡ before ++ woken_at e ws → length before + length (woken_at e ws) ≤ 256 → length into < 256
listed-room e ws i d into before below here so room =
    let all : length (into ++ woken_at e (drop i ws)) ≡ length (before ++ woken_at e ws) = ap (λ (xs : List ℕ). length xs) so in
    let more : length (woken_at e (drop i ws)) ≡ length ((get_or ws i d).hart.0 ∷ woken_at e (drop (i + 1) ws)) = ap (λ (xs : List ℕ). length xs) (listed e ws i d below here) in
    omega (arith, simp length-append at all)

-- those at one end of a pipe aren't at the other
nothing : (a : Bool) → (a && false) ≡ true → ⊥
nothing true e = let no : false ≡ true = e in cc
nothing false e = let no : false ≡ true = e in cc

kinds : (a b : Bool) (k : PipeEnd) → (a && is_kind Writing k) ≡ true → (b && is_kind Reading k) ≡ false
kinds a true Reading e = absurd (nothing a e)
kinds a true Writing e = refl
kinds a false k e = refl

pub other_end : (pipe : ℕ) (ws : List PipeWaiter) → woken_at (end_of pipe Writing) (left_at (end_of pipe Reading) ws) ≡ woken_at (end_of pipe Writing) ws
other_end pipe [] = refl
other_end pipe (w ∷ ws) =
    ⊎_elim
    (λ (yes : is_same (end_of pipe Reading) w.at ≡ true).
    ⊎_elim
    (λ (both : is_same (end_of pipe Writing) w.at ≡ true).
    absurd (let no : is_same (end_of pipe Reading) w.at ≡ false = kinds (eqb pipe w.at.pipe) (eqb pipe w.at.pipe) w.at.kind both in let never : true ≡ false = sym yes ∙ no in cc))
    (λ (one : is_same (end_of pipe Writing) w.at ≡ false). rw (yes, one) (other_end pipe ws))
    (cases_Bool (is_same (end_of pipe Writing) w.at)))
    (λ (no : is_same (end_of pipe Reading) w.at ≡ false).
    ⊎_elim
    (λ (here : is_same (end_of pipe Writing) w.at ≡ true). rw (no, here) (ap (λ xs. w.hart.0 ∷ xs) (other_end pipe ws)))
    (λ (none : is_same (end_of pipe Writing) w.at ≡ false). rw (no, none) (other_end pipe ws))
    (cases_Bool (is_same (end_of pipe Writing) w.at)))
    (cases_Bool (is_same (end_of pipe Reading) w.at))
