-- What a pass over the waiters leaves, and that these are the waiters that aren't woken.
use Rattle.std.proofs.Common.{ℕ, zero, suc, ◌≡◌, ◌≢◌, ◌⊎◌, true, false, ◌==◌, if◌then◌else◌, eqb, List, [], ◌∷◌, inr, ⊎_elim, refl, sym, ◌∙◌, ap, arith}
use Rattle.std.specs.List.{list_any}
use Rattle.std.proofs.lemmas.Bool.{eq-eqb, eqb-true, eqb-false, ne_eqb, cases_Bool}
use Rattle.guest_futex.specs.Waiters.{Waiter, woken_harts, waiters_left, without_harts}
use Rattle.guest_futex.specs.Apart.{AreOthers, AreApart}

-- what a pass leaves that counts down the waiters which it wakes
abbrev pub left_by : ℕ → List Waiter → ℕ → List Waiter
left_by address [] count = []
left_by address (w ∷ ws) zero = w ∷ ws
left_by address (w ∷ ws) (suc count) = if w.address == address then left_by address ws count else w ∷ left_by address ws (suc count)

pub woken-here : (address : ℕ) (w : Waiter) (ws : List Waiter) (n m : ℕ) → n ≡ suc m → w.address ≡ address → woken_harts address (w ∷ ws) n ≡ w.hart ∷ woken_harts address ws m
woken-here address w ws n m is here = rw (is, eq-eqb w.address address here) refl

pub left-here : (address : ℕ) (w : Waiter) (ws : List Waiter) (n m : ℕ) → n ≡ suc m → w.address ≡ address → left_by address (w ∷ ws) n ≡ left_by address ws m
left-here address w ws n m is here = rw (is, eq-eqb w.address address here) refl

left-zero : (address : ℕ) (ws : List Waiter) → left_by address ws 0 ≡ ws
left-zero address [] = refl
left-zero address (w ∷ ws) = refl

away : (n : ℕ) (A : Type 0) → (suc n ≡ 0) ⊎ A → A
away n A = ⊎_elim (λ (none : suc n ≡ 0). absurd (omega arith)) (λ (a : A). a)

pub woken-elsewhere : (address : ℕ) (w : Waiter) (ws : List Waiter) (n : ℕ) → (n ≡ 0) ⊎ (w.address ≢ address) → woken_harts address (w ∷ ws) n ≡ woken_harts address ws n
woken-elsewhere address w ws zero h = refl
woken-elsewhere address w ws (suc n) h = rw (ne_eqb w.address address (away n (w.address ≢ address) h)) refl

pub left-elsewhere : (address : ℕ) (w : Waiter) (ws : List Waiter) (n : ℕ) → (n ≡ 0) ⊎ (w.address ≢ address) → left_by address (w ∷ ws) n ≡ w ∷ left_by address ws n
left-elsewhere address w ws zero h = ap (λ xs. w ∷ xs) (sym (left-zero address ws))
left-elsewhere address w ws (suc n) h = rw (ne_eqb w.address address (away n (w.address ≢ address) h)) refl

-- a hart that none of them is isn't woken
other-woken : (hart address : ℕ) (ws : List Waiter) (count : ℕ) → AreOthers hart ws → list_any (λ woken_harts. woken_harts == hart) (woken_harts address ws count) ≡ false
other-woken hart address [] zero others = refl
other-woken hart address [] (suc count) others = refl
other-woken hart address (w ∷ ws) zero others = refl
other-woken hart address (w ∷ ws) (suc count) others =
    ⊎_elim
    (λ (here : eqb w.address address ≡ true). rw (here, ne_eqb w.hart hart others.0) (other-woken hart address ws count others.1))
    (λ (elsewhere : eqb w.address address ≡ false). rw elsewhere (other-woken hart address ws (suc count) others.1))
    (cases_Bool (eqb w.address address))

without_none : (ws : List Waiter) → without_harts [] ws ≡ ws
without_none [] = refl
without_none (w ∷ ws) = ap (λ xs. w ∷ xs) (without_none ws)

without_own : (w : Waiter) (harts : List ℕ) (ws : List Waiter) → without_harts (w.hart ∷ harts) (w ∷ ws) ≡ without_harts (w.hart ∷ harts) ws
without_own w harts ws = rw (eq-eqb w.hart w.hart refl) refl

without_kept : (w : Waiter) (harts : List ℕ) (ws : List Waiter) → list_any (λ hart. hart == w.hart) harts ≡ false → without_harts harts (w ∷ ws) ≡ w ∷ without_harts harts ws
without_kept w harts ws other = rw other refl

-- a hart that none of them is makes no difference
without_other : (hart : ℕ) (harts : List ℕ) (ws : List Waiter) → AreOthers hart ws → without_harts (hart ∷ harts) ws ≡ without_harts harts ws
without_other hart harts [] others = refl
without_other hart harts (w ∷ ws) others =
    rw (ne_eqb hart w.hart (λ (is : hart ≡ w.hart). others.0 (sym is)))
    (⊎_elim
    (λ (yes : list_any (λ k. k == w.hart) harts ≡ true). rw yes (without_other hart harts ws others.1))
    (λ (no : list_any (λ k. k == w.hart) harts ≡ false). rw no (ap (λ xs. w ∷ xs) (without_other hart harts ws others.1)))
    (cases_Bool (list_any (λ k. k == w.hart) harts)))

-- if no hart waits twice, what a pass leaves are the waiters that aren't woken
pub left_by-left : (address : ℕ) (ws : List Waiter) (count : ℕ) → AreApart ws → left_by address ws count ≡ waiters_left address ws count
left_by-left address [] count apart = refl
left_by-left address (w ∷ ws) zero apart = sym (without_none (w ∷ ws))
left_by-left address (w ∷ ws) (suc count) apart =
    ⊎_elim
    (λ (here : eqb w.address address ≡ true).
    let is : w.address ≡ address = eqb-true w.address address here in
    left-here address w ws (suc count) count refl is
    ∙ left_by-left address ws count apart.2
    ∙ sym (ap (λ harts. without_harts harts (w ∷ ws)) (woken-here address w ws (suc count) count refl is)
    ∙ without_own w (woken_harts address ws count) ws
    ∙ without_other w.hart (woken_harts address ws count) ws apart.1))
    (λ (elsewhere : eqb w.address address ≡ false).
    let isnt : (suc count ≡ 0) ⊎ (w.address ≢ address) = inr (eqb-false w.address address elsewhere) in
    left-elsewhere address w ws (suc count) isnt
    ∙ ap (λ xs. w ∷ xs) (left_by-left address ws (suc count) apart.2)
    ∙ sym (ap (λ harts. without_harts harts (w ∷ ws)) (woken-elsewhere address w ws (suc count) isnt)
    ∙ without_kept w (woken_harts address ws (suc count)) ws (other-woken w.hart address ws (suc count) apart.1)))
    (cases_Bool (eqb w.address address))
