-- The sleepers of a guest are the harts below 256 that sleep.
use Rattle.std.proofs.Common.{◌≡◌, ℕ, zero, suc, ◌+◌, ◌≤◌, Bool, false, if◌then◌else◌, List, [], ◌∷◌, length, get_or, refl, sym, ap, ◌∙◌, arith}
use Rattle.guest_calls.specs.declared.hart.Hart.{Hart}
use Rattle.guest_calls.specs.Guest.{no_hart, is_sleeping_status, sleepers_of}
use Rattle.timing_laws.specs.Cores.{count_below}

abbrev bit : Bool → ℕ
bit b = if b then 1 else 0

-- the first one apart
shifted : (n : ℕ) (p : ℕ → Bool) → count_below (suc n) p ≡ count_below n (λ k. p (suc k)) + bit (p 0)
shifted zero p = refl
shifted (suc n) p =
    let less : count_below (suc n) p ≡ count_below n (λ k. p (suc k)) + bit (p 0) = shifted n p in
    let last : count_below (suc (suc n)) p ≡ count_below (suc n) p + bit (p (suc n)) = refl in
    let there : count_below (suc n) (λ k. p (suc k)) ≡ count_below n (λ k. p (suc k)) + bit (p (suc n)) = refl in
    omega arith

none_below : (n : ℕ) → count_below n (λ k. false) ≡ 0
none_below zero = refl
none_below (suc n) = let less : count_below n (λ k. false) ≡ 0 = none_below n in omega arith

pub sleepers_below : (harts : List Hart) (n : ℕ) → length harts ≤ n → sleepers_of harts ≡ count_below n (λ k. is_sleeping_status (get_or harts k no_hart).status)
sleepers_below [] n few = sym (none_below n)
sleepers_below (hart ∷ harts) zero few = absurd (omega arith)
sleepers_below (hart ∷ harts) (suc n) few =
    let rest : sleepers_of harts ≡ count_below n (λ k. is_sleeping_status (get_or harts k no_hart).status) = sleepers_below harts n (omega arith) in
    ap (λ (sum : ℕ). sum + bit (is_sleeping_status hart.status)) rest ∙ sym (shifted n (λ k. is_sleeping_status (get_or (hart ∷ harts) k no_hart).status))
