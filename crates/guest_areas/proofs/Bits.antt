-- The bits of a protection.
use Rattle.std.proofs.Common.{ℕ, zero, suc, ◌≡◌, ◌*◌, ◌/◌, ◌%◌, ◌<◌, not, eqb, arith, refl, sym, ap, ◌∙◌, subst, ⊎_elim, ◌⊎◌, inl, inr}
use lib.Bits.{bit_and}
use Rattle.std.proofs.lemmas.Bool.{eq-eqb, ne_eqb}
use Rattle.std.proofs.lemmas.Nat.Bits.{and_high}
use Rattle.guest_areas.specs.Space.{has_power}

two : (b : ℕ) → b < 2 → (b ≡ 0) ⊎ (b ≡ 1)
two zero h = inl refl
two (suc zero) h = inr refl
two (suc (suc b)) h = absurd (omega arith)

one_bit : (b p : ℕ) → b < 2 → 0 < p → not (eqb (b * p) 0) ≡ eqb b 1
one_bit b p h some =
    ⊎_elim
    (λ (e : b ≡ 0).
    subst (λ (x : ℕ). not (eqb (x * p) 0) ≡ eqb x 1) (sym e) (ap not (eq-eqb (0 * p) 0 (omega arith))))
    (λ (e : b ≡ 1).
    subst (λ (x : ℕ). not (eqb (x * p) 0) ≡ eqb x 1) (sym e) (ap not (ne_eqb (1 * p) 0 (λ z. omega arith))))
    (two b h)

pub has-read : (n : ℕ) → not (eqb (bit_and n 1) 0) ≡ has_power n 1
has-read n = ap (λ (x : ℕ). not (eqb x 0)) (and_high n 1 0) ∙ one_bit (n / 1 % 2) 1 (omega arith) (omega arith)

pub has-write : (n : ℕ) → not (eqb (bit_and n 2) 0) ≡ has_power n 2
has-write n = ap (λ (x : ℕ). not (eqb x 0)) (and_high n 1 1) ∙ one_bit (n / 2 % 2) 2 (omega arith) (omega arith)

pub has-execute : (n : ℕ) → not (eqb (bit_and n 4) 0) ≡ has_power n 4
has-execute n = ap (λ (x : ℕ). not (eqb x 0)) (and_high n 1 2) ∙ one_bit (n / 4 % 2) 4 (omega arith) (omega arith)
