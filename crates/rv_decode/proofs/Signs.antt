-- Signed numbers and the bits by which they are written.
use Rattle.std.proofs.Common.{◌≡◌, ℕ, suc, ◌-◌, ◌*◌, ◌%◌, ◌^◌, ◌<◌, ℤ, pos, negsuc, sym, subst, arith}
use Rattle.std.proofs.lemmas.Nat.{pow_pos, mod_below}
use Rattle.std.proofs.Math.Nat.{mod-eq_of_lt, mod-mod_of_dvd, dvd-mul_right}
use Rattle.std.specs.Prelude.{IsTrue}
use Rattle.rv_decode.specs.Fields.{twos_complement, signed_bits, is_signed, is_even}

-- by k bits, of which the highest tells the sign
module _ (k : ℕ) (halves : 2 ^ k ≡ 2 * 2 ^ (k - 1)) where
  pub twos_below : (z : ℤ) → twos_complement k z < 2 ^ k
  twos_below (pos n) = let some : 0 < 2 ^ k = pow_pos k in mod_below n (2 ^ k) some
  twos_below (negsuc n) = let some : 0 < 2 ^ k = pow_pos k in omega (arith, some)

  pub signed_twos : (z : ℤ) → IsTrue (is_signed k z) → signed_bits k (twos_complement k z) ≡ z
  signed_twos (pos n) h = let same : n % 2 ^ k ≡ n = mod-eq_of_lt (grind (arith, halves)) in grind (arith, same)
  signed_twos (negsuc n) h = let same : n % 2 ^ k ≡ n = mod-eq_of_lt (grind (arith, halves)) in grind (arith, same, halves)

  pub twos_signed : (n : ℕ) → n < 2 ^ k → twos_complement k (signed_bits k n) ≡ n
  twos_signed n h = let same : n % 2 ^ k ≡ n = mod-eq_of_lt h in let other : (2 ^ k - suc n) % 2 ^ k ≡ 2 ^ k - suc n = mod-eq_of_lt (omega (arith, h)) in grind (arith, same, other, halves)

  pub is_signed_signed : (n : ℕ) → n < 2 ^ k → IsTrue (is_signed k (signed_bits k n))
  is_signed_signed n h = grind (arith, halves)

  pub is_even_signed : (n : ℕ) → n < 2 ^ k → n % 2 ≡ 0 → IsTrue (is_even (signed_bits k n))
  is_even_signed n h e = grind (arith, halves)

  parity : (n : ℕ) → n % 2 ^ k % 2 ≡ n % 2
  parity n = subst (λ (whole : ℕ). n % whole % 2 ≡ n % 2) (sym halves) (mod-mod_of_dvd 2 n (dvd-mul_right 2 (2 ^ (k - 1))))

  pub even_twos : (z : ℤ) → IsTrue (is_even z) → twos_complement k z % 2 ≡ 0
  even_twos (pos n) e = grind (arith, parity n)
  even_twos (negsuc n) e = let below : n % 2 ^ k < 2 ^ k = mod_below n (2 ^ k) (pow_pos k) in grind (arith, parity n, halves, below)
