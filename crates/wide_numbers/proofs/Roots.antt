-- Roots: the root of a number is the one whose square is at most it, and whose successor's square is above.
use Rattle.std.proofs.Common.{◌≡◌, ℕ, zero, suc, ◌+◌, ◌*◌, ◌/◌, ◌^◌, ◌<◌, ◌≤◌, Bool, true, false, nat_le, refl, arith, rules, subst}
use Rattle.std.proofs.Math.Nat.{div-lt_iff_lt-mul, le-div_iff_mul-le}
use Rattle.std.proofs.lemmas.Nat.{mul-le, mul-lt}
use Rattle.wide_numbers.specs.Root.{root}

pub product_fits : (s d : ℕ) (c : ℕ) → c < 2 ^ 127 → d < 2 ^ 128 → s ≡ c * c → s * d < 2 ^ 384
product_fits s d c small few is = rw is (let a : c * c < 2 ^ 127 * 2 ^ 127 = mul-lt c c (2 ^ 127) (2 ^ 127) small small in let b : c * c * d < 2 ^ 127 * 2 ^ 127 * 2 ^ 128 = mul-lt (c * c) d (2 ^ 127 * 2 ^ 127) (2 ^ 128) a few in omega (arith, b))

-- the square of a root is at most the number, and the next square is above it
pub root_is : (n : ℕ) → (root n * root n ≤ n) × (n < (root n + 1) * (root n + 1))
unfolding root
root_is zero = (omega arith, omega arith)
root_is (suc n) = by (nat_le ((root n + 1) * (root n + 1)) (n + 1)) refl (root_is n)
  where
    by : (c : Bool) → nat_le ((root n + 1) * (root n + 1)) (n + 1) ≡ c → (root n * root n ≤ n) × (n < (root n + 1) * (root n + 1)) → (root (suc n) * root (suc n) ≤ suc n) × (suc n < (root (suc n) + 1) * (root (suc n) + 1))
    by true e is = rw e (search (rules, e), omega (arith, is.1))
    by false e is = rw e (omega (arith, is.0), search (rules, e))

-- a number whose square is at most n is at most one whose successor's square is above n
not_above : (n r q : ℕ) → r * r ≤ n → n < (q + 1) * (q + 1) → r ≤ q
not_above n r q in_ next = by (nat_le r q) refl
  where
    by : (c : Bool) → nat_le r q ≡ c → r ≤ q
    by true e = search (rules, e)
    by false e =
        let above : q < r = search (rules, e) in
        let squares : (q + 1) * (q + 1) ≤ r * r = mul-le (q + 1) (q + 1) r r (omega (arith, above)) (omega (arith, above)) in
        omega (arith, squares, in_, next)

-- there is no other such number
pub one_root : (n r q : ℕ) → r * r ≤ n → n < (r + 1) * (r + 1) → q * q ≤ n → n < (q + 1) * (q + 1) → r ≡ q
one_root n r q r_in r_next q_in q_next =
    let a : r ≤ q = not_above n r q r_in q_next in
    let b : q ≤ r = not_above n q r q_in r_next in
    omega (arith, a, b)

pub root_found : (r n m : ℕ) → 0 < m → r * r * m ≤ n → n < (r + 1) * (r + 1) * m → r ≡ root (n / m)
root_found r n m some in_ next =
    let is = root_is (n / m) in
    one_root (n / m) r (root (n / m)) ((le-div_iff_mul-le some).1 in_) ((div-lt_iff_lt-mul some).1 next) is.0 is.1

pub next_is : (n m r high : ℕ) → high ≡ r + 1 → n < high * high * m → n < (r + 1) * (r + 1) * m
next_is n m r high is next = let P : ℕ → Type 0 = λ h. n < h * h * m in subst P is next
