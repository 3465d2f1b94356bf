-- How large sums, deviations and variances are.
use Rattle.std.proofs.Common.{◌≡◌, ℕ, ◌+◌, ◌-◌, ◌*◌, ◌^◌, ◌<◌, ◌≤◌, ℤ, pos, ◌-ℤ◌, ◌*ℤ◌, arith}
use Rattle.std.proofs.Common.{List, length, take, get_or, ap, ◌∙◌}
use Rattle.std.specs.List.{sum_by}
use Rattle.std.proofs.lemmas.List.{take_all}
use Rattle.std.proofs.lemmas.List.Sums.{sum_by_more}
use Rattle.std.proofs.lemmas.Int.{ints, unsigned_abs-mul}
use Rattle.std.proofs.lemmas.Nat.{mul-le}
use Rattle.std.proofs.Math.Nat.{mul-le-mul_left, one-le-mul}
use Rattle.std.specs.Int.RustNames.{unsigned_abs}
use Rattle.average_values.specs.Values.{deviation, spread, total, scale, most_sum, most_runs, most_parts, most_deviation}

abs_sub : (a b : ℤ) (m n : ℕ) → unsigned_abs a ≤ m → unsigned_abs b ≤ n → unsigned_abs (a -ℤ b) ≤ m + n
abs_sub a b m n p q = omega (arith, ints, p, q)

pub deviation_small : (count : ℕ) (sum value : ℤ) (r : ℕ) → unsigned_abs sum ≤ count * most_sum → unsigned_abs value ≤ most_sum → r ≡ deviation count sum value → r ≤ most_deviation count
deviation_small count sum value r p q is =
    let product : unsigned_abs (pos count *ℤ value) ≤ count * most_sum = rw (unsigned_abs-mul (pos count) value) (mul-le-mul_left count q) in
    let far : deviation count sum value ≤ count * most_sum + count * most_sum = abs_sub (pos count *ℤ value) sum _ _ product p in
    omega (arith, far, is)

pub scale_fits : (p k : ℕ) → p ≤ most_parts → k ≤ most_runs → scale p k ≤ most_parts * most_parts * (most_runs * most_runs * most_runs) * most_runs
scale_fits p k few small =
    let a : p * p ≤ most_parts * most_parts = mul-le p p _ _ few few in
    let b : k * k ≤ most_runs * most_runs = mul-le k k _ _ small small in
    let c : k * k * k ≤ most_runs * most_runs * most_runs = mul-le (k * k) k _ _ b small in
    let d : p * p * (k * k * k) ≤ most_parts * most_parts * (most_runs * most_runs * most_runs) = mul-le (p * p) (k * k * k) _ _ a c in
    let e : k - 1 ≤ most_runs = omega (arith, small) in
    mul-le (p * p * (k * k * k)) (k - 1) _ _ d e

grow : (t a j : ℕ) → 1 ≤ a → 1 ≤ j → t ≤ a * t * j
grow t a j p q =
    let one : 1 ≤ a * j = one-le-mul p q in
    let more : t * 1 ≤ t * (a * j) = mul-le-mul_left t one in
    omega (arith, more)

pub scale_some : (p k : ℕ) → 0 < p → 2 ≤ k → k * k * k ≤ scale p k
scale_some p k some two = grow (k * k * k) (p * p) (k - 1) (one-le-mul some some) (omega (arith, two))

pub some_scale : (p k : ℕ) → 0 < p → 2 ≤ k → 0 < scale p k
some_scale p k some two =
    let one : 1 ≤ k = omega (arith, two) in
    let cube : 1 ≤ k * k * k = one-le-mul (one-le-mul one one) one in
    omega (arith, cube, scale_some p k some two)

pub squares_small : (p k n : ℕ) → 0 < p → 2 ≤ k → n ≤ k * (most_deviation k * most_deviation k) → n ≤ 4 * (most_sum * most_sum) * scale p k
squares_small p k n some two small =
    let cubes : k * (most_deviation k * most_deviation k) ≡ 4 * (most_sum * most_sum) * (k * k * k) = omega arith in
    let more : 4 * (most_sum * most_sum) * (k * k * k) ≤ 4 * (most_sum * most_sum) * scale p k = mul-le-mul_left (4 * (most_sum * most_sum)) (scale_some p k some two) in
    omega (arith, small, cubes, more)

-- the sum of two variances is far below the square of the greatest root
pub sum_small : (a b s t n : ℕ) → 0 < s → 0 < t → a ≤ 4 * (most_sum * most_sum) * s → b ≤ 4 * (most_sum * most_sum) * t → n ≡ a * t + b * s → n < 2 ^ 252 * (s * t)
sum_small a b s t n some_s some_t small_a small_b is =
    let one : 1 ≤ s * t = one-le-mul some_s some_t in
    let mine : a * t ≤ 4 * (most_sum * most_sum) * s * t = mul-le a t (4 * (most_sum * most_sum) * s) t small_a (omega arith) in
    let others : b * s ≤ 4 * (most_sum * most_sum) * t * s = mul-le b s (4 * (most_sum * most_sum) * t) s small_b (omega arith) in
    omega (arith, one, mine, others, is)

pub squares_fit : (d s i n : ℕ) → i < most_runs → d ≤ most_deviation most_runs → s ≤ i * (d * d) → n ≤ d → s + n * n < 2 ^ 384
squares_fit d s i n few small so_far within =
    let far : n * n ≤ d * d = mul-le n n d d within within in
    let most : d * d ≤ most_deviation most_runs * most_deviation most_runs = mul-le d d _ _ small small in
    let all : i * (d * d) ≤ most_runs * (most_deviation most_runs * most_deviation most_runs) = mul-le i (d * d) most_runs (most_deviation most_runs * most_deviation most_runs) (omega (arith, few)) most in
    omega (arith, so_far, far, most, all)

pub squares_more : (d s i n new : ℕ) → s ≤ i * (d * d) → n ≤ d → new ≡ s + n * n → new ≤ (i + 1) * (d * d)
squares_more d s i n new so_far within is =
    let far : n * n ≤ d * d = mul-le n n d d within within in
    omega (arith, so_far, far, is)

abbrev pub square_of : ℕ → ℤ → ℤ → ℕ
square_of count sum v = deviation count sum v * deviation count sum v

pub spread_more : (count : ℕ) (sum : ℤ) (xs : List ℤ) (i : ℕ) (d : ℤ) (far old square new : ℕ) → i < length xs → old ≡ sum_by (square_of count sum) (take i xs) → far ≡ deviation count sum (get_or xs i d) → square ≡ far * far → new ≡ old + square → new ≡ sum_by (square_of count sum) (take (i + 1) xs)
spread_more count sum xs i d far old square new lt so_far far_is square_is new_is =
    let step = sum_by_more (square_of count sum) xs i d lt in
    let same : far * far ≡ square_of count sum (get_or xs i d) = ap (λ (n : ℕ). n * n) far_is in
    omega (arith, step, same, so_far, square_is, new_is)

pub spread_whole : (xs : List ℤ) (i n count : ℕ) (sum : ℤ) → length xs ≤ i → count ≡ length xs → sum ≡ total xs → n ≡ sum_by (square_of count sum) (take i xs) → n ≡ spread xs
spread_whole xs i n count sum le count_is sum_is is =
    is ∙ ap (sum_by (square_of count sum)) (take_all i xs le)
    ∙ ap (λ (k : ℕ). sum_by (square_of k sum) xs) count_is
    ∙ ap (λ (t : ℤ). sum_by (square_of (length xs) t) xs) sum_is

pub deviation_most : (k : ℕ) → k ≤ most_runs → most_deviation k ≤ most_deviation most_runs
deviation_most k few = omega (arith, few)
