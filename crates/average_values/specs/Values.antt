-- Values of runs against a common base, their mean, and its standard error. Values are in
-- hundredths of a per cent.
use Rattle.std.specs.Prelude.{ℕ, ◌+◌, ◌-◌, ◌*◌, ◌/◌, ◌<◌, ◌≤◌, Bool, ◌||◌, ◌&&◌, ◌==◌, nat_lt, List, length, Option, Some, None, ℤ, pos, ◌+ℤ◌, ◌-ℤ◌, ◌*ℤ◌, if◌then◌else◌, fold}
use Rattle.std.specs.List.{sum_by}
use Rattle.std.specs.Int.{int_div_euclid}
use Rattle.std.specs.Int.RustNames.{unsigned_abs}
use Rattle.coz_types.specs.declared.TheConstants.{MAX_NUMBER, MAX_COUNT}
use Rattle.wide_numbers.specs.Root.{root}
use Rattle.average_values.specs.declared.pace.Pace.{Pace}

-- ---- a run

-- (whole - part) / whole in ten thousandths, rounded down
abbrev pub share : ℕ → ℕ → ℤ
share whole part = int_div_euclid ((pos whole -ℤ pos part) *ℤ pos 10000) (pos whole)

-- how much less net time a visit of the run takes than one of the base
abbrev pub value : Pace → Pace → Option ℤ
value base run =
    if base.visits == 0 || (run.visits == 0 || base.net == 0) then None
    else Some (share (base.net * run.visits) (run.net * base.visits))

-- ---- a mean

abbrev pub total : List ℤ → ℤ
total values = fold ◌+ℤ◌ (pos 0) values

-- the mean, rounded down
abbrev pub mean : List ℤ → ℤ
mean values = int_div_euclid (total values) (pos (length values))

-- ---- its error

-- the distance of a value from the mean of `count` values of this sum, times their number
abbrev pub deviation : ℕ → ℤ → ℤ → ℕ
deviation count sum value = unsigned_abs (pos count *ℤ value -ℤ sum)

-- the sum of the squares of the deviations
abbrev pub spread : List ℤ → ℕ
spread values =
    sum_by (λ v. deviation (length values) (total values) v * deviation (length values) (total values) v) values

-- The variance of the mean of values, each a sum of `parts` parts, is their spread over this: the
-- square of the parts and of their number, for the deviations, then one less than the number, for
-- the variance, and the number again, for that of the mean.
abbrev pub scale : ℕ → ℕ → ℕ
scale parts count = parts * parts * (count * count * count) * (count - 1)

-- the variance of a mean: squares over scale
pub record Spread : Type 0 where
  pub squares : ℕ
  pub scale : ℕ

-- of the mean of values, each a sum of `parts` parts; absent for fewer than two values
abbrev pub variance : ℕ → List ℤ → Option Spread
variance parts values =
    if nat_lt (length values) 2 then None
    else Some (record { squares = spread values; scale = scale parts (length values) })

-- the root of the sum of two variances, rounded down
abbrev pub error_from : Spread → Spread → ℕ
error_from a b = root ((a.squares * b.scale + b.squares * a.scale) / (a.scale * b.scale))

-- ---- a line

-- the mean delay of the runs at a speedup, over the speedup, as a part of the mean net time of the
-- runs of a base
abbrev pub cost : Pace → ℕ → ℕ → ℕ → ℕ → Option ℕ
cost base bases delay runs speedup =
    if base.net == 0 then None
    else Some (delay * 1000000 * bases / (base.net * (runs * speedup)))

-- by more than 200, and by more than three errors
abbrev pub differ : ℤ → ℤ → Option ℕ → Bool
differ exact value None = nat_lt 200 (unsigned_abs (exact -ℤ value))
differ exact value (Some e) =
    nat_lt 200 (unsigned_abs (exact -ℤ value)) && nat_lt (3 * e) (unsigned_abs (exact -ℤ value))

-- ---- ranges

abbrev pub most_runs : ℕ
most_runs = 1000

-- more than the speedups of a line
abbrev pub most_parts : ℕ
most_parts = 100

-- 10^29: a net time by a number of visits, one of them summed over the runs of a base
abbrev pub most_product : ℕ
most_product = 100000000000000000000000000000

-- 10^33
abbrev pub most_value : ℕ
most_value = 1000000000000000000000000000000000

-- 10^35
abbrev pub most_sum : ℕ
most_sum = most_parts * most_value

abbrev pub most_deviation : ℕ → ℕ
most_deviation count = 2 * (count * most_sum)

-- of one run
pub record IsPace (p : Pace) : Type 0 where
  pub net : p.net ≤ MAX_NUMBER
  pub visits : p.visits ≤ MAX_COUNT

-- of a sum of runs
pub record IsBase (p : Pace) : Type 0 where
  pub net : p.net ≤ most_runs * MAX_NUMBER
  pub visits : p.visits ≤ most_runs * MAX_COUNT

-- a value, or a mean of values
pub record IsValue (v : ℤ) : Type 0 where
  pub small : unsigned_abs v ≤ most_value

-- a value, or a sum of values over the speedups of a line
pub record IsSum (v : ℤ) : Type 0 where
  pub small : unsigned_abs v ≤ most_sum

-- small enough for the root of a sum of two
pub record IsBounded (v : Spread) : Type 0 where
  pub some : 0 < v.scale
  pub scale : v.scale ≤ most_parts * most_parts * (most_runs * most_runs * most_runs) * most_runs
  pub squares : v.squares ≤ 4 * (most_sum * most_sum) * v.scale
