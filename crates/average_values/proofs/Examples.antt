-- Examples: three seeds worked by hand, and the largest numbers of profiles.
use Rattle.std.proofs.Common.{◌≡◌, ◌+◌, ◌*◌, ◌/◌, [], ◌∷◌, Some, None, true, false, pos, negsuc, refl, lit<, lit≤}
use Rattle.wide_numbers.specs.Root.{root}
use Rattle.wide_numbers.proofs.Roots.{one_root, root_is}
use Rattle.average_values.specs.Values.{value, mean, spread, scale, variance, cost, differ}

-- Three seeds take 8700, 9100 and 8800 ticks for two visits each at speedup 0, and 8650, 9050 and
-- 8750 at speedup 50. A visit of the base takes 26600 / 6 ticks.

-- 10000 * (1 - 4325 / (26600 / 6)) = 244.3..
first_value : value (record { net = 26600; visits = 6 }) (record { net = 8650; visits = 2 }) ≡ Some (pos 244)
first_value = refl

-- 10000 * (1 - 4525 / (26600 / 6)) = -206.7.., rounded down
second_value : value (record { net = 26600; visits = 6 }) (record { net = 9050; visits = 2 }) ≡ Some (negsuc 206)
second_value = refl

third_value : value (record { net = 26600; visits = 6 }) (record { net = 8750; visits = 2 }) ≡ Some (pos 131)
third_value = refl

-- (244 - 207 + 131) / 3
mean_of_three : mean (pos 244 ∷ negsuc 206 ∷ pos 131 ∷ []) ≡ pos 56
mean_of_three = refl

-- 564^2 + 789^2 + 225^2, each three times the value less 168
spread_of_three : spread (pos 244 ∷ negsuc 206 ∷ pos 131 ∷ []) ≡ 991242
spread_of_three = refl

-- of the values of the base, 187, -264 and 75
spread_of_base : spread (pos 187 ∷ negsuc 263 ∷ pos 75 ∷ []) ≡ 992598
spread_of_base = refl

-- 3^3 * 2
scale_of_three : scale 1 3 ≡ 54
scale_of_three = refl

-- the root of 991242 / 54 + 992598 / 54
error_of_three : root ((991242 * 54 + 992598 * 54) / (54 * 54)) ≡ 191
error_of_three = one_root 36737 (root 36737) 191 (root_is 36737).0 (root_is 36737).1 (lit≤ tt) (lit< tt)

-- no visits: of the run, and of the base; no net time of the base
absent_values : value (record { net = 26600; visits = 6 }) (record { net = 8650; visits = 0 }) ≡ None
absent_values = refl

absent_base : value (record { net = 26600; visits = 0 }) (record { net = 8650; visits = 2 }) ≡ None
absent_base = refl

no_net_time : value (record { net = 0; visits = 6 }) (record { net = 8650; visits = 2 }) ≡ None
no_net_time = refl

-- one value has no variance
of_one : variance 1 (pos 7 ∷ []) ≡ None
of_one = refl

-- 10^17 ticks for one visit, against a base of one tick for 10^12 visits: 10^4 - 10^33
least_value : value (record { net = 1; visits = 1000000000000 }) (record { net = 100000000000000000; visits = 1 }) ≡ Some (negsuc 999999999999999999999999999989999)
least_value = refl

-- two runs of delay 100 at speedup 50, against a base of three runs of 26600 ticks together
cost_of_two : cost (record { net = 26600; visits = 6 }) 3 200 2 50 ≡ Some 225
cost_of_two = refl

-- by 250, which is more than three errors of 80, and not of 90
differs_by_250 : differ (pos 300) (pos 50) (Some 80) ≡ true
differs_by_250 = refl

agrees_by_250 : differ (pos 300) (pos 50) (Some 90) ≡ false
agrees_by_250 = refl

agrees_by_200 : differ (pos 250) (pos 50) None ≡ false
agrees_by_200 = refl
