-- A summary with a count of a point, within its ranges.
use Rattle.std.specs.Prelude.{◌≡◌, ℕ, ◌<◌, ◌≤◌, nat_le, true, length}
use Rattle.std.specs.List.{list_all}
use Rattle.coz_types.specs.declared.TheConstants.{MAX_NUMBER, MAX_COUNT}
use Rattle.coz_types.specs.declared.record.Summary.{Summary}

pub record IsMeasured (point : ℕ) (s : Summary) : Type 0 where
  pub time : s.outcome.time ≤ MAX_NUMBER
  pub delay : s.outcome.delay ≤ s.outcome.time
  pub counts : point < length s.counts
  pub deltas : list_all (λ n. nat_le n MAX_COUNT) s.counts ≡ true

-- 10^26: a time by a number of visits is at most that
abbrev pub most_product : ℕ
most_product = 100000000000000000000000000
