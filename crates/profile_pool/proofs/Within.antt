-- A summary is within the ranges of a profile.
use Rattle.std.proofs.Common.{◌≡◌, ◌≤◌, ℕ, ◌^◌, true, List, length, arith}
use Rattle.std.proofs.lemmas.List.{length-map}
use Rattle.std.proofs.lemmas.List.FromFn.{length-map-range_with_len}
use Rattle.coz_types.specs.declared.record.Outcome.{Outcome}
use Rattle.coz_types.specs.Labels.{is_label}
use Rattle.coz_types.specs.Ranges.{is_ending, IsSummary}
use Rattle.machines.specs.Records.{Record, net, net_visit}
use Rattle.run_summary.proofs.Counting.{counts_within}
use Rattle.run_summary.proofs.Hashing.{sha256_is}
use Rattle.virtual_run.specs.DelayedRun.{IsSmall}
use Rattle.profile_pool.specs.Summaries.{outcome_in, summary_of}

-- the numbers of an outcome are those of a profile
pub record IsWithin (o : Outcome) : Type 0 where
  pub ending : is_ending o.ending ≡ true
  pub time : o.time ≤ 10 ^ 17
  pub delay : o.delay ≤ o.time
  pub retired : o.retired ≤ 10 ^ 17
  pub starts : o.starts ≤ 10 ^ 17

pub is_within : (o : Outcome) → is_ending o.ending ≡ true → IsSmall o → o.delay ≤ o.time → IsWithin o
is_within o ending small in_time = record {
  ending = ending;
  time = small.time;
  delay = in_time;
  retired = small.retired;
  starts = small.starts;
}

pub summary_is : (label : List ℕ) (speedup points : ℕ) (r : Record) → IsWithin (outcome_in r)
    → length r.output ≤ 67108864 → length r.visits ≤ 1048576 → is_label label ≡ true → speedup ≤ 95
    → IsSummary points (summary_of label speedup points r)
unfolding summary_of
summary_is label speedup points r outcome short few labelled slow = record {
  selected = labelled;
  speedup = slow;
  ending = outcome.ending;
  time = outcome.time;
  delay = outcome.delay;
  retired = outcome.retired;
  starts = outcome.starts;
  size = omega arith;
  output = sha256_is _;
  visits = sha256_is _;
  counts = length-map-range_with_len _ 0 points;
  deltas = counts_within points (net r).visits (omega (arith, length-map r.visits net_visit));
}
