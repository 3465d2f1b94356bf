-- What workers have: their seats, and the summaries of each claim. What the work of a claim is
-- doesn't matter here: f is any.
use Rattle.std.specs.Prelude.{◌≡◌, ℕ, ◌+◌, nat_lt, nat_le, List, map, length, All}
use Rattle.std.specs.List.{filter, count_by}
use Rattle.coz_types.specs.declared.record.Summary.{Summary}
use Rattle.coz_types.specs.Ranges.{IsSummary}
use Rattle.experiment_claims.specs.declared.hand.Hand.{Hand}
use Rattle.experiment_claims.specs.Drawn.{times, once_below}
use Rattle.claim_workers.specs.declared.claimed.Claimed.{Claimed}

-- a claim with its summaries by f
abbrev pub claimed_by : (ℕ → List Summary) → ℕ → Claimed
claimed_by f claim = record { claim = claim; summaries = f claim }

-- the numbers that are claims
abbrev pub claims_in : ℕ → List ℕ → List ℕ
claims_in bound numbers = filter (λ n. nat_lt n bound) numbers

-- how many of the numbers are no claims
abbrev pub count_past : ℕ → List ℕ → ℕ
count_past bound numbers = count_by (λ n. nat_le bound n) numbers

-- Of some turns, spent or not: each claim that was drawn has its summaries, in the order
-- of drawing, and `stops` draws met the bound. It holds of a seat, and of seats that were joined.
pub record Worked (f : ℕ → List Summary) (bound turns stops : ℕ) (h : Hand)
    (done : List Claimed) : Type 0 where
  pub all : h.turns + length h.numbers ≡ turns
  pub each : done ≡ map (claimed_by f) (claims_in bound h.numbers)
  pub stopped : count_past bound h.numbers ≡ stops

-- each claim below n has its summaries, once
pub record EachClaim (f : ℕ → List Summary) (n : ℕ) (done : List Claimed) : Type 0 where
  pub claims : List ℕ
  pub each : done ≡ map (claimed_by f) claims
  pub once : (x : ℕ) → times x claims ≡ once_below x n

abbrev pub kept_summaries : Claimed → List Summary
kept_summaries c = c.summaries

abbrev pub claim_of : Claimed → ℕ
claim_of c = c.claim

-- the summaries are of runs with `points` progress points
abbrev pub AreSummaries : ℕ → List Claimed → Type 0
AreSummaries points done = All (λ (c : Claimed). All (IsSummary points) c.summaries) done
