-- What a worker is given and what it answers. By what it works doesn't matter here.
use Rattle.std.specs.Prelude.{◌≡◌, ◌+◌, ℕ, List, []}
use Rattle.coz_types.specs.declared.record.Summary.{Summary}
use Rattle.experiment_claims.specs.declared.seats.Claims.{Claims}
use Rattle.experiment_claims.specs.declared.seats.ClaimSeat.{ClaimSeat}
use Rattle.experiment_claims.specs.Drawn.{hand}
use Rattle.experiment_claims.specs.Seats.{hand_of, IsSeatOf, bound_of}
use Rattle.claim_workers.specs.declared.claimed.Claimed.{Claimed}
use Rattle.claim_workers.specs.declared.job.Job.{Job}
use Rattle.claim_workers.specs.declared.job.Answer.{Answer}
use Rattle.claim_workers.specs.Worked.{Worked, AreSummaries}

-- a seat that drew nothing, with one turn more than there are claims, and what the work
-- can be done by
abbrev pub IsJob : {Runner : Type 0} → (Runner → Type 0) → Claims → Job Runner → Type 0
IsJob IsFor c j =
    IsSeatOf c j.seat × (hand_of j.seat ≡ hand (bound_of c + 1) []) × IsFor j.runner

-- a seat at its end, if one draw met the bound, and what was done by it
abbrev pub HaveWorked : (ℕ → List Summary) → ℕ → Claims → ClaimSeat → List Claimed → Type 0
HaveWorked f points c seat done =
    IsSeatOf c seat
    × Worked f (bound_of c) (bound_of c + 1) 1 (hand_of seat) done
    × AreSummaries points done

abbrev pub IsAnswer : (ℕ → List Summary) → ℕ → Claims → Answer → Type 0
IsAnswer f points c a = HaveWorked f points c a.seat a.done.items
