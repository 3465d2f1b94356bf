use Rattle.std.proofs.Common.{◌+◌, ◌≤◌, length}
use Rattle.experiment_claims.specs.Seats.{hand_of, IsSeatOf, bound_of}
use Rattle.claim_workers.specs.Worked.{Worked, AreSummaries}
use Rattle.claim_workers.proofs.worker.draw_and_work.Given as goal

-- no draw has met the bound so far
abbrev pub invariant-loop-claim : goal.invariant-loop-claim
invariant-loop-claim g l =
    IsSeatOf l.claims l.seat
    × Worked (g.W.ClaimWork.summaries_of_claim l.work) (bound_of l.claims) (bound_of l.claims + 1) 0 (hand_of l.seat) l.done.items
    × (length (hand_of l.seat).numbers ≤ bound_of l.claims)
    × AreSummaries (g.W.ClaimWork.points l.work) l.done.items
    × g.W.ClaimWork.is_for l.work l.runner

abbrev pub decreases-loop-claim : goal.decreases-loop-claim
decreases-loop-claim g l = (hand_of l.seat).turns
