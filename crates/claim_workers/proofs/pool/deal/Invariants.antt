use Rattle.std.proofs.Common.{◌≡◌, ◌+◌, ◌*◌, ◌^◌, ◌≤◌, [], vec_len}
use Rattle.std.specs.List.{All}
use Rattle.experiment_claims.specs.Seats.{hand_of, IsSeatOf}
use Rattle.claim_workers.specs.Jobs.{IsJob}
use Rattle.claim_workers.proofs.pool.deal.Given as goal

abbrev pub invariant-loop-worker : goal.invariant-loop-worker
invariant-loop-worker g l =
    IsSeatOf l.claims l.seat
    × ((hand_of l.seat).numbers ≡ [])
    × ((hand_of l.seat).turns + l.worker * (l.bound + 1) ≡ 2 ^ 40)
    × (2 ^ 40 ≤ (hand_of l.seat).turns + l.worker * 2 ^ 32)
    × (vec_len l.jobs ≡ l.worker)
    × All (IsJob (g.W.ClaimWork.is_for l.work) l.claims) l.jobs.items
