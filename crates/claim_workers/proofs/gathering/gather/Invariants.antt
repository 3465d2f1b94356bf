use Rattle.std.proofs.Common.{◌≡◌, ◌+◌, ◌*◌, IfOk, length, vec_len}
use Rattle.std.specs.List.{All}
use Rattle.experiment_claims.specs.Seats.{hand_of, IsSeatOf, bound_of}
use Rattle.claim_workers.specs.Worked.{Worked, AreSummaries}
use Rattle.claim_workers.specs.Jobs.{IsAnswer}
use Rattle.claim_workers.proofs.gathering.gather.Given as goal

-- the answers so far are joined
abbrev pub invariant-loop-answer : goal.invariant-loop-answer
invariant-loop-answer g l =
    (goal.iterator-loop-answer g).can_next l.answer-iterator
    × (goal.iterator-loop-answer g).is_finite l.answer-iterator
    × All (λ r. IfOk r (IsAnswer (g.W.ClaimWork.summaries_of_claim l.work) (g.W.ClaimWork.points l.work) l.claims)) l.answer-iterator.rest.items
    × (length l.yielded + length l.answer-iterator.rest.items ≡ vec_len l.fn.answers)
    × IsSeatOf l.claims l.seat
    × Worked (g.W.ClaimWork.summaries_of_claim l.work) (bound_of l.claims) ((hand_of l.fn.rest).turns + length l.yielded * (bound_of l.claims + 1)) (length l.yielded) (hand_of l.seat) l.done.items
    × AreSummaries (g.W.ClaimWork.points l.work) l.done.items
