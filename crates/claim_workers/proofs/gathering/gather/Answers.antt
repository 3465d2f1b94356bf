use Rattle.std.proofs.Common.{arith, ℕ, ◌≡◌, ◌*◌, ◌+◌, length, ◌∷◌, [], ◌++◌, length-append, sym, ap, add-mul, IfOk, Result}
use Rattle.std.proofs.lemmas.List.Elements.{All-append, All-rest, All-head, All-same}
use Rattle.std.specs.List.{All}
use Rattle.std.specs.declared.alloc.AllocError.{AllocError}
use Rattle.coz_types.specs.Ranges.{IsSummary}
use Rattle.experiment_claims.specs.Seats.{bound_of}
use Rattle.claim_workers.specs.Jobs.{IsAnswer}
use Rattle.claim_workers.specs.declared.claimed.Claimed.{Claimed}
use Rattle.claim_workers.specs.declared.job.Answer.{Answer}
use Rattle.claim_workers.proofs.Joined.{worked_joined}
use Rattle.claim_workers.proofs.gathering.gather.Goals as goal

pub loop-answer-preserved : goal.loop-answer-preserved
loop-answer-preserved g c =
    let before = c.loop-answer.invariant in
    let steps = c.in-Some.ensures.steps.0 in
    let n : ℕ = length c.loop-answer.yielded in
    let more : length (c.loop-answer.yielded ++ c.in-Some.answer ∷ []) ≡ n + 1 = length-append c.loop-answer.yielded (c.in-Some.answer ∷ []) in
    let Did : Answer → Type 0 = IsAnswer (g.W.ClaimWork.summaries_of_claim c.args.work.now) (g.W.ClaimWork.points c.args.work.now) c.args.claims.now in
    let P : Result Answer AllocError → Type 0 = λ r. IfOk r Did in
    let old = c.loop-answer.answer-iterator.rest.items in
    let new = c.next.new.self.rest.items in
    let head : P c.in-Some.answer = All-head P c.in-Some.answer new (All-same P (c.in-Some.answer ∷ new) old (sym steps) before.2) in
    let b : ℕ = bound_of c.args.claims.now + 1 in
    let is : Did c.in_ok-other.field-0 = rw c.in_ok-other.was at head in
    let R : Claimed → Type 0 = λ claimed. All (IsSummary (g.W.ClaimWork.points c.args.work.now)) claimed.summaries in (
      tt,
      tt,
      All-rest P c.in-Some.answer new old steps before.2,
      (let had = before.3 in omega (arith, more, ap length steps)),
      c.join-seat.ensures.seat,
      worked_joined before.5 is.1 _ _ _ _ c.join-seat.ensures.turns c.join-seat.ensures.numbers c.in_ok-append.ensures.items (omega (arith, add-mul n 1 b, ap (λ m. m * b) more)) more,
      All-same R _ _ c.in_ok-append.ensures.items (All-append R _ _ before.6 is.2),
    )
