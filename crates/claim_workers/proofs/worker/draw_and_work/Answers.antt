use Rattle.std.specs.List.{All}
use Rattle.std.proofs.lemmas.List.Elements.{All-push, All-same}
use Rattle.coz_types.specs.Ranges.{IsSummary}
use Rattle.experiment_claims.specs.Seats.{hand_of}
use Rattle.claim_workers.specs.declared.claimed.Claimed.{Claimed}
use Rattle.claim_workers.proofs.Joined.{worked_drawn, worked_stopped}
use Rattle.claim_workers.proofs.worker.draw_and_work.Goals as goal

pub loop-claim-preserved : goal.loop-claim-preserved
loop-claim-preserved g c =
    let before = c.loop-claim.invariant in
    let worked = worked_drawn before.1 (hand_of c.draw.new.seat) c.in-Some.claim c.in_ok-summaries.summaries c.push.new.self.items c.in-Some.ensures.draws c.in_ok-summaries.ensures.summaries c.in_ok-push.ensures.items in
    let R : Claimed → Type 0 = λ claimed. All (IsSummary (g.W.ClaimWork.points c.args.work.now)) claimed.summaries in (
      c.in-Some.ensures.seat,
      worked.0,
      worked.1,
      All-same R _ _ c.in_ok-push.ensures.items (All-push R _ _ before.3 c.in_ok-summaries.ensures.ranges),
      c.summaries.ensures.runner,
    )

pub returns : goal.returns
returns g c =
    let before = c.loop-claim.invariant in
    (c.draw.ensures.seat, worked_stopped before.1 (hand_of c.draw.new.seat) c.in_default.ensures.draws, before.3)
