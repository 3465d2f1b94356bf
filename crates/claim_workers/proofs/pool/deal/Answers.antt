use Rattle.std.proofs.Common.{arith, ℕ, ◌+◌, [], ◌∙◌, ap, add-mul}
use Rattle.std.proofs.lemmas.List.Elements.{All-push, All-same}
use Rattle.experiment_claims.specs.declared.hand.Hand.{Hand}
use Rattle.experiment_claims.specs.Drawn.{hand}
use Rattle.claim_workers.specs.Jobs.{IsJob}
use Rattle.claim_workers.proofs.pool.deal.Goals as goal

pub loop-worker-preserved : goal.loop-worker-preserved
loop-worker-preserved g c =
    let before = c.loop-worker.invariant in
    let split = c.split-rest.ensures in
    let left = ap (λ (h : Hand). h.turns) split.first in
    let more = add-mul c.loop-worker.worker 1 (c.args.bound + 1) in
    let turns = c.from-turns.ensures in
    let R = IsJob (g.W.ClaimWork.is_for c.args.work.now) c.args.claims.now in (
      split.seats.0,
      ap (λ (h : Hand). h.numbers) split.first ∙ before.1,
      omega (arith, left, more, turns, before.2, before.3, c.loop-worker-test.true, c.requires.workers),
      omega (arith, left, turns, before.3, c.ranges.bound.fits),
      c.in_ok-push.ensures.len ∙ ap (λ (n : ℕ). n + 1) before.4,
      All-same R c.push.new.self.items _ c.in_ok-push.ensures.items (All-push R c.loop-worker.jobs.items _ before.5 (
        split.seats.1,
        split.second ∙ ap (λ (n : ℕ). hand (n + 1) []) (turns ∙ c.requires.bound),
        c.in_ok-runner.ensures,
      )),
    )
