use Rattle.std.proofs.Common.{◌∙◌, ◌≤◌, sym, arith, vec_len}
use Rattle.std.specs.List.{flat_map, range_with_len}
use Rattle.coz_types.specs.Ranges.{IsSummary}
use Rattle.claim_workers.specs.Worked.{EachClaim}
use Rattle.claim_workers.proofs.Ordered.{each_claim, each_summary, each_answered}
use Rattle.claim_workers.proofs.pool.run_claims.Goals as goal

pub returns : goal.returns
returns g c =
    let f = g.W.ClaimWork.summaries_of_claim c.args.work.now in
    let bound = g.W.ClaimWork.bound c.args.work.now in
    let Kept = IsSummary (g.W.ClaimWork.points c.args.work.now) in
    let did = c.in_ok-seat in
    let all = c.in_ok-claims.ensures.bound ∙ c.count-count.ensures in
    let some : 1 ≤ vec_len c.in_ok-answers.answers = omega (arith, c.in_ok-answers.ensures.len, c.in_ok-rest.ensures.jobs.0, c.requires.some_workers) in
    let each : EachClaim f bound did.field-0.done.items =
    rw (sym all) (each_claim f _ _ _ _ _ _ did.ensures.worked some c.finish.ensures.each) in
    let summaries = c.in_order.ensures f bound each in
    record {
      summaries = summaries;
      ranges = each_answered _ Kept (flat_map f (range_with_len 0 bound)) _ summaries (each_summary Kept f bound _ each did.ensures.ranges);
    }
