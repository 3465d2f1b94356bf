use Rattle.std.proofs.Common.{take, arith, rules, ◌≡◌, List, subst}
use Rattle.std.proofs.lemmas.List.{take_all}
use Rattle.run_summary.proofs.Counting.{AreCounts, counted, passed, counts_are, count_fits}
use Rattle.run_summary.proofs.counts.counts_of_visits.Goals as goal
use Rattle.run_summary.proofs.counts.counts_of_visits.Goals.{then-point-len, else-point-len}

pub overflow_add-index_mut : goal.overflow_add-index_mut
overflow_add-index_mut c =
    let loop = c.loop-visit in
    let few = count_fits c.args.points c.args.visits.now loop.counts.items loop.visit-index c.from-point.result c.index_mut.result.now loop.invariant (omega (arith, loop.invariant.size, loop.counts.ok.0)) c.index_mut.ensures.value in
    search (rules, few)

pub loop-visit-preserved : goal.loop-visit-preserved
loop-visit-preserved c =
    let loop = c.loop-visit in
    let point = c.from-point.result in
    elim c.if-point-len.branch [
      | then-point-len w ↦ rw w.counts-is (counted c.args.points c.args.visits.now loop.counts.items loop.visit-index point w.index_mut.result.now loop.invariant
          c.loop-visit-test.true c.from-point.ensures (omega (arith, loop.invariant.size, loop.counts.ok.0)) w.index_mut.ensures.value)
      | else-point-len w ↦ rw w.counts-is (passed c.args.points c.args.visits.now loop.counts.items loop.visit-index point loop.invariant
          c.loop-visit-test.true c.from-point.ensures (omega (arith, loop.invariant.size, loop.counts.ok.0)))
    ]

pub returns : goal.returns
returns c =
    let all : take c.loop-visit.visit-index c.args.visits.now ≡ c.args.visits.now = take_all _ _ (omega arith) in
    counts_are c.args.points c.args.visits.now c.loop-visit.counts.items (let P : List _ → Type 0 = λ some. AreCounts c.args.points some c.loop-visit.counts.items in subst P all c.loop-visit.invariant)
