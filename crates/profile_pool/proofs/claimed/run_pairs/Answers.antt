use Rattle.std.proofs.Common.{length}
use Rattle.std.proofs.lemmas.List.Elements.{All-push, All-same}
use Rattle.coz_types.specs.Ranges.{IsSummary}
use Rattle.coz_types.specs.declared.record.Summary.{Summary}
use Rattle.profile_pool.specs.Work.{summary_of_pair}
use Rattle.profile_pool.proofs.Lines.{pair_next}
use Rattle.profile_pool.proofs.claimed.run_pairs.Goals as goal

pub loop-pair-preserved : goal.loop-pair-preserved
loop-pair-preserved c =
    let before = c.loop-pair.invariant in
    let R : Summary → Type 0 = IsSummary (length c.args.work.now.subject.points.now.lines) in (
      pair_next (summary_of_pair c.args.work.now) c.args.pairs.now c.loop-pair.pair-index _ _ _ _ c.loop-pair-test.true before.0 c.in_ok-push.ensures.items c.in_ok-summary.ensures.summary,
      All-same R _ _ c.in_ok-push.ensures.items (All-push R _ _ before.1 c.in_ok-summary.ensures.ranges),
      c.make_pair.ensures.machine,
    )
