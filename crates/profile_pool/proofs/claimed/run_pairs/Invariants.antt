use Rattle.std.proofs.Common.{◌≡◌, map, take, length}
use Rattle.std.specs.List.{All}
use Rattle.coz_types.specs.Ranges.{IsSummary}
use Rattle.profile_pool.specs.Made.{IsFor}
use Rattle.profile_pool.specs.Work.{summary_of_pair}
use Rattle.profile_pool.proofs.claimed.run_pairs.Given as goal

-- the summaries so far are those of the pairs so far
abbrev pub invariant-loop-pair : goal.invariant-loop-pair
invariant-loop-pair l =
    (l.summaries.items ≡ map (summary_of_pair l.work) (take l.pair-index l.pairs))
    × All (IsSummary (length l.work.subject.points.now.lines)) l.summaries.items
    × IsFor l.work l.machine
