use Rattle.std.proofs.Common.{◌≡◌, length}
use Rattle.line_index.proofs.Ranking.{RankedTo}
use Rattle.line_index.proofs.endings.ranks.Given as goal

abbrev pub invariant-loop-rank : goal.invariant-loop-rank
invariant-loop-rank l = record {
  as_many : length l.ranks.items ≡ length l.backwards;
  so_far : RankedTo l.backwards l.ranks.items l.rank;
}
