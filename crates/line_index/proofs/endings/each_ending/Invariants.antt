use Rattle.std.proofs.Common.{ℕ, ◌<◌, All}
use Rattle.line_index.specs.Endings.{IsRanked, lines_of}
use Rattle.line_index.proofs.Pieces.{Among}
use Rattle.line_index.proofs.endings.each_ending.Given as goal

abbrev pub invariant-loop-line : goal.invariant-loop-line
invariant-loop-line l = record {
  own : All (IsRanked l.keys l.ranks) l.list.items;
  each : (k : ℕ) → k < l.line → Among k (lines_of l.list.items);
}
