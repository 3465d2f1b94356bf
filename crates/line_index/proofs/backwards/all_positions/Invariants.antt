use Rattle.std.proofs.Common.{◌≡◌, ℕ, ◌<◌, length, All}
use Rattle.line_index.proofs.Pieces.{Among}
use Rattle.line_index.proofs.backwards.all_positions.Given as goal

abbrev pub invariant-loop-position : goal.invariant-loop-position
invariant-loop-position l = record {
  as_many : length l.list.items ≡ l.position;
  own : All (λ position. position < l.count) l.list.items;
  each : (k : ℕ) → k < l.position → Among k l.list.items;
}
