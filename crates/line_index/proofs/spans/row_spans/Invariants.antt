use Rattle.std.proofs.Common.{◌≡◌, ℕ, ◌≤◌, length, drop, reverse}
use Rattle.std.specs.Ordering.{nat_cmp}
use Rattle.std.specs.BTreeMap.{get}
use Rattle.line_index.specs.Lines.{next_address}
use Rattle.line_index.specs.Spans.{row_spans}
use Rattle.line_index.proofs.spans.row_spans.Given as goal

abbrev pub invariant-loop-i : goal.invariant-loop-i
invariant-loop-i l = record {
  within : l.i ≤ length l.rows;
  next : (sequence : ℕ) → get nat_cmp l.next sequence ≡ next_address sequence (drop l.i l.rows);
  spans : l.spans.items ≡ reverse (row_spans (drop l.i l.rows));
}

abbrev pub decreases-loop-i : goal.decreases-loop-i
decreases-loop-i l = l.i
