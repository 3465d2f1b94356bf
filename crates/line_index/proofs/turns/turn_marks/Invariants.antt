use Rattle.std.proofs.Common.{◌≤◌, ◌*◌, length}
use Rattle.line_index.specs.Turns.{turns}
use Rattle.line_index.proofs.Marked.{IsMarked}
use Rattle.line_index.proofs.turns.turn_marks.Given as goal

abbrev pub invariant-loop-change : goal.invariant-loop-change
invariant-loop-change l = record {
  few : length l.marks.items ≤ l.change-index * 2;
  so_far : IsMarked turns l.changes l.marks.items l.before l.change-index;
}
