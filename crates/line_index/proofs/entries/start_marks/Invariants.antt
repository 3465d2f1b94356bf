use Rattle.std.proofs.Common.{◌≤◌, length}
use Rattle.line_index.specs.Keys.{starts}
use Rattle.line_index.proofs.Marked.{IsMarked}
use Rattle.line_index.proofs.entries.start_marks.Given as goal

abbrev pub invariant-loop-change : goal.invariant-loop-change
invariant-loop-change l = record {
  few : length l.marks.items ≤ l.change-index;
  so_far : IsMarked starts l.changes l.marks.items l.before l.change-index;
}
