use Rattle.std.proofs.Common.{◌≡◌, length}
use Rattle.run_engine.proofs.WordMarks.{AreMarkedBefore}
use Rattle.run_engine.proofs.marked.mark_words.Given as goal

-- the words so far are marked
abbrev pub invariant-loop-place : goal.invariant-loop-place
invariant-loop-place l = record {
  start : l.marks.start ≡ l.initial.marks.start;
  count : length l.marks.marks ≡ length l.initial.marks.marks;
  marked : AreMarkedBefore l.setting l.marks l.place;
}
