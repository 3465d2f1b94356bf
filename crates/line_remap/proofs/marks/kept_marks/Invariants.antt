use Rattle.std.proofs.Common.{◌≡◌, take}
use Rattle.std.specs.Prelude.{All}
use Rattle.line_remap.specs.Marks.{IsMark, kept_marks, marks_of, positions_of}
use Rattle.line_remap.proofs.marks.kept_marks.Given as goal

abbrev pub invariant-loop-line : goal.invariant-loop-line
invariant-loop-line l = (marks_of l.marks.items ≡ kept_marks l.index (positions_of (take l.line-index l.kept))) × All (IsMark l.index) l.marks.items
