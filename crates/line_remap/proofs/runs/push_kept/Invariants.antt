use Rattle.std.proofs.Common.{take}
use Rattle.line_write.specs.Unit.{views}
use Rattle.line_remap.specs.Marks.{marks_of}
use Rattle.line_remap.specs.Runs.{Adds, AreKept}
use Rattle.line_remap.proofs.runs.push_kept.Given as goal

abbrev pub invariant-loop-mark : goal.invariant-loop-mark
invariant-loop-mark l = Adds (AreKept l.index (marks_of (take l.mark-index l.marks))) (views l.initial.out.list.items) (views l.out.list.items)
