use Rattle.std.proofs.Common.{take}
use Rattle.std.specs.List.{AllZip}
use Rattle.line_write.specs.Unit.{views}
use Rattle.line_remap.specs.Marks.{mark_of}
use Rattle.line_remap.specs.Runs.{Adds, IsRun}
use Rattle.line_remap.proofs.runs.push_runs.Given as goal

abbrev pub invariant-loop-entry : goal.invariant-loop-entry
invariant-loop-entry l = Adds (AllZip (IsRun l.index (mark_of l.mark)) (take l.entry-index l.entry-items)) (views l.initial.out.list.items) (views l.out.list.items)
