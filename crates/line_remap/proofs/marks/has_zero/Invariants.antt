use Rattle.std.proofs.Common.{◌≡◌, drop}
use Rattle.line_remap.specs.Marks.{has_zero}
use Rattle.line_remap.proofs.marks.has_zero.Given as goal

abbrev pub invariant-loop-start : goal.invariant-loop-start
invariant-loop-start l = has_zero (drop l.start l.path) ≡ has_zero l.path
