use Rattle.std.proofs.Common.{◌≡◌, ◌+◌, ◌++◌, drop}
use Rattle.line_write.specs.Unit.{views, program}
use Rattle.line_write.proofs.program.program.Given as goal

abbrev pub invariant-loop-sequence : goal.invariant-loop-sequence
invariant-loop-sequence l = (l.file ≡ l.sequence-index + 1) × (l.out.items ++ program l.file (views (drop l.sequence-index l.sequences)) ≡ program 1 (views l.sequences))
