use Rattle.std.proofs.Common.{◌≡◌, drop}
use Rattle.function_lines.specs.SameProgram.{are_same_areas}
use Rattle.function_lines.proofs.same_program.same_areas.Given as goal

abbrev pub invariant-loop-index : goal.invariant-loop-index
invariant-loop-index l = are_same_areas l.file l.other (drop l.index l.areas) (drop l.index l.copies) ≡ are_same_areas l.file l.other l.areas l.copies
