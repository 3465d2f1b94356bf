use Rattle.std.proofs.Common.{◌≡◌, take, map, ℕ, All}
use Rattle.std.specs.List.{enumerate_from}
use Rattle.coz_types.specs.declared.record.Summary.{Summary}
use Rattle.average_steps.specs.Steps.{step_of, IsStep}
use Rattle.average_steps.proofs.steps.line_steps.Given as goal

abbrev pub invariant-loop-i : goal.invariant-loop-i
invariant-loop-i l = record {
  small : All IsStep l.steps.items;
  steps : l.steps.items ≡ map (λ (at : ℕ × Summary). step_of l.base.pace l.base.variance l.point l.profiles at.0 at.1.speedup) (take l.i (enumerate_from l.start l.runs));
}
