use Rattle.std.proofs.Common.{◌<◌, ◌≤◌, ◌-◌, ◌^◌}
use Rattle.rv_execute.specs.Execution.{setting}
use Rattle.hart_steps.specs.Code.{IsCodeOf, IsIntact}
use Rattle.hart_steps.specs.Words.{IsWordAt}
use Rattle.hart_steps.proofs.Going.{HasGone}
use Rattle.hart_steps.proofs.steps.step_on.Given as goal

abbrev pub invariant-loop-step : goal.invariant-loop-step
invariant-loop-step l = record {
  gone : HasGone l.marks l.limit l.number.0 (setting l.fn.state l.fn.memory l.fn.reservations) l.net l.quiet (setting l.state l.memory l.reservations) l.due;
  word : IsWordAt l.memory l.state.pc l.word;
  code : IsCodeOf l.code l.memory;
  intact : IsIntact l.code l.memory;
  few : l.quiet < l.most;
  low : l.due ≤ 2 ^ 62;
}

abbrev pub decreases-loop-step : goal.decreases-loop-step
decreases-loop-step l = l.most - l.quiet
