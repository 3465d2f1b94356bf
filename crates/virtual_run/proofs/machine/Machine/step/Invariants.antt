use Rattle.std.proofs.Common.{◌*◌, ◌-◌}
use Rattle.machines.specs.Delayed.{events}
use Rattle.virtual_run.proofs.Stepped.{IsStepped}
use Rattle.virtual_run.proofs.machine.Machine.step.Given as goal

abbrev pub invariant-loop-going : goal.invariant-loop-going
invariant-loop-going l = IsStepped l.initial.self l.self l.going

-- the retirements and wakes that may be left
abbrev pub decreases-loop-going : goal.decreases-loop-going
decreases-loop-going l = 2 * l.initial.self.choice.budget - events l.self.state
