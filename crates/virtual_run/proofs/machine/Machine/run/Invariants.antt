use Rattle.std.proofs.Common.{◌≡◌, ◌*◌, ◌-◌}
use Rattle.machines.specs.Delayed.{events}
use Rattle.virtual_run.proofs.CreditedRun.{IsGoing}
use Rattle.virtual_run.proofs.machine.Machine.run.Given as goal

abbrev pub invariant-loop-ending : goal.invariant-loop-ending
invariant-loop-ending l = IsGoing l.initial.self l.self × (l.ending ≡ l.self.state.ending)

-- the retirements and wakes that may be left
abbrev pub decreases-loop-ending : goal.decreases-loop-ending
decreases-loop-ending l = 2 * l.initial.self.choice.budget - events l.self.state
