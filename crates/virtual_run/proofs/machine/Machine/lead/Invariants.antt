use Rattle.std.proofs.Common.{◌≡◌, ◌*◌, ◌-◌}
use Rattle.machines.specs.Delayed.{events}
use Rattle.virtual_run.specs.Lead.{is_unstarted}
use Rattle.virtual_run.proofs.Leads.{IsLed}
use Rattle.virtual_run.proofs.machine.Machine.lead.Given as goal

abbrev pub invariant-loop-going : goal.invariant-loop-going
invariant-loop-going l = IsLed l.initial.self l.self × (l.going ≡ is_unstarted l.self.state)

-- the retirements and wakes that may be left
abbrev pub decreases-loop-going : goal.decreases-loop-going
decreases-loop-going l = 2 * l.initial.self.choice.budget - events l.self.state
