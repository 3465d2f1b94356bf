use Rattle.std.proofs.Common.{◌≡◌, map, take}
use Rattle.machines.specs.Delayed.{Hart}
use Rattle.delay_credits.specs.Delays.{account_as}
use Rattle.coz_commands.proofs.runs.accounts.Given as goal

-- the accounts so far are those of the harts below the number
abbrev pub invariant-loop-number : goal.invariant-loop-number
invariant-loop-number l = map account_as l.accounts.items ≡ map (λ (hart : Hart). hart.account) (take l.number l.machine.state.harts)
