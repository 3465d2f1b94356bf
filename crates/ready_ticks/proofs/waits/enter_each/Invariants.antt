use Rattle.std.proofs.Common.{drop}
use Rattle.machines.specs.Places.{change_each}
use Rattle.ready_ticks.specs.Waits.{entered_at, never}
use Rattle.ready_ticks.proofs.Changes.{AreLeft, numbers}
use Rattle.ready_ticks.proofs.waits.enter_each.Given as goal

-- the harts that are left are to enter
abbrev pub invariant-loop-hart : goal.invariant-loop-hart
invariant-loop-hart l =
    AreLeft (entered_at l.now) (change_each never (numbers l.harts) (λ _. entered_at l.now) l.initial.waits) (numbers (drop l.hart-index l.harts)) l.waits
