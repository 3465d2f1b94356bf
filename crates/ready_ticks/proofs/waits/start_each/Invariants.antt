use Rattle.std.proofs.Common.{drop}
use Rattle.machines.specs.Places.{change_each}
use Rattle.ready_ticks.specs.Waits.{started_at, never}
use Rattle.ready_ticks.proofs.Changes.{AreFew, AreLeft, numbers}
use Rattle.ready_ticks.proofs.waits.start_each.Given as goal

-- the harts that are left are to start, and the ticks of each hart are few
abbrev pub invariant-loop-hart : goal.invariant-loop-hart
invariant-loop-hart l =
    AreLeft (started_at l.now) (change_each never (numbers l.harts) (λ _. started_at l.now) l.initial.waits) (numbers (drop l.hart-index l.harts)) l.waits
    × AreFew l.now l.waits
