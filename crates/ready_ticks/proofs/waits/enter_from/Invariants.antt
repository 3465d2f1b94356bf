use Rattle.std.proofs.Common.{drop}
use Rattle.machines.specs.Places.{change_each}
use Rattle.ready_ticks.specs.Waits.{entered_at, never}
use Rattle.ready_ticks.proofs.Changes.{AreLeft}
use Rattle.ready_ticks.proofs.waits.enter_from.Given as goal

-- the harts in line from the place on are to enter
abbrev pub invariant-loop-place : goal.invariant-loop-place
invariant-loop-place l =
    AreLeft (entered_at l.now) (change_each never (drop l.from l.line) (λ _. entered_at l.now) l.initial.waits) (drop l.place l.line) l.waits
