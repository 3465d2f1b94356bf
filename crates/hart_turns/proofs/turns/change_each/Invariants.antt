use Rattle.std.proofs.Common.{List, map, take}
use Rattle.hart_states.specs.declared.change.Change.{Change}
use Rattle.hart_states.specs.Changes.{InOrder}
use Rattle.hart_turns.specs.declared.turns.Rooms.{Rooms}
use Rattle.hart_turns.specs.Turns.{Tell, with_each}
use Rattle.hart_turns.proofs.turns.change_each.Given as goal

-- the harts so far are noted
abbrev pub invariant-loop-hart : goal.invariant-loop-hart
invariant-loop-hart l =
    (rooms : Rooms) (past : List Change) → Tell rooms past l.initial.turns → InOrder l.retirement.moment past
    → Tell rooms (with_each l.retirement l.activity (map (λ hart. hart.0) (take l.hart-index l.harts)) past) l.turns
