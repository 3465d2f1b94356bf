-- The waiters of a queue: harts and the addresses at which they wait.
use Rattle.std.specs.Prelude.{List, map}
use Rattle.guest_futex.specs.declared.queue.Waiting.{Waiting}
use Rattle.guest_futex.specs.Waiters.{Waiter}

abbrev pub waiter_of : Waiting → Waiter
waiter_of waiting = record { address = waiting.address; hart = waiting.hart.0 }

abbrev pub waiters_of : List Waiting → List Waiter
waiters_of list = map waiter_of list
