use Rattle.timed_guest.proofs.Growing.{first_within, retired_within, woken_within}
use Rattle.timed_guest.proofs.counts_grow.Goals as goal

pub returns : goal.returns
returns c = record { first = first_within; retires = retired_within; wakes = woken_within }
