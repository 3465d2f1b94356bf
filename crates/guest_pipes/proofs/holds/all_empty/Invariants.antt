use Rattle.std.proofs.Common.{◌≡◌, replicate, []}
use Rattle.guest_pipes.proofs.holds.all_empty.Given as goal

abbrev pub invariant-loop : goal.invariant-loop
invariant-loop l = l.held.items ≡ replicate l.counter []
