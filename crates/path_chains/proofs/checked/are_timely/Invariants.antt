use Rattle.std.proofs.Common.{ℕ, ◌<◌}
use Rattle.path_chains.specs.Path.{IsTimely}
use Rattle.path_chains.proofs.checked.are_timely.Given as goal

abbrev pub invariant-loop-number : goal.invariant-loop-number
invariant-loop-number l = (k : ℕ) → k < l.number → IsTimely l.events k
