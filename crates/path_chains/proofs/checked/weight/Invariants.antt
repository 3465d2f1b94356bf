use Rattle.std.proofs.Common.{◌≡◌, ◌*◌, ◌≤◌, ◌^◌, take}
use Rattle.path_chains.specs.Path.{weight}
use Rattle.path_chains.proofs.checked.weight.Given as goal

abbrev pub invariant-loop-number : goal.invariant-loop-number
invariant-loop-number l =
    (l.sum ≡ weight l.events (take l.number-index l.chain)) × (l.sum ≤ l.number-index * 2 ^ 65)
