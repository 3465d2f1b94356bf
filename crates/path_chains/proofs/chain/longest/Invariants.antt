use Rattle.std.proofs.Common.{◌≡◌, ◌+◌, ◌≤◌, ◌++◌, length, reverse, take}
use Rattle.path_chains.specs.Path.{event_at, chain_to, chain_of}
use Rattle.path_chains.proofs.chain.longest.Given as goal

-- the first `count` numbers, from the last to the first, end the chain
abbrev pub invariant-loop-number : goal.invariant-loop-number
invariant-loop-number l =
    (l.number + l.count ≤ length l.events)
    × ((1 ≤ l.count) × ((length l.chain.items ≡ length l.events)
    × (chain_of l.events
    ≡ chain_to l.events (event_at l.events l.number).from l.number ++ reverse (take l.count l.chain.items))))

abbrev pub decreases-loop-number : goal.decreases-loop-number
decreases-loop-number l = l.number
