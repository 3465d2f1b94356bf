use Rattle.std.proofs.Common.{drop}
use Rattle.path_chains.specs.Path.{GoesOn}
use Rattle.path_chains.proofs.checked.is_chain.Given as goal

-- the list goes on as what is left of it does
abbrev pub invariant-loop-number : goal.invariant-loop-number
invariant-loop-number l =
    (GoesOn l.events l.initial.ahead l.rest → GoesOn l.events l.ahead (drop l.number-index l.rest))
    × (GoesOn l.events l.ahead (drop l.number-index l.rest) → GoesOn l.events l.initial.ahead l.rest)
