use Rattle.std.proofs.Common.{◌≡◌, ◌++◌}
use Rattle.std.specs.List.{flat_map}
use Rattle.claim_workers.specs.Worked.{kept_summaries}
use Rattle.claim_workers.proofs.claimed.in_order.Given as goal

-- the summaries so far are those of the claims so far
abbrev pub invariant-loop-claimed : goal.invariant-loop-claimed
invariant-loop-claimed l =
    (l.summaries.items ≡ flat_map kept_summaries l.yielded) × (l.yielded ++ l.claimed-iterator.rest.items ≡ l.initial.claimed-iterator.rest.items)
