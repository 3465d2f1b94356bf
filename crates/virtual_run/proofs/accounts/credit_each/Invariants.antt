use Rattle.std.proofs.Common.{map, drop}
use Rattle.virtual_run.specs.Credited.{with_credits}
use Rattle.virtual_run.proofs.CreditedLists.{IsCrediting}
use Rattle.virtual_run.proofs.accounts.credit_each.Given as goal

-- the harts that are left are to be credited
abbrev pub invariant-loop-hart : goal.invariant-loop-hart
invariant-loop-hart l =
    IsCrediting l.waker.0 (with_credits (map (λ hart. hart.0) l.harts) l.initial.credits) (map (λ hart. hart.0) (drop l.hart-index l.harts)) l.credits
