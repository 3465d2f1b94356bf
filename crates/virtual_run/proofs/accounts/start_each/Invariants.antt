use Rattle.std.proofs.Common.{map, drop}
use Rattle.virtual_run.specs.Credited.{with_starts}
use Rattle.virtual_run.proofs.CreditedLists.{IsStarting}
use Rattle.virtual_run.proofs.accounts.start_each.Given as goal

-- the harts that are left are to run
abbrev pub invariant-loop-hart : goal.invariant-loop-hart
invariant-loop-hart l =
    IsStarting l.now (with_starts (map (λ hart. hart.0) l.harts) l.initial.credits) (map (λ hart. hart.0) (drop l.hart-index l.harts)) l.credits
