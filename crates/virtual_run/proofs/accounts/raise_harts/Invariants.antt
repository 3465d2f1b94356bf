use Rattle.std.proofs.Common.{map, drop}
use Rattle.virtual_run.specs.Credited.{raise_ticks, with_raises}
use Rattle.run_engine.specs.Engine.{most_ticks}
use Rattle.virtual_run.proofs.CreditedLists.{IsRaising}
use Rattle.virtual_run.proofs.accounts.raise_harts.Given as goal

-- the harts that are left are to raise the delay
abbrev pub invariant-loop-hart : goal.invariant-loop-hart
invariant-loop-hart l =
    IsRaising (most_ticks l.guest.beside.timing) (raise_ticks l.guest l.speedup) l.now (with_raises (raise_ticks l.guest l.speedup) (map (λ hart. hart.0) l.harts) l.initial.credits) (map (λ hart. hart.0) (drop l.hart-index l.harts)) l.credits
