use Rattle.std.proofs.Common.{◌≡◌, map, drop}
use Rattle.virtual_run.specs.Credited.{raise_ticks}
use Rattle.virtual_run.specs.Lead.{with_sooner}
use Rattle.virtual_run.proofs.hasten.hasten_each.Given as goal

-- the harts that are left are to be due sooner
abbrev pub invariant-loop-hart : goal.invariant-loop-hart
invariant-loop-hart l =
    with_sooner (raise_ticks l.guest l.speedup) (map (λ hart. hart.0) (drop l.hart-index l.harts)) l.schedule
    ≡ with_sooner (raise_ticks l.guest l.speedup) (map (λ hart. hart.0) l.harts) l.initial.schedule
