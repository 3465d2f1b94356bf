use Rattle.std.proofs.Common.{◌≡◌, map}
use Rattle.std.specs.List.{range_with_len}
use Rattle.ready_ticks.specs.Waits.{ticks_at, wait_of}
use Rattle.plain_run.proofs.run.ready_of.Given as goal

-- the ticks so far are those of the harts below the number
abbrev pub invariant-loop-number : goal.invariant-loop-number
invariant-loop-number l = l.ready.items ≡ map (λ hart. ticks_at l.engine.time (wait_of l.waits hart)) (range_with_len 0 l.number)
