use Rattle.guest_calls.proofs.Rousing.{RunsFrom}
use Rattle.guest_calls.proofs.threads.run_each.Given as goal

abbrev pub invariant-loop-hart : goal.invariant-loop-hart
invariant-loop-hart l = RunsFrom l.woken l.hart-index l.initial.harts l.harts
