use Rattle.std.specs.Prelude.{not, ◌==◌}
use Rattle.rv_execute.proofs.Kept.{Kept}
use Rattle.rv_execute.proofs.reservations.Reservations.end_own.Given as goal

abbrev pub invariant-loop-i : goal.invariant-loop-i
invariant-loop-i l = Kept (λ e. not (e.0 == l.hart.0)) l.initial.self-inside.slots l.i l.kept l.self-inside.slots
