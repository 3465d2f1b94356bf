use Rattle.std.specs.Prelude.{not}
use Rattle.rv_execute.specs.Reservations.{is_touched}
use Rattle.rv_execute.proofs.Kept.{Kept}
use Rattle.rv_execute.proofs.reservations.Reservations.end_at.Given as goal

abbrev pub invariant-loop-i : goal.invariant-loop-i
invariant-loop-i l = Kept (λ e. not (is_touched l.address l.count e.1)) l.initial.self-inside.slots l.i l.kept l.self-inside.slots
