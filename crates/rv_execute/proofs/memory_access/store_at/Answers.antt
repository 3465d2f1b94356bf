use Rattle.std.proofs.Common.{ap, ◌∙◌, sym}
use Rattle.rv_execute.specs.Reservations.{without_touched}
use Rattle.rv_execute.specs.Execution.{setting, next}
use Rattle.rv_execute.proofs.memory_access.store_at.Goals as goal

pub returns-in-Ok : goal.returns-in-Ok
returns-in-Ok c =
    rw (sym c.in-Ok.ensures) (c.proceed.ensures _ _ ∙ ap (λ r. next (setting c.args.hart.now c.store.new.self r)) (c.end_at.ensures ∙ ap (λ n. without_touched c.args.address n c.args.reservations.now) c.from.ensures))
