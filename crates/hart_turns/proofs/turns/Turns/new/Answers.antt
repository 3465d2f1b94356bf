use Rattle.std.proofs.Common.{[], ◌∷◌, ap, ◌∙◌}
use Rattle.hart_turns.specs.declared.life.Life.{Life}
use Rattle.hart_turns.proofs.Noting.{begins}
use Rattle.hart_turns.proofs.turns.Turns.new.Goals as goal

pub returns : goal.returns
returns c =
    begins c.args.rooms c.args.place c.in_ok-new.field-0 c.in_ok-new-2.field-0 c.add.new.self c.in_ok-new-3.field-0 c.first_handover.result
    (c.in_ok-new.ensures ∙ ap (λ (l : Life). l ∷ []) c.after.ensures.value) c.in_ok-new-2.ensures c.in_ok-new-3.ensures (c.first_handover.ensures c.args.place) c.add.ensures
