use Rattle.std.proofs.Common.{Bool, [], ◌∷◌, ◌++◌, ap, sym, ◌∙◌, if◌then◌else◌}
use Rattle.hart_handovers.specs.declared.handover.Handover.{Handover}
use Rattle.hart_turns.specs.Firsts.{held, with_item}
use Rattle.hart_turns.specs.Lives.{handover_by}
use Rattle.hart_turns.proofs.Holding.{holds_more}
use Rattle.hart_turns.proofs.turns.keep_handover.Goals as goal

pub returns-then-runs : goal.returns-then-runs
returns-then-runs c = λ room all is.
    c.add.ensures ∙ ap (with_item c.handover.result) is ∙ holds_more all c.handover.result room
    ∙ ap (λ (o : Handover). held room (all ++ o ∷ [])) c.handover.ensures
    ∙ ap (λ (b : Bool). held room (all ++ (if b then handover_by c.args.life c.args.change ∷ [] else []))) (sym c.if-runs.true ∙ c.runs.ensures)
