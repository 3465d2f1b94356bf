use Rattle.std.proofs.Common.{[], ◌∷◌, ◌++◌, ap, ◌∙◌, option_to_list, if◌then◌else◌}
use Rattle.machines.specs.Places.{change}
use Rattle.hart_states.specs.Changes.{ended_by, intervals}
use Rattle.hart_handovers.specs.Handovers.{handovers, runs}
use Rattle.hart_turns.specs.declared.life.Life.{Life}
use Rattle.hart_turns.specs.Firsts.{held}
use Rattle.hart_turns.specs.Lives.{after, handover_by, unmade}
use Rattle.hart_turns.proofs.Noting.{noted}
use Rattle.hart_turns.proofs.turns.note.Goals as goal

pub returns : goal.returns
returns c = λ rooms past told order.
    noted rooms past c.args.turns.now c.args.change told order c.after.ensures.fits c.put.new.self c.keep_interval.new.intervals c.keep_handover.new.handovers
    (c.put.ensures ∙ ap (λ (l : Life). change unmade c.args.change.hart.0 (λ _. l) c.args.turns.now.lives) (c.after.ensures.value ∙ ap (λ (l : Life). after l c.args.change) c.get-life.ensures))
    (c.keep_interval.ensures rooms.intervals (intervals past) told.intervals_are ∙ ap (λ (l : Life). held rooms.intervals (intervals past ++ option_to_list (ended_by l.last c.args.change))) c.get-life.ensures)
    (c.keep_handover.ensures rooms.handovers (handovers past) told.handovers_are ∙ ap (λ (l : Life). held rooms.handovers (handovers past ++ (if runs c.args.change.to then handover_by l c.args.change ∷ [] else []))) c.get-life.ensures)
