use Rattle.hart_turns.proofs.turns.Turns.wake.Goals as goal

pub returns : goal.returns
returns c = λ rooms past told order. c.note.ensures rooms past told order
