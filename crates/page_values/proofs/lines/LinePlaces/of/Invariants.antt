use Rattle.page_values.specs.Lines.{texts}
use Rattle.page_values.proofs.Placed.{AreSeen}
use Rattle.page_values.proofs.lines.LinePlaces.of.Given as goal

abbrev pub invariant-loop-place : goal.invariant-loop-place
invariant-loop-place l = AreSeen (texts l.labels) l.place l.first l.after.items
