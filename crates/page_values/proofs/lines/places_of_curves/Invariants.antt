use Rattle.std.proofs.Common.{◌≡◌, take}
use Rattle.page_values.specs.Lines.{curve_labels, texts}
use Rattle.page_values.proofs.lines.places_of_curves.Given as goal

abbrev pub invariant-loop-curve : goal.invariant-loop-curve
invariant-loop-curve l = texts l.labels.items ≡ curve_labels (take l.curve-index l.curves)
