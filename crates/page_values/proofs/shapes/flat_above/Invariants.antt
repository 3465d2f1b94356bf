use Rattle.std.proofs.Common.{◌≡◌, drop}
use Rattle.std.specs.List.{list_all}
use Rattle.page_values.specs.Shapes.{keeps, flat_above}
use Rattle.page_values.proofs.shapes.flat_above.Given as goal

abbrev pub invariant-loop-i : goal.invariant-loop-i
invariant-loop-i l = record {
  all : l.all ≡ list_all (keeps l.gain) (drop l.i l.steps);
  from : l.from ≡ flat_above l.gain (drop l.i l.steps);
}
