use Rattle.std.proofs.Common.{◌≡◌, ◌+◌, ◌*◌, ◌≤◌, length, drop}
use Rattle.page_values.specs.Shapes.{first_value, variation_of}
use Rattle.page_values.proofs.shapes.variation_of.Given as goal

abbrev pub invariant-loop-i : goal.invariant-loop-i
invariant-loop-i l = record {
  next : l.next ≡ first_value (drop l.i l.steps);
  variation : l.variation ≡ variation_of (drop l.i l.steps);
  within : l.variation + 200000000 * l.i ≤ 200000000 * length l.steps;
}
