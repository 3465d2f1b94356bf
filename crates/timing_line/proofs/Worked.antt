-- The usual machine has no line.
use Rattle.std.proofs.Common.{◌≡◌, [], refl}
use Rattle.timing_model.specs.declared.timing.Charge.TheVariants.{Nobody}
use Rattle.timing_line.specs.Line.{timing_text}

usual_has_none : timing_text (record {
  cores = 256;
  slice = 100000;
  costs = record { integer = 1; jump = 2; load = 3; multiply = 3; atomic = 8; divide = 20; ecall = 40 };
  charge = Nobody;
  seed = 0;
}) ≡ []
usual_has_none = refl
