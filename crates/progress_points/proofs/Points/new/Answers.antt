use Rattle.std.proofs.Common.{ap, arith}
use Rattle.std.proofs.lemmas.List.{length-map}
use Rattle.coz_types.specs.declared.LineId.{LineId}
use Rattle.progress_points.specs.Points.{ids}
use Rattle.progress_points.proofs.Points.new.Goals as goal

pub returns : goal.returns
returns c = record {
  few = omega (arith, length-map c.args.lines.now (λ (line : LineId). line.0), c.if-lines-gt-MAX_POINTS.false);
  lines = ap ids c.in_ok-from_slice.ensures.items;
  each = c.in_ok-marks_of.ensures.points;
}
