use Rattle.std.proofs.Common.{rules}
use Rattle.profile_book.proofs.Gathering.{line_more}
use Rattle.average_curves.specs.Texts.{curve_text}
use Rattle.average_curves.proofs.writer.put_curves.Goals as goal

pub loop-curve-preserved : goal.loop-curve-preserved
loop-curve-preserved g c = line_more curve_text c.args.curves.now c.loop-curve.curve-index _ (search rules) (search rules) c.loop-curve.invariant c.put_curve.ensures
