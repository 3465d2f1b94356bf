use Rattle.std.proofs.Common.{refl}
use Rattle.run_engine.proofs.WordMarks.{none_before}
use Rattle.run_engine.proofs.marked.mark_words.Goals as goal

pub loop-place-init : goal.loop-place-init
loop-place-init c = record { start = refl; count = refl; marked = none_before c.args.setting.now c.args.marks.now }
