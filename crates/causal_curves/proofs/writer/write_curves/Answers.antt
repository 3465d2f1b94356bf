use Rattle.std.proofs.Common.{flat_map, subst}
use Rattle.coz_files.specs.Gathered.{Gathers, Rest}
use Rattle.coz_files.proofs.GatheredLemmas.{puts_whole}
use Rattle.causal_curves.specs.Texts.{curve_text}
use Rattle.causal_curves.proofs.writer.write_curves.Goals as goal

pub returns : goal.returns
returns g c =
    let from_nothing : Rest → Type 0 = λ r. Gathers g.O.Sink.holds g.O.Sink.faults c.args.out.now c.put_curves.new.out r c.put_curves.new.to (flat_map curve_text c.args.curves.now) in
    puts_whole (subst from_nothing c.new-buffer.ensures c.put_curves.ensures) c.finish.ensures
