use Rattle.std.proofs.Common.{subst}
use Rattle.coz_files.specs.Gathered.{Gathers, Rest}
use Rattle.coz_files.proofs.GatheredLemmas.{puts_whole}
use Rattle.timing_line.specs.Line.{timing_text}
use Rattle.gain_cli.proofs.gain.put_line.Goals as goal

pub returns : goal.returns
returns g c =
    let all = subst (λ (r : Rest). Gathers g.O.Sink.holds g.O.Sink.faults c.args.out.now c.put_timing.new.out r c.put_timing.new.to (timing_text c.args.timing.now)) c.new-buffer.ensures c.put_timing.ensures in
    puts_whole all c.finish.ensures
