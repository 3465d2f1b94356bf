use Rattle.std.proofs.Common.{subst}
use Rattle.coz_files.specs.Gathered.{Gathers, Rest}
use Rattle.coz_files.proofs.GatheredLemmas.{puts_whole}
use Rattle.hot_lines.specs.HotRun.{hot_written}
use Rattle.hot_lines.proofs.text.write_hot.Goals as goal

pub returns : goal.returns
returns g c =
    let all = subst (λ (r : Rest). Gathers g.O.Sink.holds g.O.Sink.faults c.args.out.now c.put_hot.new.out r c.put_hot.new.to (hot_written c.args.names c.args.index.now.lines c.args.run.now)) c.new-buffer.ensures c.put_hot.ensures in
    puts_whole all c.finish.ensures
