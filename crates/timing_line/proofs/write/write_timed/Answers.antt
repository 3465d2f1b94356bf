use Rattle.std.proofs.Common.{subst}
use Rattle.coz_files.specs.Puts.{Puts}
use Rattle.coz_files.specs.declared.outside.PutAnswer.{PutAnswer}
use Rattle.coz_files.proofs.PutsLemmas.{puts_then, puts_stop}
use Rattle.profile_book.specs.Profile.{profile_text}
use Rattle.timing_line.specs.Line.{timing_text}
use Rattle.timing_line.proofs.write.write_timed.Goals as goal

pub returns-in-Done : goal.returns-in-Done
returns-in-Done g c =
    puts_then (subst (λ (a : PutAnswer). Puts g.O.Sink.holds g.O.Sink.faults c.args.out.now c.write_line.new.out a (timing_text c.args.timing.now)) c.in-Done.is c.write_line.ensures) c.write_profile-in-Done.ensures

pub returns-in-Failed : goal.returns-in-Failed
returns-in-Failed g c =
    puts_stop (profile_text c.args.profile.now) (subst (λ (a : PutAnswer). Puts g.O.Sink.holds g.O.Sink.faults c.args.out.now c.write_line.new.out a (timing_text c.args.timing.now)) c.in-Failed.is c.write_line.ensures)
