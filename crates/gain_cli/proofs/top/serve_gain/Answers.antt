use Rattle.std.proofs.Common.{sym}
use Rattle.coz_serve.proofs.Informed.{not_both}
use Rattle.coz_words.specs.Answers.{bytes_of}
use Rattle.gain_cli.proofs.top.serve_gain.Goals as goal

pub returns-in-Some-clause-serves : goal.returns-in-Some-clause-serves
returns-in-Some-clause-serves g c = λ none. absurd (not_both (bytes_of c.args.words.now) c.in-Some.info (sym c.in-Some.ensures) none)

pub returns-in-Some-clause-headline : goal.returns-in-Some-clause-headline
returns-in-Some-clause-headline g c = λ none. absurd (not_both (bytes_of c.args.words.now) c.in-Some.info (sym c.in-Some.ensures) none)

pub returns-in-Some-clause-workers : goal.returns-in-Some-clause-workers
returns-in-Some-clause-workers g c = λ none. absurd (not_both (bytes_of c.args.words.now) c.in-Some.info (sym c.in-Some.ensures) none)
