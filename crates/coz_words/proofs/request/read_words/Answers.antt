use Rattle.coz_words.specs.Answers.{bytes_of}
use Rattle.coz_words.specs.Slow.{request_of}
use Rattle.coz_words.proofs.Clauses as clauses
use Rattle.coz_words.proofs.request.read_words.Goals as goal

pub returns-clause-asked : goal.returns-clause-asked
unfolding request_of
returns-clause-asked c = c.request_in.ensures

pub returns-clause-given : goal.returns-clause-given
returns-clause-given c = clauses.given (bytes_of c.args.words.now) c.request_in.result c.request_in.ensures

pub returns-clause-only : goal.returns-clause-only
returns-clause-only c = clauses.only (bytes_of c.args.words.now) c.request_in.result c.request_in.ensures

pub returns-clause-usage : goal.returns-clause-usage
returns-clause-usage c = clauses.usage (bytes_of c.args.words.now) c.request_in.result c.request_in.ensures

pub returns-clause-fit : goal.returns-clause-fit
returns-clause-fit c = clauses.fit (bytes_of c.args.words.now) c.request_in.result c.request_in.ensures

pub returns-clause-law : goal.returns-clause-law
returns-clause-law c = clauses.law
