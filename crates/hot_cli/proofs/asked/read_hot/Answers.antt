use Rattle.std.proofs.Common.{subst}
use Rattle.coz_words.specs.Answers.{Answers}
use Rattle.hot_cli.specs.Words.{Given, hot_request, hot_request_of}
use Rattle.hot_cli.proofs.asked.read_hot.Goals as goal

pub returns-clause-asked : goal.returns-clause-asked
unfolding hot_request
returns-clause-asked c = subst (λ (g : Given). Answers (hot_request_of g) c.request_in-asked.result) c.in_ok-scan.ensures c.request_in-asked.ensures.asked
