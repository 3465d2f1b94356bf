use Rattle.hot_cli.proofs.Law.{law}
use Rattle.hot_cli.proofs.words_are_the_grammar.Goals as goal

pub returns : goal.returns
returns c = law
