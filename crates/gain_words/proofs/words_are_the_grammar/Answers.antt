use Rattle.gain_words.proofs.Law.{law}
use Rattle.gain_words.proofs.words_are_the_grammar.Goals as goal

pub returns : goal.returns
returns c = law
