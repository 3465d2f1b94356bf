use Rattle.std.proofs.Common.{rules}
use Rattle.gain_words.proofs.Cuts.{name_there, value_there, no_name, no_value}
use Rattle.gain_words.proofs.cut.cut.Goals as goal

pub returns-then-offset-text-clause-name : goal.returns-then-offset-text-clause-name
returns-then-offset-text-clause-name c = name_there c.args.text.now c.first_equals-offset.result c.first_equals-offset.ensures.offset

pub returns-then-offset-text-clause-value : goal.returns-then-offset-text-clause-value
returns-then-offset-text-clause-value c = value_there c.args.text.now c.first_equals-offset.result c.first_equals-offset.ensures.offset (search rules)

pub returns-else-offset-text-clause-name : goal.returns-else-offset-text-clause-name
returns-else-offset-text-clause-name c = no_name c.args.text.now c.first_equals-offset.result c.first_equals-offset.ensures.offset (search rules)

pub returns-else-offset-text-clause-value : goal.returns-else-offset-text-clause-value
returns-else-offset-text-clause-value c = no_value c.args.text.now (search rules)
