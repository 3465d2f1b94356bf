use Rattle.std.proofs.Common.{rules}
use Rattle.experiment_plan.proofs.Cuts.{one_piece, first_and_rest, cut_there}
use Rattle.experiment_plan.proofs.line.first_piece.Goals as goal

pub returns-then-offset-text-clause-pieces : goal.returns-then-offset-text-clause-pieces
returns-then-offset-text-clause-pieces c = first_and_rest c.args.text.now c.first_comma-offset.result c.first_comma-offset.ensures.offset (search rules)

pub returns-else-offset-text-clause-pieces : goal.returns-else-offset-text-clause-pieces
returns-else-offset-text-clause-pieces c = one_piece c.args.text.now (search rules)

pub returns-then-offset-text-clause-cut : goal.returns-then-offset-text-clause-cut
returns-then-offset-text-clause-cut c = cut_there c.args.text.now c.first_comma-offset.result c.first_comma-offset.ensures.offset (search rules)
