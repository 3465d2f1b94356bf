use Rattle.std.proofs.Common.{◌∙◌}
use Rattle.virtual_run.proofs.CreditedLists.{start_is}
use Rattle.virtual_run.proofs.accounts.start_again.Goals as goal

pub returns-in-Goes : goal.returns-in-Goes
returns-in-Goes c = rw c.in-Goes.is (c.start.ensures ∙ start_is c.args.hart.0 c.args.now c.args.credits.now c.requires.now)
