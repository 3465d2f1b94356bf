use Rattle.std.proofs.Common.{◌∙◌, ap, map}
use Rattle.delay_credits.specs.Delays.{account_as}
use Rattle.coz_commands.proofs.Accounts.{one_account}
use Rattle.coz_commands.proofs.runs.accounts.Goals as goal

pub loop-number-preserved : goal.loop-number-preserved
loop-number-preserved c =
    ap (map account_as) c.in_ok-push.ensures.items
    ∙ one_account c.loop-number.accounts.items c.in-Some.account c.args.machine.now.state.harts c.loop-number.number c.loop-number.invariant (c.in-Some.ensures.usual c.requires)
