use Rattle.std.proofs.Common.{◌∙◌, ap}
use Rattle.machines.specs.Delayed.{Hart}
use Rattle.delay_credits.specs.Delays.{account_as}
use Rattle.delay_credits.proofs.Changes.{hart-at}
use Rattle.delay_credits.proofs.Credits.account.Goals as goal

pub returns : goal.returns
returns c =
    let me = c.self.inside in
    ap account_as c.account_of.ensures
    ∙ ap (λ (hart : Hart). hart.account) (hart-at _ _ c.args.now me.raised me.raises c.args.hart.0 c.from.result me.seats.items c.index.result.now c.self.view_is c.self.invariant.3 c.self.invariant.1 c.requires.below c.requires.later c.from.ensures c.index.ensures)
