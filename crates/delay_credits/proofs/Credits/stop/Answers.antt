use Rattle.std.proofs.Common.{ap, None}
use Rattle.coz_types.specs.declared.record.Account.{Account}
use Rattle.machines.specs.Delayed.{stop}
use Rattle.delay_credits.specs.Seats.{hart_of_seat}
use Rattle.delay_credits.proofs.Changes.{changed-at}
use Rattle.delay_credits.proofs.Credits.stop.Goals as goal

pub returns : goal.returns
returns c =
    let me = c.self.inside in
    changed-at _ _ c.args.now me.raised me.raises c.args.hart.0 c.from-index.result stop me.seats.items c.index.result.now (record { account = c.account_of-account.result; running = None }) c.self.view_is c.self.invariant.3 c.self.invariant.1 c.requires.below c.requires.later c.from-index.ensures c.index.ensures
    (ap (λ (a : Account). hart_of_seat me.raised me.raises c.args.now (record { account = a; running = None })) c.account_of-account.ensures)
