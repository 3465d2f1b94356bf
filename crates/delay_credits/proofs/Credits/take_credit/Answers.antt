use Rattle.delay_credits.proofs.Changes.{credited-at}
use Rattle.delay_credits.proofs.Credits.take_credit.Goals as goal

pub returns : goal.returns
returns c =
    let me = c.self.inside in
    credited-at _ me.latest me.raised me.raises c.args.woken.0 c.args.waker.0 c.from-index.result me.seats.items c.index.result.now c.self.view_is c.requires.woken_below c.requires.waits c.requires.whole c.from-index.ensures c.index.ensures
