use Rattle.std.proofs.Common.{◌∙◌, ap}
use Rattle.delay_credits.specs.Delays.{pause_of}
use Rattle.delay_credits.proofs.Standing.{standing-pause}
use Rattle.delay_credits.proofs.Changes.{hart-at}
use Rattle.delay_credits.proofs.Credits.pause.Goals as goal

pub returns : goal.returns
returns c =
    let me = c.self.inside in
    c.pause_of.ensures
    ∙ standing-pause me.raised me.raises c.args.now c.index.result.now
    ∙ ap pause_of (hart-at _ _ c.args.now me.raised me.raises c.args.hart.0 c.from.result me.seats.items c.index.result.now c.self.view_is c.self.invariant.3 c.self.invariant.1 c.requires.below c.requires.later c.from.ensures c.index.ensures)
