use Rattle.std.proofs.Common.{◌∙◌, ap}
use Rattle.machines.specs.Delayed.{run}
use Rattle.delay_credits.specs.Seats.{hart_of_seat}
use Rattle.delay_credits.proofs.Standing.{standing-again, standing-start}
use Rattle.delay_credits.proofs.Changes.{changed-at, kept-at, sound-of}
use Rattle.delay_credits.proofs.Credits.start.Goals as goal

pub returns-then-is_unpaused : goal.returns-then-is_unpaused
returns-then-is_unpaused c =
    let me = c.self.inside in
    kept-at _ _ c.args.now me.raised me.raises c.args.hart.0 c.from-index.result (run 0) me.seats.items c.index-seat.result.now c.self.view_is c.self.invariant.3 c.self.invariant.1 c.requires.below c.requires.later c.from-index.ensures c.index-seat.ensures
    (standing-again me.raised me.raises c.args.now c.index-seat.result.now (c.is_unpaused.ensures c.if-is_unpaused.true))

pub returns : goal.returns
returns c =
    let me = c.self.inside in
    changed-at _ _ c.args.now me.raised me.raises c.args.hart.0 c.from-index.result (run 0) me.seats.items c.index-seat.result.now c.start.result c.self.view_is c.self.invariant.3 c.self.invariant.1 c.requires.below c.requires.later c.from-index.ensures c.index-seat.ensures
    (ap (hart_of_seat me.raised me.raises c.args.now) c.start.ensures
    ∙ standing-start me.raised me.raises c.args.now c.index-seat.result.now (sound-of _ _ me.raised me.raises c.args.hart.0 c.from-index.result me.seats.items c.index-seat.result.now c.self.view_is c.self.invariant.3 c.requires.below c.from-index.ensures c.index-seat.ensures))
