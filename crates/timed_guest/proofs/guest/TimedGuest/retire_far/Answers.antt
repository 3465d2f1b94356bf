use Rattle.timed_guest.specs.Guest.{Timed}
use Rattle.timed_guest.proofs.Held.{far_orderly}
use Rattle.timed_guest.proofs.guest.TimedGuest.retire_far.Goals as goal

pub invariant_of-self : goal.invariant_of-self
invariant_of-self c =
    let i = c.self.inside in
    let t : Timed = record { guest = i.guest; beside = i.state; index = i.lines } in (
      c.self.invariant.0,
      far_orderly t c.args.self.now c.args.hart.0 c.retire_far.result.quiet c.retire_far.result.net c.retire_far.new.self c.retire_far.result.fate c.retire_far.new.started c.self.view_is c.requires.usual c.self.invariant.1 c.requires.running c.retire_far.ensures.effect,
    )
