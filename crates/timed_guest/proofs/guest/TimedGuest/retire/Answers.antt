use Rattle.timed_guest.specs.Guest.{Timed}
use Rattle.timed_guest.proofs.Held.{usual_retired, retired_orderly}
use Rattle.timed_guest.proofs.guest.TimedGuest.retire.Goals as goal

pub returns-then-self-clause-effect : goal.returns-then-self-clause-effect
returns-then-self-clause-effect c =
    let i = c.self.inside in
    let t : Timed = record { guest = i.guest; beside = i.state; index = i.lines } in
    usual_retired t c.args.self.now c.args.hart.0 c.args.net c.retire.new.self c.retire.result c.retire.new.started c.self.view_is (c.self.invariant.0.0 c.if-self.true) c.retire.ensures.effect

pub invariant_of-self : goal.invariant_of-self
invariant_of-self c =
    let i = c.self.inside in
    let t : Timed = record { guest = i.guest; beside = i.state; index = i.lines } in (
      c.self.invariant.0,
      retired_orderly t c.args.self.now c.args.hart.0 c.args.net _ c.retire.result c.retire.new.started c.self.view_is c.self.invariant.1 c.requires.running
          (usual_retired t c.args.self.now c.args.hart.0 c.args.net c.retire.new.self c.retire.result c.retire.new.started c.self.view_is (c.self.invariant.0.0 c.if-self.true) c.retire.ensures.effect),
    )
