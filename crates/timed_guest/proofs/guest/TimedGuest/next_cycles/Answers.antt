use Rattle.timed_guest.proofs.Held.{usual_cycles}
use Rattle.timed_guest.proofs.guest.TimedGuest.next_cycles.Goals as goal

pub returns-then-self-clause-cycles : goal.returns-then-self-clause-cycles
returns-then-self-clause-cycles c =
    let i = c.self.inside in
    usual_cycles (record { guest = i.guest; beside = i.state; index = i.lines }) c.args.self.now c.args.hart.0 c.next_cycles.result c.self.view_is (c.self.invariant.0.0 c.if-self.true) c.next_cycles.ensures.cycles
