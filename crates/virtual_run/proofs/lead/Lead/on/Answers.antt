use Rattle.machines.specs.Delayed.{Delayed}
use Rattle.timed_guest.specs.Guest.{Timed}
use Rattle.run_engine.specs.Seen.{Seen}
use Rattle.virtual_run.proofs.Leads.{made_lead, made_view}
use Rattle.virtual_run.proofs.lead.Lead.on.Goals as goal

pub invariant_of-result : goal.invariant_of-result
invariant_of-result c =
    let v : Seen (Delayed Timed) = record { image = c.args.image.now; index = c.args.index.now; points = c.args.points.now; timing = c.args.timing; input = c.args.input.now; choice = c.args.choice; state = c.in_ok-machine.machine.state } in
    made_lead v c.args.choice c.in_ok-machine.machine c.requires.choice c.requires.machine c.in_ok-machine.ensures

pub returns : goal.returns
returns c =
    let v : Seen (Delayed Timed) = record { image = c.args.image.now; index = c.args.index.now; points = c.args.points.now; timing = c.args.timing; input = c.args.input.now; choice = c.args.choice; state = c.in_ok-machine.machine.state } in
    made_view v c.args.choice c.in_ok-machine.machine c.in_ok-machine.ensures
