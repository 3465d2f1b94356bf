use Rattle.virtual_run.proofs.Leads.{fork_seen, fork_stands}
use Rattle.virtual_run.proofs.lead.Lead.fork.Goals as goal

pub returns-clause-forked : goal.returns-clause-forked
returns-clause-forked c =
    fork_seen c.self.inside.machine c.self.invariant c.self.inside.speedup c.args.self.now c.self.view_is c.args.speedup c.args.machine.now c.fork_from.new.self c.requires.arguments c.fork_from.ensures

pub returns-clause-stands : goal.returns-clause-stands
returns-clause-stands c =
    fork_stands c.self.inside.machine c.self.invariant c.self.inside.speedup c.args.self.now c.self.view_is c.args.speedup c.args.machine.now c.fork_from.new.self c.requires.arguments c.fork_from.ensures
