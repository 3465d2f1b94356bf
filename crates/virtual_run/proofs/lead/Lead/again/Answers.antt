use Rattle.virtual_run.proofs.Leads.{zero_again, again_led, again_view}
use Rattle.virtual_run.proofs.lead.Lead.again.Goals as goal

pub again_from-requires-clause-none : goal.again_from-requires-clause-none
again_from-requires-clause-none c =
    zero_again c.first.inside.machine c.first.invariant c.first.inside.speedup c.args.first.now c.first.view_is c.requires.unbegun

pub invariant_of-self : goal.invariant_of-self
invariant_of-self c =
    again_led c.first.inside.machine c.first.invariant c.first.inside.speedup c.args.first.now c.first.view_is c.args.line c.again_from.new.self c.again_from.ensures

pub returns : goal.returns
returns c =
    again_view c.first.inside.machine c.first.invariant c.first.inside.speedup c.args.first.now c.first.view_is c.args.line c.again_from.new.self c.again_from.ensures c.requires.unbegun
