use Rattle.std.proofs.Common.{ap, is_some, ◌∙◌}
use Rattle.virtual_run.proofs.Leads.{lead_ending, run_led, run_none, run_stands, run_shared, run_stays, run_over}
use Rattle.virtual_run.proofs.lead.Lead.run.Goals as goal

pub returns-clause-ended : goal.returns-clause-ended
returns-clause-ended c =
    let e = c.lead.ensures in
    e.ended ∙ lead_ending c.lead.new.self (run_led c.self.inside.machine c.self.invariant c.self.inside.speedup c.args.self.now c.self.view_is c.lead.new.self e.stops e.none e.stands e.stays e.rest)

pub returns-clause-none : goal.returns-clause-none
returns-clause-none c =
    let e = c.lead.ensures in
    ap is_some e.ended ∙ run_none c.self.inside.machine c.self.invariant c.self.inside.speedup c.args.self.now c.self.view_is c.lead.new.self e.stops e.none e.stands e.stays e.rest

pub returns-clause-stands : goal.returns-clause-stands
returns-clause-stands c =
    let e = c.lead.ensures in
    run_stands c.self.inside.machine c.self.invariant c.self.inside.speedup c.args.self.now c.self.view_is c.lead.new.self e.stops e.none e.stands e.stays e.rest

pub returns-clause-shared : goal.returns-clause-shared
returns-clause-shared c =
    let e = c.lead.ensures in
    run_shared c.self.inside.machine c.self.invariant c.self.inside.speedup c.args.self.now c.self.view_is c.lead.new.self e.stops e.none e.stands e.stays e.rest

pub returns-clause-stays : goal.returns-clause-stays
returns-clause-stays c next =
    let e = c.lead.ensures in
    run_stays c.self.inside.machine c.self.invariant c.self.inside.speedup c.args.self.now c.self.view_is c.lead.new.self e.stops e.none e.stands e.stays e.rest next

pub returns-clause-over : goal.returns-clause-over
returns-clause-over c some =
    let e = c.lead.ensures in
    run_over c.self.inside.machine c.self.invariant c.self.inside.speedup c.args.self.now c.self.view_is c.lead.new.self e.stops e.none e.stands e.stays e.rest some
