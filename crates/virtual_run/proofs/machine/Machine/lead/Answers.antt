use Rattle.std.proofs.Common.{sym, ◌∙◌}
use Rattle.virtual_run.proofs.Leads.{goes_unstarted, unstarted_seen, led_first, led_next, led_smaller}
use Rattle.virtual_run.proofs.machine.Machine.lead.Goals as goal

pub loop-going-init : goal.loop-going-init
loop-going-init c =
    let m = c.self.inside in (
      led_first m.image.now m.input.now m.setting m.engine m.credits m.moment c.self.invariant c.args.self.now c.self.view_is c.requires.none,
      c.is_unstarted-going.ensures ∙ unstarted_seen m.image.now m.input.now m.setting m.engine m.credits m.moment c.self.invariant c.args.self.now c.self.view_is,
    )

pub loop-going-preserved : goal.loop-going-preserved
loop-going-preserved c =
    let e = c.events_far.ensures in
    (led_next c.args.self.now c.loop-going.self c.loop-going.invariant.0 (sym c.loop-going.invariant.1 ∙ c.loop-going-test.true) c.events_far.new.self e.next e.more e.starts e.rest, c.is_unstarted-going-in-loop-going.ensures)

pub events_far-requires : goal.events_far-requires
events_far-requires c = (goes_unstarted c.loop-going.self.state (sym c.loop-going.invariant.1 ∙ c.loop-going-test.true)).0

pub loop-going-smaller : goal.loop-going-smaller
loop-going-smaller c =
    let e = c.events_far.ensures in
    led_smaller c.args.self.now c.loop-going.self c.loop-going.invariant.0 (sym c.loop-going.invariant.1 ∙ c.loop-going-test.true) c.events_far.new.self e.next e.more e.starts e.rest

pub returns-clause-stops : goal.returns-clause-stops
returns-clause-stops c = sym c.loop-going.invariant.1 ∙ c.loop-going-test.false

pub returns-clause-none : goal.returns-clause-none
returns-clause-none c = c.loop-going.invariant.0.none

pub returns-clause-stands : goal.returns-clause-stands
returns-clause-stands c = c.loop-going.invariant.0.at.stands

pub returns-clause-stays : goal.returns-clause-stays
returns-clause-stays c over = c.loop-going.invariant.0.stays over

pub returns-clause-rest : goal.returns-clause-rest
returns-clause-rest c = c.loop-going.invariant.0.at.rest
