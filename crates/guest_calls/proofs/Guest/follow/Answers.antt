use Rattle.std.proofs.Common.{[], sym, ap, ◌∙◌}
use Rattle.machines.specs.declared.Fate.{Fate}
use Rattle.rv_execute.specs.declared.hart.Step.{Step}
use Rattle.guest_calls.specs.Calls.{retirement}
use Rattle.guest_calls.specs.Retire.{step_result, retirement_after}
use Rattle.guest_calls.proofs.Rows.{running-made}
use Rattle.guest_calls.proofs.Guest.follow.Goals as goal

pub returns-in-Next : goal.returns-in-Next
returns-in-Next c = rw c.requires.started (ap (λ (x : Step). retirement_after c.args.hart.0 c.args.net (step_result c.args.self.now x)) (sym c.in-Next.is))

pub returns-in-Call : goal.returns-in-Call
returns-in-Call c = c.call.ensures.effect ∙ ap (λ (x : Step). retirement_after c.args.hart.0 c.args.net (step_result c.args.self.now x)) (sym c.in-Call.is)

pub returns-in-Fault : goal.returns-in-Fault
returns-in-Fault c =
    rw c.requires.started (ap (λ (f : Fate). retirement c.args.self.now f []) c.trap.ensures ∙ ap (λ (x : Step). retirement_after c.args.hart.0 c.args.net (step_result c.args.self.now x)) (sym c.in-Fault.is))

pub trap-requires : goal.trap-requires
trap-requires c = running-made c.args.self.now c.args.hart.0 c.requires.running
