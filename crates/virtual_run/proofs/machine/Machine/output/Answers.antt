use Rattle.std.proofs.Common.{ap, sym, ◌∙◌}
use Rattle.timed_guest.specs.Guest.{Timed}
use Rattle.machines.specs.Delayed.{Delayed}
use Rattle.run_engine.specs.Seen.{Seen}
use Rattle.virtual_run.proofs.CreditedRun.{guest_now}
use Rattle.virtual_run.proofs.machine.Machine.output.Goals as goal

pub returns-clause-bytes : goal.returns-clause-bytes
returns-clause-bytes c =
    let m = c.self.inside in
    c.output.ensures.bytes ∙ sym (ap (λ (g : Timed). g.guest.output) (guest_now m.image.now m.input.now m.setting m.engine m.credits m.moment c.self.invariant)) ∙ ap (λ (v : Seen (Delayed Timed)). v.state.guest.guest.output) c.self.view_is
