use Rattle.std.proofs.Common.{ap, sym, ◌∙◌}
use Rattle.machines.specs.Delayed.{Delayed}
use Rattle.timed_guest.specs.Guest.{Timed}
use Rattle.run_engine.specs.Seen.{Seen}
use Rattle.virtual_run.proofs.CreditedRun.{starts_now}
use Rattle.virtual_run.proofs.machine.Machine.starts.Goals as goal

pub returns : goal.returns
returns c =
    let m = c.self.inside in
    sym (starts_now m.image.now m.input.now m.setting m.engine m.credits m.moment c.self.invariant) ∙ ap (λ (v : Seen (Delayed Timed)). v.state.starts) c.self.view_is
