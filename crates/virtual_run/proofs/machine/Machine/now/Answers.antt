use Rattle.std.proofs.Common.{◌∙◌, ap}
use Rattle.machines.specs.Delayed.{Delayed}
use Rattle.timed_guest.specs.Guest.{Timed}
use Rattle.run_engine.specs.Seen.{Seen}
use Rattle.virtual_run.proofs.CreditedRun.{now_is}
use Rattle.virtual_run.proofs.machine.Machine.now.Goals as goal

pub returns-clause-moment : goal.returns-clause-moment
returns-clause-moment c =
    let m = c.self.inside in
    now_is m.image.now m.input.now m.setting m.engine m.credits m.moment c.self.invariant ∙ ap (λ (seen : Seen (Delayed Timed)). seen.state.now) c.self.view_is

pub returns-clause-small : goal.returns-clause-small
returns-clause-small c = c.self.invariant.soon
