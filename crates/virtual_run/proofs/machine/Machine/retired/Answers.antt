use Rattle.std.proofs.Common.{ap, sym, ◌∙◌}
use Rattle.machines.specs.Delayed.{Delayed}
use Rattle.timed_guest.specs.Guest.{Timed}
use Rattle.run_engine.specs.Seen.{Seen}
use Rattle.virtual_run.proofs.CreditedRun.{retired_now, stands_seen, agrees_seen}
use Rattle.virtual_run.proofs.machine.Machine.retired.Goals as goal

pub returns-clause-count : goal.returns-clause-count
returns-clause-count c =
    let m = c.self.inside in
    sym (retired_now m.image.now m.input.now m.setting m.engine m.credits m.moment c.self.invariant) ∙ ap (λ (v : Seen (Delayed Timed)). v.state.retired) c.self.view_is

pub returns-clause-stands : goal.returns-clause-stands
returns-clause-stands c =
    let m = c.self.inside in
    stands_seen m.image.now m.input.now m.setting m.engine m.credits m.moment c.self.invariant c.args.self.now c.self.view_is

pub returns-clause-agrees : goal.returns-clause-agrees
returns-clause-agrees c =
    let m = c.self.inside in
    agrees_seen m.image.now m.input.now m.setting m.engine m.credits m.moment c.self.invariant c.args.self.now c.self.view_is
