use Rattle.std.proofs.Common.{◌≤◌, ◌*◌, ◌^◌, subst, sym, arith}
use Rattle.timing_model.specs.Timing.{IsUsual}
use Rattle.machines.specs.Delayed.{Delayed}
use Rattle.timed_guest.specs.Guest.{Timed}
use Rattle.run_engine.specs.Seen.{Seen}
use Rattle.virtual_run.proofs.CreditedRun.{raised_few, raised_usual}
use Rattle.virtual_run.proofs.machine.Machine.raised.Goals as goal

pub returns-clause-small : goal.returns-clause-small
returns-clause-small c =
    let m = c.self.inside in
    let few : m.credits.raised ≤ 41 * 10 ^ 15 = raised_few m.image.now m.input.now m.setting m.engine m.credits m.moment c.self.invariant in
    omega (arith, few, c.raised.ensures)

pub returns-clause-usual : goal.returns-clause-usual
returns-clause-usual c = λ usual.
    let m = c.self.inside in
    let few : m.credits.raised ≤ 10 ^ 16 = raised_usual m.image.now m.input.now m.setting m.engine m.credits m.moment c.self.invariant (subst (λ (v : Seen (Delayed Timed)). IsUsual v.timing) (sym c.self.view_is) usual) in
    omega (arith, few, c.raised.ensures)
