use Rattle.std.proofs.Common.{◌≤◌, ℕ, length, ap, subst, sym, ◌∙◌}
use Rattle.timed_guest.specs.Guest.{Timed}
use Rattle.timing_model.specs.Timing.{IsUsual}
use Rattle.machines.specs.Delayed.{Delayed}
use Rattle.run_engine.specs.Seen.{Seen}
use Rattle.virtual_run.proofs.CreditedRun.{guest_now, harts_now, harts_few}
use Rattle.virtual_run.proofs.machine.Machine.harts.Goals as goal

pub returns-clause-guest : goal.returns-clause-guest
returns-clause-guest c =
    let m = c.self.inside in
    c.harts.ensures ∙ sym (ap (λ (g : Timed). length g.guest.harts) (guest_now m.image.now m.input.now m.setting m.engine m.credits m.moment c.self.invariant)) ∙ ap (λ (v : Seen (Delayed Timed)). length v.state.guest.guest.harts) c.self.view_is

pub returns-clause-accounts : goal.returns-clause-accounts
returns-clause-accounts c = λ usual.
    let m = c.self.inside in
    c.harts.ensures
    ∙ sym (harts_now m.image.now m.input.now m.setting m.engine m.credits m.moment c.self.invariant (subst (λ (v : Seen (Delayed Timed)). IsUsual v.timing) (sym c.self.view_is) usual))
    ∙ ap (λ (v : Seen (Delayed Timed)). length v.state.harts) c.self.view_is

pub returns-clause-few : goal.returns-clause-few
returns-clause-few c =
    let m = c.self.inside in
    subst (λ (n : ℕ). n ≤ 256) (sym c.harts.ensures) (harts_few m.image.now m.input.now m.setting m.engine m.credits m.moment c.self.invariant)
