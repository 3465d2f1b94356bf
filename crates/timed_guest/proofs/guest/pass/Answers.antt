use Rattle.std.proofs.Common.{List, ℕ, sym, ap, ◌∙◌}
use Rattle.machines.specs.declared.Fate.{Fate}
use Rattle.machines.specs.declared.Fate.TheVariants.{Goes}
use Rattle.timing_steps.specs.State.{after_retirement}
use Rattle.timed_guest.specs.Retire.{past_of}
use Rattle.timed_guest.proofs.guest.pass.Goals as goal

pub returns-then-goes_alone-clause-state : goal.returns-then-goes_alone-clause-state
returns-then-goes_alone-clause-state c passed =
    let a = c.args in
    c.pass.ensures.state passed
    ∙ ap (λ (hs : List ℕ). after_retirement a.state.now (past_of a.hart a.moment a.line a.gives_up Goes) hs) (sym (c.goes_alone.ensures.started c.if-goes_alone.true))
    ∙ ap (λ (f : Fate). after_retirement a.state.now (past_of a.hart a.moment a.line a.gives_up f) a.started.now) (sym (c.goes_alone.ensures.fate c.if-goes_alone.true))
