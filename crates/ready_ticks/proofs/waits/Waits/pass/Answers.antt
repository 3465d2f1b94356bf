use Rattle.std.proofs.Common.{suc, List, ap, sym, subst, ◌∙◌}
use Rattle.machines.specs.Places.{change_each}
use Rattle.ready_ticks.specs.declared.waits.Wait.{Wait}
use Rattle.ready_ticks.specs.Waits.{AreTold, never, started_at}
use Rattle.ready_ticks.proofs.Changes.{AreFew, few_entered, numbers}
use Rattle.ready_ticks.proofs.Told.{pass_told}
use Rattle.ready_ticks.proofs.waits.Waits.pass.Goals as goal

pub start_each-requires-clause-few : goal.start_each-requires-clause-few
start_each-requires-clause-few c =
    subst (λ (waits : List Wait). AreFew c.args.now waits) (sym c.enter_each.ensures)
    (few_entered c.args.now (numbers c.args.entered.now) c.self.inside.harts (subst (λ (waits : List Wait). AreFew c.args.now waits) (sym c.self.view_is) c.requires.few))

pub returns-clause-told : goal.returns-clause-told
returns-clause-told c = λ course n told passes.
    subst (λ (waits : List Wait). AreTold course (suc n) waits)
    (sym (c.start_each.ensures ∙ ap (change_each never (numbers c.args.started.now) (λ _. started_at c.args.now)) c.enter_each.ensures))
    (pass_told course n c.args.now c.self.inside.harts (numbers c.args.entered.now) (numbers c.args.started.now) (subst (λ (waits : List Wait). AreTold course n waits) (sym c.self.view_is) told) passes)
