use Rattle.std.proofs.Common.{List, sym, subst, ap, ◌∙◌, drop, ◌-◌}
use Rattle.machines.specs.Places.{change_each}
use Rattle.ready_ticks.specs.declared.waits.Wait.{Wait}
use Rattle.ready_ticks.specs.Waits.{entered_at, never}
use Rattle.ready_ticks.proofs.Changes.{AreFew, few_entered}
use Rattle.ready_ticks.proofs.Shorter.{followed, follow_told}
use Rattle.ready_ticks.proofs.waits.Waits.follow.Goals as goal

pub start_each-requires-clause-few : goal.start_each-requires-clause-few
start_each-requires-clause-few c =
    subst (λ (waits : List Wait). AreFew c.args.now waits) (sym c.enter_from.ensures)
    (few_entered c.args.now (drop (c.args.before - c.min-left.result) c.args.line.now) c.self.inside.harts (subst (λ (waits : List Wait). AreFew c.args.now waits) (sym c.self.view_is) c.requires.few))

pub returns-clause-noted : goal.returns-clause-noted
returns-clause-noted c =
    followed c.args.now c.min-left.result c.args.before c.args.started.now c.args.line.now c.args.self.now c.enter_from.new.waits _ c.min-left.ensures
    (c.enter_from.ensures ∙ ap (change_each never (drop (c.args.before - c.min-left.result) c.args.line.now) (λ _. entered_at c.args.now)) c.self.view_is) c.start_each.ensures

pub returns-clause-told : goal.returns-clause-told
returns-clause-told c = λ course n entered told count after passes.
    follow_told course n c.args.now c.args.before c.args.started.now c.args.line.now entered c.args.self.now _ (returns-clause-noted c) told count after passes
