use Rattle.machines.specs.Places.{change, change_each}
use Rattle.std.proofs.Common.{ℕ, drop, ◌<◌, subst, ap, ◌∙◌}
use Rattle.ready_ticks.specs.Waits.{entered_at, never}
use Rattle.ready_ticks.proofs.Changes.{one_fewer}
use Rattle.ready_ticks.proofs.waits.enter_from.Goals as goal

pub loop-place-preserved : goal.loop-place-preserved
loop-place-preserved c =
    one_fewer (entered_at c.args.now) (change_each never (drop c.args.from c.args.line.now) (λ _. entered_at c.args.now) c.args.waits.now) c.args.line.now c.loop-place.place c.loop-place.waits _ (subst (λ (n : ℕ). c.loop-place.place < n) c.len-place-end.ensures.count c.loop-place-test.true) (c.enter.ensures ∙ ap (λ (h : ℕ). change never h (entered_at c.args.now) c.loop-place.waits) c.at-hart.ensures.hart) c.loop-place.invariant
