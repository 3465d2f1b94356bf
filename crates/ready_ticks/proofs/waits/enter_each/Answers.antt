use Rattle.machines.specs.Places.{change_each}
use Rattle.ready_ticks.specs.Waits.{entered_at, never}
use Rattle.ready_ticks.proofs.Changes.{numbers, one_less, none_left}
use Rattle.ready_ticks.proofs.waits.enter_each.Goals as goal

pub enter-requires : goal.enter-requires
enter-requires c = record { low = c.requires.low c.loop-hart.hart-index (record { 0 = 0 }) c.loop-hart-test.true }

pub loop-hart-preserved : goal.loop-hart-preserved
loop-hart-preserved c =
    one_less (entered_at c.args.now) (change_each never (numbers c.args.harts.now) (λ _. entered_at c.args.now) c.args.waits.now) c.args.harts.now c.loop-hart.hart-index c.loop-hart.waits _ c.loop-hart-test.true c.enter.ensures c.loop-hart.invariant

pub returns : goal.returns
returns c =
    none_left (entered_at c.args.now) (change_each never (numbers c.args.harts.now) (λ _. entered_at c.args.now) c.args.waits.now) c.args.harts.now c.loop-hart.hart-index c.loop-hart.waits c.loop-hart-test.false c.loop-hart.invariant
