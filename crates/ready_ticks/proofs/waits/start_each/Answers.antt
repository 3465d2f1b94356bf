use Rattle.std.proofs.Common.{List, get_or, sym, subst}
use Rattle.machines.specs.Places.{change_each}
use Rattle.ready_ticks.specs.declared.waits.Wait.{Wait}
use Rattle.ready_ticks.specs.Waits.{started_at, never}
use Rattle.ready_ticks.proofs.Changes.{AreFew, few_started, numbers, one_less, none_left}
use Rattle.ready_ticks.proofs.waits.start_each.Goals as goal

pub start-requires-clause-low : goal.start-requires-clause-low
start-requires-clause-low c = c.requires.low c.loop-hart.hart-index (record { 0 = 0 }) c.loop-hart-test.true

pub start-requires-clause-few : goal.start-requires-clause-few
start-requires-clause-few c = c.loop-hart.invariant.1 (get_or c.args.harts.now c.loop-hart.hart-index (record { 0 = 0 })).0

pub loop-hart-preserved : goal.loop-hart-preserved
loop-hart-preserved c = (
  one_less (started_at c.args.now) (change_each never (numbers c.args.harts.now) (λ _. started_at c.args.now) c.args.waits.now) c.args.harts.now c.loop-hart.hart-index c.loop-hart.waits _ c.loop-hart-test.true c.start.ensures c.loop-hart.invariant.0,
  subst (λ (waits : List Wait). AreFew c.args.now waits) (sym c.start.ensures) (few_started c.args.now (get_or c.args.harts.now c.loop-hart.hart-index (record { 0 = 0 })).0 c.loop-hart.waits c.loop-hart.invariant.1),
)

pub returns : goal.returns
returns c =
    none_left (started_at c.args.now) (change_each never (numbers c.args.harts.now) (λ _. started_at c.args.now) c.args.waits.now) c.args.harts.now c.loop-hart.hart-index c.loop-hart.waits c.loop-hart-test.false c.loop-hart.invariant.0
