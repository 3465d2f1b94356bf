use Rattle.std.proofs.Common.{arith}
use Rattle.guest_calls.proofs.Rousing.{runs-none, runs-below, runs-more, runs-all}
use Rattle.guest_calls.proofs.threads.run_each.Goals as goal

pub loop-hart-init : goal.loop-hart-init
loop-hart-init c = runs-none c.args.woken.now c.args.harts.now

pub bounds-harts-hart : goal.bounds-harts-hart
bounds-harts-hart c = runs-below c.args.woken.now c.loop-hart.hart-index c.args.harts.now c.loop-hart.harts _ c.loop-hart.invariant c.requires (omega arith)

pub loop-hart-preserved : goal.loop-hart-preserved
loop-hart-preserved c =
    runs-more c.args.woken.now c.loop-hart.hart-index c.args.harts.now c.loop-hart.harts _ _ c.loop-hart.invariant (omega arith)
    (runs-below c.args.woken.now c.loop-hart.hart-index c.args.harts.now c.loop-hart.harts _ c.loop-hart.invariant c.requires (omega arith))

pub returns : goal.returns
returns c = runs-all c.args.woken.now c.loop-hart.hart-index c.args.harts.now c.loop-hart.harts c.loop-hart.invariant (omega arith)
