use Rattle.std.proofs.Common.{List, map, take, subst}
use Rattle.std.proofs.lemmas.List.{take_all}
use Rattle.coz_types.specs.declared.HartId.{HartId}
use Rattle.hart_states.specs.declared.change.Change.{Change}
use Rattle.hart_turns.specs.Turns.{Tell, with_each}
use Rattle.hart_turns.proofs.Noting.{one_more, order_each}
use Rattle.hart_turns.proofs.turns.change_each.Goals as goal

pub loop-hart-init : goal.loop-hart-init
loop-hart-init c = λ rooms past told order. told

pub loop-hart-preserved : goal.loop-hart-preserved
loop-hart-preserved c = λ rooms past told order.
    subst (λ (cs : List Change). Tell rooms cs c.change.new.turns) (one_more c.args.retirement c.args.activity c.args.harts.now c.loop-hart.hart-index past c.loop-hart-test.true)
    (c.change.ensures rooms (with_each c.args.retirement c.args.activity (map (λ hart. hart.0) (take c.loop-hart.hart-index c.args.harts.now)) past)
    (c.loop-hart.invariant rooms past told order)
    (order_each c.args.retirement c.args.activity (map (λ hart. hart.0) (take c.loop-hart.hart-index c.args.harts.now)) past order))

pub returns : goal.returns
returns c = λ rooms past told order.
    subst (λ (hs : List HartId). Tell rooms (with_each c.args.retirement c.args.activity (map (λ hart. hart.0) hs) past) c.loop-hart.turns)
    (take_all c.loop-hart.hart-index c.args.harts.now c.loop-hart-test.false) (c.loop-hart.invariant rooms past told order)
