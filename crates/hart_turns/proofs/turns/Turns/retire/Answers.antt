use Rattle.std.proofs.Common.{map}
use Rattle.hart_states.specs.declared.change.Activity.TheVariants.{Ready}
use Rattle.hart_turns.specs.Turns.{next_activity, with_each, with_own}
use Rattle.hart_turns.proofs.Noting.{order_each, order_own}
use Rattle.hart_turns.proofs.turns.Turns.retire.Goals as goal

pub returns : goal.returns
returns c = λ rooms past told order.
    let r = c.args.retirement in
    let first = with_own r (next_activity r.fate r.own) past in
    let first_order = order_own r (next_activity r.fate r.own) past order in
    let hs = map (λ hart. hart.0) c.args.others.now in
    c.change_each-2.ensures rooms (with_each r Ready hs first) (c.change_each.ensures rooms first (c.change_own.ensures rooms past told order) first_order) (order_each r Ready hs first first_order)
