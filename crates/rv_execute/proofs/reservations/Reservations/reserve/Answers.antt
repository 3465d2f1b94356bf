use Rattle.std.proofs.Common.{arith, ◌∙◌}
use Rattle.rv_execute.proofs.HeldLemmas.{reserved}
use Rattle.rv_execute.proofs.reservations.Reservations.reserve.Goals as goal

pub bounds-self-inside-self-inside : goal.bounds-self-inside-self-inside
bounds-self-inside-self-inside c =
    let few = c.self.invariant.1 in
    let one = reserved c.args.hart.0 c.args.address _ _ _ c.requires (omega arith) (omega arith) c.self.invariant.0 (c.self.view_is ∙ c.end_own.ensures) in
    one.0

pub invariant_of-self : goal.invariant_of-self
invariant_of-self c =
    let few = c.self.invariant.1 in
    let one = reserved c.args.hart.0 c.args.address _ _ _ c.requires (omega arith) (omega arith) c.self.invariant.0 (c.self.view_is ∙ c.end_own.ensures) in
    let free = one.0 in
    (rw one.1 one.2, omega arith)

pub returns : goal.returns
returns c =
    let few = c.self.invariant.1 in
    let one = reserved c.args.hart.0 c.args.address _ _ _ c.requires (omega arith) (omega arith) c.self.invariant.0 (c.self.view_is ∙ c.end_own.ensures) in
    one.1
