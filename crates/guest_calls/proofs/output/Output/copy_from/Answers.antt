use Rattle.std.proofs.Common.{◌≡◌, length, arith, sym, ap, ◌∙◌}
use Rattle.guest_calls.specs.Output.{Written}
use Rattle.guest_calls.proofs.output.Output.copy_from.Goals as goal

pub unreachable-requires : goal.unreachable-requires
unreachable-requires c =
    let given = ap length c.deref.ensures.value in
    let few = c.other.invariant.0 in
    let limits : c.self.inside.limit ≡ c.other.inside.limit =
    ap (λ (w : Written). w.limit) c.self.view_is ∙ c.requires ∙ sym (ap (λ (w : Written). w.limit) c.other.view_is) in
    let many = c.self.invariant.2 in
    let room = c.clear.ensures.capacity in
    let none = c.clear.ensures.len in
    let full = c.in_default.ensures.full in
    omega arith
