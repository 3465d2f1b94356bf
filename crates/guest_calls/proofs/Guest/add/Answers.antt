use Rattle.std.proofs.Common.{◌≡◌, ◌<◌, length, ap, arith}
use Rattle.guest_calls.specs.Guest.{Guest}
use Rattle.guest_calls.proofs.Keeping.{kept-append}
use Rattle.guest_calls.proofs.Guest.add.Goals as goal

pub unreachable-requires : goal.unreachable-requires
unreachable-requires c =
    let same : length c.self.inside.harts.items ≡ length c.args.self.now.harts = ap (λ (g : Guest). length g.harts) c.self.view_is in
    let held = c.self.inside.harts.ok.0 in
    let room = c.self.invariant.room in
    let full = c.in_default.ensures.full in
    let few = c.requires in
    omega arith

pub invariant_of-self : goal.invariant_of-self
invariant_of-self c =
    let same : length c.self.inside.harts.items ≡ length c.args.self.now.harts = ap (λ (g : Guest). length g.harts) c.self.view_is in
    let few = c.requires in
    let below : length c.self.inside.harts.items < 256 = omega arith in
    rw c.in-Ok.ensures.items (kept-append _ _ _ _ _ _ c.args.hart _ c.self.invariant below c.in-Ok.ensures.capacity)
