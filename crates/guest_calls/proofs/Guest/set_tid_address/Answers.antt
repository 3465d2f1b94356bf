use Rattle.std.proofs.Common.{◌≡◌, ◌<◌, length, ap, arith}
use Rattle.std.proofs.lemmas.List.{get_or_read}
use Rattle.guest_calls.specs.declared.hart.Hart.{Hart}
use Rattle.guest_calls.specs.Guest.{Guest, no_hart}
use Rattle.guest_calls.proofs.Keeping.{kept-set}
use Rattle.guest_calls.proofs.Guest.set_tid_address.Goals as goal

pub invariant_of-self : goal.invariant_of-self
invariant_of-self c =
    let same : length c.self.inside.harts.items ≡ length c.args.self.now.harts = ap (λ (g : Guest). length g.harts) c.self.view_is in
    let below : c.args.hart.0 < length c.self.inside.harts.items = omega arith in
    kept-set _ _ _ _ _ _ c.args.hart.0 (record c.index_mut.result.now { clear = c.argument-address.result }) c.self.invariant
    (ap (λ (x : Hart). x.status) (get_or_read _ _ _ below c.index_mut.ensures.value no_hart))
