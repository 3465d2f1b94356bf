use Rattle.std.proofs.Common.{◌∙◌, ap}
use Rattle.guest_calls.specs.Guest.{Guest, is_sleeping}
use Rattle.guest_calls.proofs.Keeping.{kept-woken_up}
use Rattle.guest_calls.proofs.Guest.wake.Goals as goal

pub invariant_of-self : goal.invariant_of-self
invariant_of-self c =
    kept-woken_up _ _ _ _ _ _ c.args.hart.0 _ c.self.invariant (ap (λ (g : Guest). is_sleeping g c.args.hart.0) c.self.view_is ∙ c.requires)
