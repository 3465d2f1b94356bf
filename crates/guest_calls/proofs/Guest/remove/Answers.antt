use Rattle.std.proofs.Common.{◌∙◌, ap}
use Rattle.guest_calls.specs.Guest.{Guest, is_running}
use Rattle.guest_calls.proofs.Keeping.{kept-changed}
use Rattle.guest_calls.proofs.Guest.remove.Goals as goal

pub invariant_of-self : goal.invariant_of-self
invariant_of-self c =
    kept-changed _ _ _ _ _ _ c.args.hart.0 c.leave.new.self c.self.invariant (ap (λ (g : Guest). is_running g c.args.hart.0) c.self.view_is ∙ c.requires)
