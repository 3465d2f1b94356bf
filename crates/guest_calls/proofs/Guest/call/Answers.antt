use Rattle.std.proofs.Common.{◌∙◌, ap}
use Rattle.machines.specs.Guest.{Retirement}
use Rattle.guest_calls.specs.Guest.{Guest, making}
use Rattle.guest_calls.proofs.Keeping.{orderly}
use Rattle.guest_calls.proofs.Law.{call_of-made}
use Rattle.guest_calls.proofs.Guest.call.Goals as goal

pub returns-clause-made : goal.returns-clause-made
returns-clause-made c =
    ap (λ (r : Retirement Guest). making r.guest) c.call_by_number.ensures
    ∙ call_of-made c.args.self.now c.args.hart.0 c.args.net (orderly _ _ _ _ _ c.self.view_is c.self.invariant) c.requires.running
