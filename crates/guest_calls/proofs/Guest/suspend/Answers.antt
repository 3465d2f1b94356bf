use Rattle.std.proofs.Common.{◌∙◌, ap}
use Rattle.guest_futex.specs.Waiters.{Waiter}
use Rattle.guest_calls.specs.declared.hart.Hart.{Hart}
use Rattle.guest_calls.specs.Guest.{Guest, is_running}
use Rattle.guest_calls.proofs.Keeping.{all-others, others_first, others-kept, kept-with_waiter}
use Rattle.guest_calls.proofs.Guest.suspend.Goals as goal

pub wait-requires-clause-apart : goal.wait-requires-clause-apart
wait-requires-clause-apart c =
    all-others (λ (w : Waiter). w.hart) c.args.hart.0 c.self.inside.queue
    (others_first c.self.inside.queue c.self.inside.pipes.waiters c.args.hart.0
    (others-kept _ _ _ _ _ _ c.args.hart.0 c.self.invariant (ap (λ (g : Guest). is_running g c.args.hart.0) c.self.view_is ∙ c.requires)))

pub invariant_of-self : goal.invariant_of-self
invariant_of-self c =
    rw c.wait.ensures
    (kept-with_waiter _ _ _ _ _ _ c.args.hart.0 c.args.address c.wait-2.new.self c.self.invariant (ap (λ (g : Guest). is_running g c.args.hart.0) c.self.view_is ∙ c.requires) (ap (λ (x : Hart). x.status) c.wait-2.ensures))
