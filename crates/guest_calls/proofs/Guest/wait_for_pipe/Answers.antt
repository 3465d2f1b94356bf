use Rattle.std.proofs.Common.{◌<◌, ◌≤◌, ◌∙◌, ap, arith, length, refl}
use Rattle.guest_pipes.specs.declared.waiters.PipeWaiter.{PipeWaiter}
use Rattle.guest_pipes.specs.Pipes.{this_end}
use Rattle.guest_calls.specs.Guest.{Guest, is_running}
use Rattle.guest_calls.proofs.Rows.{made-running}
use Rattle.guest_calls.proofs.Waiting.{end_added}
use Rattle.guest_calls.proofs.Keeping.{all-others, others_second, others-kept, kept-added}
use Rattle.guest_calls.proofs.Guest.wait_for_pipe.Goals as goal

pub wait-requires-clause-apart : goal.wait-requires-clause-apart
wait-requires-clause-apart c =
    all-others (λ (w : PipeWaiter). w.hart.0) c.args.hart.0 c.self.inside.pipes.waiters
    (others_second c.self.inside.queue c.self.inside.pipes.waiters c.args.hart.0
    (others-kept _ _ _ _ _ _ c.args.hart.0 c.self.invariant (ap (λ (g : Guest). is_running g c.args.hart.0) c.self.view_is ∙ c.requires.running)))

pub wait-requires-clause-low : goal.wait-requires-clause-low
wait-requires-clause-low c =
    let made : c.args.hart.0 < length c.self.inside.harts.items = made-running c.self.inside.harts.items c.args.hart.0 (ap (λ (g : Guest). is_running g c.args.hart.0) c.self.view_is ∙ c.requires.running) in
    let few : length c.self.inside.harts.items ≤ 256 = c.self.invariant.few in
    omega arith

pub invariant_of-self : goal.invariant_of-self
invariant_of-self c =
    let w : PipeWaiter = record { at = this_end c.end_number-number.result c.self.inside.pipes; hart = c.args.hart } in
    let runs = ap (λ (g : Guest). is_running g c.args.hart.0) c.self.view_is ∙ c.requires.running in
    rw c.wait.ensures
    (kept-added _ _ _ _ _ _ c.args.hart.0 _ c.self.inside.queue _ c.self.invariant runs refl (end_added c.self.inside.queue c.self.inside.pipes.waiters w c.self.invariant.apart (others-kept _ _ _ _ _ _ c.args.hart.0 c.self.invariant runs)))
