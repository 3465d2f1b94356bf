use Rattle.std.proofs.Common.{◌≡◌, ◌<◌, length, ap, arith, get_or}
use Rattle.std.proofs.lemmas.List.{get_or_read}
use Rattle.rv_execute.specs.Execution.{setting}
use Rattle.guest_calls.specs.declared.hart.Hart.{Hart}
use Rattle.guest_calls.specs.Guest.{Guest, no_hart}
use Rattle.guest_calls.proofs.Keeping.{kept-set}
use Rattle.guest_calls.proofs.Strides.{steps-in_place, shares-steps}
use Rattle.guest_calls.proofs.Guest.step.Goals as goal

pub returns : goal.returns
returns c =
    let s = c.self.inside in
    let g = c.args.self.now in
    let h = c.args.hart.0 in
    let same : length s.harts.items ≡ length g.harts = ap (λ (g : Guest). length g.harts) c.self.view_is in
    let below : h < length s.harts.items = omega arith in
    let at : c.index_mut.result.now ≡ get_or s.harts.items h no_hart = get_or_read _ _ _ below c.index_mut.ensures.value no_hart in
    steps-in_place s.harts.items s.areas s.memory c.step_at.new.memory s.reservations c.step_at.new.reservations s.queue s.pipes s.input.now s.whole_input.now s.output g
    h 0 c.index_mut.result.now c.step_at.new.state c.step_at.result c.self.view_is at below c.step_at.ensures

pub invariant_of-self : goal.invariant_of-self
invariant_of-self c =
    let same : length c.self.inside.harts.items ≡ length c.args.self.now.harts = ap (λ (g : Guest). length g.harts) c.self.view_is in
    let below : c.args.hart.0 < length c.self.inside.harts.items = omega arith in
    let at : c.index_mut.result.now ≡ get_or c.self.inside.harts.items c.args.hart.0 no_hart = get_or_read _ _ _ below c.index_mut.ensures.value no_hart in
    let kept = kept-set _ _ _ _ _ _ c.args.hart.0 (record c.index_mut.result.now { state = c.step_at.new.state }) c.self.invariant (ap (λ (x : Hart). x.status) at) in
    record {
      few = kept.few;
      room = kept.room;
      waiting = kept.waiting;
      apart = kept.apart;
      shared =
          shares-steps (record { regions = c.self.inside.areas; code = c.self.inside.code }) c.args.hart.0 0 (setting c.index_mut.result.now.state c.self.inside.memory c.self.inside.reservations) c.step_at.new.state c.step_at.new.memory c.step_at.new.reservations c.step_at.result
          c.step_at.ensures c.self.invariant.shared;
    }
