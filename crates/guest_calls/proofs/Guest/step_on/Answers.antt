use Rattle.std.proofs.Common.{◌≡◌, ◌<◌, ◌∙◌, length, sym, ap, subst, arith, get_or}
use Rattle.std.proofs.lemmas.List.{get_or_read}
use Rattle.rv_execute.specs.Execution.{Setting, setting}
use Rattle.hart_steps.specs.Steps as steps
use Rattle.guest_calls.specs.declared.hart.Hart.{Hart}
use Rattle.guest_calls.specs.Guest.{Guest, no_hart, setting_of}
use Rattle.guest_calls.proofs.Keeping.{kept-set}
use Rattle.guest_calls.proofs.Strides.{moment-setting, quiet-setting, goes_on-each, steps-in_place, setting-in_place, shares-steps}
use Rattle.guest_calls.proofs.Guest.step_on.Goals as goal

pub returns : goal.returns
returns c =
    let s = c.self.inside in
    let g = c.args.self.now in
    let h = c.args.hart.0 in
    let same : length s.harts.items ≡ length g.harts = ap (λ (g : Guest). length g.harts) c.self.view_is in
    let below : h < length s.harts.items = omega arith in
    let made : h < length g.harts = omega arith in
    let at : c.index_mut.result.now ≡ get_or s.harts.items h no_hart = get_or_read _ _ _ below c.index_mut.ensures.value no_hart in
    let start : setting c.index_mut.result.now.state s.memory s.reservations ≡ setting_of g h = setting-in_place s.harts.items s.areas s.memory s.reservations s.queue s.pipes s.input.now s.whole_input.now s.output g h c.index_mut.result.now c.self.view_is at in
    let done = c.step_on.ensures in
    record {
      quiet = λ i within. quiet-setting c.args.marks.now c.args.limit i g h c.args.net made
          (subst (λ (x : Setting). steps.IsQuiet c.args.marks.now c.args.limit h (steps.after i h x) (steps.moment i h x c.args.net)) start (done.quiet i within));
      few = done.few;
      net = done.net ∙ ap (λ (x : Setting). steps.moment c.step_on.result.quiet h x c.args.net) start ∙ sym (moment-setting c.step_on.result.quiet g h c.args.net made);
      next = goes_on-each c.args.marks.now c.args.most c.step_on.result.quiet g h c.step_on.result.net (setting c.index_mut.result.now.state s.memory s.reservations) c.step_on.result.next made start done.next;
      effect = steps-in_place s.harts.items s.areas s.memory c.step_on.new.memory s.reservations c.step_on.new.reservations s.queue s.pipes s.input.now s.whole_input.now s.output g
          h c.step_on.result.quiet c.index_mut.result.now c.step_on.new.state c.step_on.result.step c.self.view_is at below done.effect;
    }

pub invariant_of-self : goal.invariant_of-self
invariant_of-self c =
    let same : length c.self.inside.harts.items ≡ length c.args.self.now.harts = ap (λ (g : Guest). length g.harts) c.self.view_is in
    let below : c.args.hart.0 < length c.self.inside.harts.items = omega arith in
    let at : c.index_mut.result.now ≡ get_or c.self.inside.harts.items c.args.hart.0 no_hart = get_or_read _ _ _ below c.index_mut.ensures.value no_hart in
    let kept = kept-set _ _ _ _ _ _ c.args.hart.0 (record c.index_mut.result.now { state = c.step_on.new.state }) c.self.invariant (ap (λ (x : Hart). x.status) at) in
    record {
      few = kept.few;
      room = kept.room;
      waiting = kept.waiting;
      apart = kept.apart;
      shared =
          shares-steps (record { regions = c.self.inside.areas; code = c.self.inside.code }) c.args.hart.0 c.step_on.result.quiet (setting c.index_mut.result.now.state c.self.inside.memory c.self.inside.reservations) c.step_on.new.state c.step_on.new.memory c.step_on.new.reservations c.step_on.result.step
          c.step_on.ensures.effect c.self.invariant.shared;
    }
