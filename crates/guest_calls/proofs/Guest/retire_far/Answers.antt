use Rattle.std.proofs.Common.{suc, ap, ◌∙◌}
use Rattle.machines.specs.Guest.{Retirement}
use Rattle.guest_calls.specs.Guest.{Guest, making, is_running}
use Rattle.guest_calls.specs.Retire.{Stepped, next_of}
use Rattle.guest_calls.specs.Quiet.{after_steps}
use Rattle.guest_calls.proofs.Keeping.{orderly}
use Rattle.guest_calls.proofs.Law.{retire-made}
use Rattle.guest_calls.proofs.Rows.{running-made}
use Rattle.guest_calls.proofs.Steps.{retire-after, call-same}
use Rattle.guest_calls.proofs.Strides.{running-after, orderly-after, making-after}
use Rattle.guest_calls.proofs.Guest.retire_far.Goals as goal

pub step_on-done-requires-clause-made : goal.step_on-done-requires-clause-made
step_on-done-requires-clause-made c = running-made c.args.self.now c.args.hart.0 c.requires.running

pub returns : goal.returns
returns c =
    let g = c.args.self.now in
    let h = c.args.hart.0 in
    let done = c.step_on-done.result in
    let before = after_steps done.quiet g h in
    let made = running-made g h c.requires.running in
    let effect = c.follow-fate.ensures ∙ retire-after before c.step_on-done.new.self h done.net done.step c.step_on-done.ensures.effect in
    record {
      quiet = c.step_on-done.ensures.quiet;
      few = c.step_on-done.ensures.few;
      net = c.step_on-done.ensures.net;
      next = c.step_on-done.ensures.next;
      effect = effect;
      made = ap (λ (r : Retirement Guest). making r.guest) effect
          ∙ retire-made before h done.net (orderly-after done.quiet g h made (orderly _ _ _ _ _ c.self.view_is c.self.invariant)) (running-after done.quiet g h c.requires.running)
          ∙ making-after done.quiet g h made;
    }

pub follow-fate-requires : goal.follow-fate-requires
follow-fate-requires c =
    let g = c.args.self.now in
    let h = c.args.hart.0 in
    let done = c.step_on-done.result in
    record {
      running = ap (λ (x : Stepped). is_running x.guest h) c.step_on-done.ensures.effect ∙ running-after (suc done.quiet) g h c.requires.running;
      started = c.requires.started;
      call = λ is.
          let there = call-same (after_steps done.quiet g h) c.step_on-done.new.self h done.step c.step_on-done.ensures.effect is in
          ap (λ (x : Guest). next_of x h) there.same ∙ there.ecall;
    }
