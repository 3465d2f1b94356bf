use Rattle.std.proofs.Common.{zero, suc, ap, ◌∙◌}
use Rattle.machines.specs.Guest.{Retirement}
use Rattle.guest_calls.specs.Guest.{Guest, making, is_running}
use Rattle.guest_calls.specs.Retire.{Stepped, next_of}
use Rattle.guest_calls.proofs.Keeping.{orderly}
use Rattle.guest_calls.proofs.Law.{retire-made}
use Rattle.guest_calls.proofs.Steps.{retire-after, call-same}
use Rattle.guest_calls.proofs.Strides.{running-after}
use Rattle.guest_calls.proofs.Guest.retire.Goals as goal

pub returns : goal.returns
returns c =
    let effect = c.follow.ensures ∙ retire-after c.args.self.now c.step-step.new.self c.args.hart.0 c.args.net c.step-step.result c.step-step.ensures in
    record {
      effect = effect;
      made = ap (λ (r : Retirement Guest). making r.guest) effect ∙ retire-made c.args.self.now c.args.hart.0 c.args.net (orderly _ _ _ _ _ c.self.view_is c.self.invariant) c.requires.running;
    }

pub follow-requires : goal.follow-requires
follow-requires c = record {
  running = ap (λ (x : Stepped). is_running x.guest c.args.hart.0) c.step-step.ensures ∙ running-after (suc zero) c.args.self.now c.args.hart.0 c.requires.running;
  started = c.requires.started;
  call = λ is.
      let there = call-same c.args.self.now c.step-step.new.self c.args.hart.0 c.step-step.result c.step-step.ensures is in
      ap (λ (g : Guest). next_of g c.args.hart.0) there.same ∙ there.ecall;
}
