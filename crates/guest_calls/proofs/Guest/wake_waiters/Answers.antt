use Rattle.std.proofs.Common.{◌∙◌, ap}
use Rattle.guest_calls.specs.Guest.{Guest, is_running}
use Rattle.guest_calls.proofs.Rows.{running-made}
use Rattle.guest_calls.proofs.Rousing.{still-woken}
use Rattle.guest_calls.proofs.Guest.wake_waiters.Goals as goal

pub answer_count-requires : goal.answer_count-requires
answer_count-requires c =
    running-made c.rouse.new.self c.args.hart.0
    (ap (λ (g : Guest). is_running g c.args.hart.0) c.rouse.ensures.running ∙ still-woken c.args.self.now c.args.hart.0 _ _ c.requires.running)
