use Rattle.std.proofs.Common.{◌∙◌, ap, take}
use Rattle.guest_pipes.specs.declared.ends.PipeEnd.TheVariants.{Writing}
use Rattle.guest_pipes.specs.Pipes.{held, taken, woken_for}
use Rattle.guest_calls.specs.Guest.{Guest, is_running, with_stored}
use Rattle.guest_calls.proofs.Rows.{running-made}
use Rattle.guest_calls.proofs.Rousing.{still-piped}
use Rattle.guest_calls.proofs.Guest.read_now.Goals as goal

pub answer_count-requires : goal.answer_count-requires
answer_count-requires c =
    running-made c.read_bytes.new.self c.args.hart.0
    (ap (λ (g : Guest). is_running g c.args.hart.0) c.in-Ok.ensures.taken.1 ∙ still-piped (with_stored c.argument-address.result (take c.args.count (held c.end_number-number.result c.args.self.now.pipes)) c.args.self.now) (taken c.end_number-number.result c.args.count c.args.self.now.pipes) (woken_for Writing c.end_number-number.result c.args.self.now.pipes) c.args.hart.0 c.requires.running)
