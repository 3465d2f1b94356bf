use Rattle.std.proofs.Common.{◌∙◌, ap}
use Rattle.guest_memory.specs.Memory.{bytes_at}
use Rattle.guest_pipes.specs.declared.ends.PipeEnd.TheVariants.{Reading}
use Rattle.guest_pipes.specs.Pipes.{put, woken_for}
use Rattle.guest_calls.specs.Guest.{Guest, is_running, memory_of}
use Rattle.guest_calls.proofs.Rows.{running-made}
use Rattle.guest_calls.proofs.Rousing.{still-piped}
use Rattle.guest_calls.proofs.Guest.write_now.Goals as goal

pub answer_count-requires : goal.answer_count-requires
answer_count-requires c =
    running-made c.put_bytes.new.self c.args.hart.0
    (ap (λ (g : Guest). is_running g c.args.hart.0) c.put_bytes.ensures.put ∙ still-piped c.args.self.now (put c.end_number-number.result (bytes_at (memory_of c.args.self.now) c.argument-address.result c.args.count) c.args.self.now.pipes) (woken_for Reading c.end_number-number.result c.args.self.now.pipes) c.args.hart.0 c.requires.running)
