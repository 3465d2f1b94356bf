use Rattle.guest_calls.proofs.Rows.{running-made}
use Rattle.guest_calls.proofs.Rousing.{made-cloned}
use Rattle.guest_calls.proofs.Guest.clone.Goals as goal

pub answer_count-requires : goal.answer_count-requires
answer_count-requires c =
    made-cloned c.args.self.now c.make_child.new.self c.args.hart.0 c.make_child.ensures (running-made c.args.self.now c.args.hart.0 c.requires.running)
