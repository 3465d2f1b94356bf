use Rattle.std.proofs.Common.{◌∙◌, arith}
use Rattle.guest_calls.proofs.Clocks.{clock_read}
use Rattle.guest_calls.proofs.Guest.clock_gettime.Goals as goal

pub returns-in-Ok : goal.returns-in-Ok
returns-in-Ok c =
    c.answer.ensures
    ∙ clock_read c.args.self.now c.store_span.new.self c.args.hart.0 c.args.net c.argument.result c.argument-address.result c.clock_at.result
    c.argument.ensures (omega arith) c.argument-address.ensures c.clock_at.ensures c.in-Ok.ensures.0 c.in-Ok.ensures.1
