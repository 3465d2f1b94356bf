use Rattle.std.proofs.Common.{ap}
use Rattle.guest_calls.specs.Guest.{Guest}
use Rattle.guest_calls.proofs.PipeCalls.{read_here}
use Rattle.guest_calls.proofs.Guest.read_pipe.Goals as goal

pub read_now-requires-clause-few : goal.read_now-requires-clause-few
read_now-requires-clause-few c =
    read_here c.args.self.now c.args.hart.0 c.end_number-number.result c.argument-count.result c.in-Now.ready c.self.inside.pipes (ap (λ (g : Guest). g.pipes) c.self.view_is) c.end_number-number.ensures c.requires.reads c.in-Now.ensures.answer
