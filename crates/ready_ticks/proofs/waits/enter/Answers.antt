use Rattle.std.proofs.Common.{ap}
use Rattle.ready_ticks.specs.Waits.{entered_at}
use Rattle.ready_ticks.proofs.Changes.{put_read}
use Rattle.ready_ticks.proofs.waits.enter.Goals as goal

pub returns : goal.returns
returns c = put_read c.args.hart.0 c.args.waits.now c.put.new.self (entered_at c.args.now) _ (ap (entered_at c.args.now) c.get-wait.ensures) c.put.ensures
