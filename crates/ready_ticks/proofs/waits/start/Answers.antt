use Rattle.std.proofs.Common.{ap, ℕ, None}
use Rattle.ready_ticks.specs.declared.waits.Wait.{Wait}
use Rattle.ready_ticks.specs.Waits.{started_at}
use Rattle.ready_ticks.proofs.Changes.{put_read}
use Rattle.ready_ticks.proofs.waits.start.Goals as goal

pub returns : goal.returns
returns c = put_read c.args.hart.0 c.args.waits.now c.put.new.self (started_at c.args.now) _ (ap (λ (n : ℕ). let w : Wait = record { ticks = n; since = None } in w) c.ticks_at.ensures) c.put.ensures
