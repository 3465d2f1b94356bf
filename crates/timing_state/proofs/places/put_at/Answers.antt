use Rattle.std.proofs.Common.{◌<◌, length, arith, sym}
use borrow.Author.Tests.{ltb-true}
use Rattle.timing_state.proofs.Maps.{change_within}
use Rattle.timing_state.proofs.places.put_at.Goals as goal

pub returns-then-is_held-clause-items : goal.returns-then-is_held-clause-items
returns-then-is_held-clause-items g c =
    let below : c.args.index < length c.args.items.now.items = omega (arith, ltb-true) in
    sym (change_within c.args.fresh c.args.index c.args.value c.args.items.now.items below)
