use Rattle.std.proofs.Common.{sym}
use Rattle.timing_state.proofs.Maps.{change_within}
use Rattle.timing_state.proofs.places.set_at.Goals as goal

pub returns-clause-items : goal.returns-clause-items
returns-clause-items g c fresh = sym (change_within fresh c.args.index c.args.value c.args.items.now.items c.requires.held)
