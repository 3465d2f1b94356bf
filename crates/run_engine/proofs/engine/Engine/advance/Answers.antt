use Rattle.std.proofs.Common.{ap, is_some, ◌∙◌}
use Rattle.timed_guest.proofs.Law.{timed_low}
use Rattle.run_engine.proofs.engine.Engine.advance.Goals as goal

pub is_sleeping-requires : goal.is_sleeping-requires
is_sleeping-requires c =
    let s = c.args.self.now in
    let h = c.first_turn-turn.result.hart.0 in
    (timed_low s.guest h c.requires.steady.orderly (c.requires.steady.timed h ∙ ap is_some c.first_turn-turn.ensures.due)).0
