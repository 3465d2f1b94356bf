use Rattle.std.proofs.Common.{ap, is_some, ◌∙◌}
use Rattle.timed_guest.specs.Guest.{pc_of}
use Rattle.timed_guest.proofs.Law.{timed_low}
use Rattle.run_engine.proofs.Keys.{least_one}
use Rattle.run_engine.proofs.engine.Engine.address_due.Goals as goal

pub pc-requires : goal.pc-requires
pc-requires c =
    let s = c.args.self.now in
    let h = c.first_turn-turn.result.hart.0 in
    (timed_low s.guest h c.requires.orderly (c.requires.timed h ∙ ap is_some c.first_turn-turn.ensures.due)).0

pub returns : goal.returns
returns c = λ hart least. c.pc.ensures ∙ ap (pc_of c.args.self.now.guest) (least_one c.args.self.now.schedule c.first_turn-turn.result.hart.0 hart c.first_turn-turn.ensures.first least)
