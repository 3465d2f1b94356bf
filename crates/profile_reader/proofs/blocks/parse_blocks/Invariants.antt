use Rattle.std.proofs.Common.{◌≡◌, ◌-◌, None}
use Rattle.profile_reader.specs.Reading.{blocks_at}
use Rattle.profile_reader.specs.Standing.{ahead}
use Rattle.profile_reader.proofs.Turns.{with_blocks, last_in}
use Rattle.profile_reader.proofs.blocks.parse_blocks.Given as goal

abbrev pub invariant-loop-turn : goal.invariant-loop-turn
invariant-loop-turn l = with_blocks l.summaries.items (blocks_at (l.most - l.turn) l.points (last_in l.summaries.items) (ahead l.rest)) ≡ blocks_at l.most l.points None (ahead l.at)
