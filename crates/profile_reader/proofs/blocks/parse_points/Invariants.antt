use Rattle.std.proofs.Common.{◌≡◌, ◌-◌, None}
use Rattle.profile_reader.specs.Reading.{names_at}
use Rattle.profile_reader.specs.Standing.{ahead}
use Rattle.profile_reader.proofs.Turns.{with_front, last_in}
use Rattle.profile_reader.proofs.blocks.parse_points.Given as goal

abbrev pub invariant-loop-place : goal.invariant-loop-place
invariant-loop-place l = with_front l.names.items (names_at (l.all - l.place) l.place (last_in l.names.items) (ahead l.rest)) ≡ names_at l.all 0 None (ahead l.at)
