use Rattle.std.proofs.Common.{◌≡◌, ◌-◌}
use Rattle.profile_reader.specs.Reading.{counts_at}
use Rattle.profile_reader.specs.Standing.{ahead}
use Rattle.profile_reader.proofs.Turns.{with_front}
use Rattle.profile_reader.proofs.blocks.parse_counts.Given as goal

abbrev pub invariant-loop-place : goal.invariant-loop-place
invariant-loop-place l = with_front l.counts.items (counts_at (l.all - l.place) l.place (ahead l.rest)) ≡ counts_at l.all 0 (ahead l.at)
