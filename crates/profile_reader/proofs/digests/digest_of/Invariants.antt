use Rattle.std.proofs.Common.{◌≡◌, ◌*◌, take, length}
use Rattle.profile_reader.specs.Reading.{bytes_in}
use Rattle.profile_reader.proofs.digests.digest_of.Given as goal

abbrev pub invariant-loop-i : goal.invariant-loop-i
invariant-loop-i l = (take l.i l.bytes ≡ bytes_in (take (2 * l.i) l.text)) × (length l.bytes ≡ 32)
