use Rattle.std.proofs.Common.{◌≡◌, replicate, []}
use Rattle.zero_bytes.specs.Pieces.{filled}
use Rattle.zero_bytes.proofs.Bytes.new.Given as goal

abbrev pub invariant-loop : goal.invariant-loop
invariant-loop l = l.pieces.items ≡ replicate l.counter (filled 262144 [])
