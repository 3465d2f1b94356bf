use Rattle.std.proofs.Common.{◌≡◌, ◌++◌, drop, flat_map}
use Rattle.byte_write.specs.Numbers.{double}
use Rattle.byte_write.proofs.numbers.push_doubles.Given as goal

abbrev pub invariant-loop-n : goal.invariant-loop-n
invariant-loop-n l = l.out.items ++ flat_map double (drop l.n-index l.numbers) ≡ l.initial.out.items ++ flat_map double l.numbers
