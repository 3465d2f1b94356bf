use Rattle.std.proofs.Common.{◌≡◌, ◌++◌, length}
use Rattle.profile_join.specs.Parts.{numbered}
use Rattle.profile_join.proofs.joining.numbered.Given as goal

abbrev pub invariant-loop-part : goal.invariant-loop-part
invariant-loop-part l = record {
  numbered : l.numbered.items ≡ numbered 0 l.yielded;
  number : l.number ≡ length l.yielded;
  parts : l.yielded ++ l.part-iterator.rest.items ≡ l.initial.part-iterator.rest.items;
}
