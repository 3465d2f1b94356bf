use Rattle.std.specs.BTreeMap.{get}
use Rattle.std.specs.Ordering.{nat_cmp}
use Rattle.elf_symbols.specs.Code.{AreEnds}
use Rattle.elf_symbols.proofs.code.ends_of.Given as goal

abbrev pub invariant-loop-area : goal.invariant-loop-area
invariant-loop-area l = AreEnds l.areas l.area-index (get nat_cmp l.ends)
