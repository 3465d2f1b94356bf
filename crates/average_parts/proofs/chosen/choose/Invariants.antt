use Rattle.std.proofs.Common.{◌≡◌, ◌++◌}
use Rattle.average_parts.specs.Likeness.{seeds_of, bases_of, exact_of}
use Rattle.average_parts.proofs.chosen.choose.Given as goal

-- the profiles so far
abbrev pub invariant-loop-part : goal.invariant-loop-part
invariant-loop-part l = record {
  seeds : l.seeds.items ≡ seeds_of l.several l.yielded;
  bases : l.bases.items ≡ bases_of l.several l.yielded;
  exact : l.exact ≡ exact_of l.several l.yielded;
  all : l.yielded ++ l.part-iterator.rest.items ≡ l.initial.part-iterator.rest.items;
}
