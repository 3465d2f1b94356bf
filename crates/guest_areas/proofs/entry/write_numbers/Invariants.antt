use Rattle.std.proofs.Common.{◌≡◌, ◌+◌, ◌*◌, drop}
use Rattle.guest_areas.specs.Entry.{with_numbers}
use Rattle.guest_areas.proofs.entry.write_numbers.Given as goal

abbrev pub invariant-loop-i : goal.invariant-loop-i
invariant-loop-i l = record {
  written : with_numbers (l.address + 8 * l.i) (drop l.i l.numbers) l.memory ≡ with_numbers l.address l.numbers l.fn.memory;
  rights : l.memory.rights ≡ l.fn.memory.rights;
}
