use Rattle.std.proofs.Common.{◌≡◌, ◌≤◌, ◌-◌, ◌+◌, ◌++◌}
use Rattle.byte_write.specs.Numbers.{groups}
use Rattle.byte_write.proofs.leb.push_groups.Given as goal

abbrev pub invariant-loop : goal.invariant-loop
invariant-loop l = (l.counter ≤ l.count) × (l.out.items ++ groups (l.count - l.counter + 1) l.left ≡ l.initial.out.items ++ groups l.count l.n)
