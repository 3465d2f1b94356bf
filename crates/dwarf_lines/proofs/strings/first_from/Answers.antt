use Rattle.std.proofs.Common.{ℕ, nat_lt, arith, rules}
use Rattle.std.proofs.lemmas.List.Sorted.{IsPartitionPoint-from_clause, IsPartitionedBy-ltb}
use Rattle.dwarf_lines.proofs.Zeros.{IsPoint, none_left, some_left}
use Rattle.dwarf_lines.proofs.strings.first_from.Goals as goal

pub returns-then-before-zeros : goal.returns-then-before-zeros
returns-then-before-zeros c =
    let parted = IsPartitionedBy-ltb (λ (z : ℕ). z) c.args.zeros.now c.args.place c.requires in
    let point : IsPoint c.args.place c.args.zeros.now c.partition_point-before.result = IsPartitionPoint-from_clause (λ (z : ℕ). nat_lt z c.args.place) _ _ c.partition_point-before.ensures.partitioned parted (λ a r q k. search rules) in
    some_left c.args.zeros.now c.args.place c.partition_point-before.result 0 (omega arith) point

pub returns-else-before-zeros : goal.returns-else-before-zeros
returns-else-before-zeros c =
    let parted = IsPartitionedBy-ltb (λ (z : ℕ). z) c.args.zeros.now c.args.place c.requires in
    let point : IsPoint c.args.place c.args.zeros.now c.partition_point-before.result = IsPartitionPoint-from_clause (λ (z : ℕ). nat_lt z c.args.place) _ _ c.partition_point-before.ensures.partitioned parted (λ a r q k. search rules) in
    none_left c.args.zeros.now c.args.place c.partition_point-before.result (omega arith) point
