use Rattle.std.proofs.Common.{leb, arith, rules}
use Rattle.std.proofs.lemmas.List.Sorted.{IsPartitionPoint-from_clause, IsPartitionedBy-leb}
use Rattle.line_index.specs.declared.changes.LineChange.{LineChange}
use Rattle.line_index.proofs.Searching.{IsPlace, lines_by_place, no_line_passed, line_passed}
use Rattle.line_index.proofs.changes.line_at.Goals as goal

pub returns-then-passed-eq0 : goal.returns-then-passed-eq0
returns-then-passed-eq0 c =
    let parted = IsPartitionedBy-leb (λ (d : LineChange). d.address) c.args.changes.now c.args.address (lines_by_place c.args.changes.now c.requires) in
    let point : IsPlace c.args.address c.args.changes.now c.partition_point-passed.result = IsPartitionPoint-from_clause (λ (d : LineChange). leb d.address c.args.address) _ _ c.partition_point-passed.ensures.partitioned parted (λ a r q k. search rules) in
    no_line_passed c.args.changes.now c.args.address c.partition_point-passed.result (omega arith) point

pub returns-else-passed-eq0 : goal.returns-else-passed-eq0
returns-else-passed-eq0 c =
    let parted = IsPartitionedBy-leb (λ (d : LineChange). d.address) c.args.changes.now c.args.address (lines_by_place c.args.changes.now c.requires) in
    let point : IsPlace c.args.address c.args.changes.now c.partition_point-passed.result = IsPartitionPoint-from_clause (λ (d : LineChange). leb d.address c.args.address) _ _ c.partition_point-passed.ensures.partitioned parted (λ a r q k. search rules) in
    line_passed c.args.changes.now c.args.address c.partition_point-passed.result _ (omega arith) c.partition_point-passed.ensures.bound point
