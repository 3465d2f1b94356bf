use Rattle.std.proofs.Common.{ltb, rules}
use Rattle.std.proofs.lemmas.Bool.{ltb-true, ltb-false}
use Rattle.std.proofs.lemmas.List.Sorted.{IsPartitionPoint-from_clause, IsPartitionedBy-ltb}
use Rattle.progress_points.specs.Points.{Mark}
use Rattle.progress_points.proofs.marks.place_of.Goals as goal

pub returns : goal.returns
returns c =
    let parted = IsPartitionedBy-ltb (λ (m : Mark). m.address) c.args.marks.now c.args.address c.requires in
    let point = IsPartitionPoint-from_clause (λ (m : Mark). ltb m.address c.args.address) c.args.marks.now _ c.partition_point.ensures.partitioned parted (λ a r q k. search rules) in
    (λ k d low high. ltb-true _ _ (point.0 k d low high), λ k d low high. ltb-false _ _ (point.1 k d low high))
