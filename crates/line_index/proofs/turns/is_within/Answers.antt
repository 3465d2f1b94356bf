use Rattle.std.proofs.Common.{ℕ, leb, rules}
use Rattle.std.proofs.lemmas.List.Sorted.{IsPartitionPoint-from_clause, IsPartitionedBy-leb}
use Rattle.line_index.proofs.Turning.{IsTurn, odd_turns, rises_by_place}
use Rattle.line_index.proofs.turns.is_within.Goals as goal

pub returns : goal.returns
returns c =
    let parted = IsPartitionedBy-leb (λ (x : ℕ). x) c.args.turns.now c.args.address (rises_by_place c.args.turns.now 0 c.requires) in
    let point : IsTurn c.args.address c.args.turns.now c.partition_point.result = IsPartitionPoint-from_clause (λ (x : ℕ). leb x c.args.address) _ _ c.partition_point.ensures.partitioned parted (λ a r q k. search rules) in
    odd_turns c.args.turns.now c.args.address c.partition_point.result c.partition_point.ensures.bound point
