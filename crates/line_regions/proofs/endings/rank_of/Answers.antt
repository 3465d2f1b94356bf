use Rattle.std.proofs.Common.{ℕ, rules}
use Rattle.std.specs.Ordering.{is_lt}
use Rattle.std.proofs.lemmas.List.Sorted.{IsPartitionPoint-from_clause}
use Rattle.line_index.specs.Backwards.{backward_cmp}
use Rattle.line_regions.specs.Lines.{paths_at}
use Rattle.line_regions.proofs.Ranks.{is_rank, paths_before}
use Rattle.line_regions.proofs.endings.rank_of.Goals as goal

pub returns : goal.returns
returns c =
    let locations = c.args.locations.now in
    let heads = c.args.heads.now in
    is_rank locations heads c.args.offset c.partition_point.result c.requires.heads c.requires.within
    (IsPartitionPoint-from_clause (λ (p : ℕ). is_lt (backward_cmp (paths_at locations) p c.args.offset)) _ _ c.partition_point.ensures.partitioned
    (paths_before locations heads c.args.offset c.requires.heads) (λ a r q k. search rules))
