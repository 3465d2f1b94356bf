use Rattle.std.proofs.Common.{ℕ, rules}
use Rattle.std.specs.Ordering.{is_lt, is_le}
use Rattle.std.proofs.lemmas.List.Sorted.{IsPartitionPoint-from_clause}
use Rattle.line_index.specs.Backwards.{backward, ending, start_cmp}
use Rattle.line_index.proofs.Reversed.{before_parts, upto_parts, is_stretch}
use Rattle.line_regions.specs.Lines.{paths_at}
use Rattle.line_regions.proofs.endings.stretch_of.Goals as goal

pub returns-clause-stretch : goal.returns-clause-stretch
returns-clause-stretch c =
    is_stretch (paths_at c.args.locations.now) c.args.heads.now c.args.text.now c.partition_point-start.result c.partition_point-end.result
    (IsPartitionPoint-from_clause (λ (p : ℕ). is_lt (start_cmp (ending c.args.text.now) (backward (paths_at c.args.locations.now) p))) _ _ c.partition_point-start.ensures.partitioned
    (before_parts (paths_at c.args.locations.now) c.args.heads.now (ending c.args.text.now) c.requires.in_order) (λ a r q k. search rules))
    (IsPartitionPoint-from_clause (λ (p : ℕ). is_le (start_cmp (ending c.args.text.now) (backward (paths_at c.args.locations.now) p))) _ _ c.partition_point-end.ensures.partitioned
    (upto_parts (paths_at c.args.locations.now) c.args.heads.now (ending c.args.text.now) c.requires.in_order) (λ a r q k. search rules))
