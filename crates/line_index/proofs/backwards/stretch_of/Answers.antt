use Rattle.std.proofs.Common.{ℕ, rules}
use Rattle.std.specs.Ordering.{is_lt, is_le}
use Rattle.std.proofs.lemmas.List.Sorted.{IsPartitionPoint-from_clause}
use Rattle.line_index.specs.Keys.{texts}
use Rattle.line_index.specs.Backwards.{backward, ending, start_cmp}
use Rattle.line_index.proofs.Reversed.{before_parts, upto_parts, is_stretch}
use Rattle.line_index.proofs.backwards.stretch_of.Goals as goal

pub returns : goal.returns
returns c =
    is_stretch (texts c.args.paths.now) c.args.backwards.now c.args.text.now c.partition_point-start.result c.partition_point-end.result
    (IsPartitionPoint-from_clause (λ (p : ℕ). is_lt (start_cmp (ending c.args.text.now) (backward (texts c.args.paths.now) p))) _ _ c.partition_point-start.ensures.partitioned
    (before_parts (texts c.args.paths.now) c.args.backwards.now (ending c.args.text.now) c.requires.in_order) (λ a r q k. search rules))
    (IsPartitionPoint-from_clause (λ (p : ℕ). is_le (start_cmp (ending c.args.text.now) (backward (texts c.args.paths.now) p))) _ _ c.partition_point-end.ensures.partitioned
    (upto_parts (texts c.args.paths.now) c.args.backwards.now (ending c.args.text.now) c.requires.in_order) (λ a r q k. search rules))
