use Rattle.std.proofs.Common.{rules}
use Rattle.std.proofs.lemmas.List.Sorted.{IsPartitionPoint-from_clause}
use Rattle.line_index.specs.declared.endings.Ending.{Ending}
use Rattle.line_index.specs.Endings.{is_before}
use Rattle.line_index.proofs.Ranking.{order_parts}
use Rattle.line_index.proofs.endings.start_of.Goals as goal

pub returns-clause-parted : goal.returns-clause-parted
returns-clause-parted c =
    IsPartitionPoint-from_clause (λ (one : Ending). is_before c.args.number c.args.rank one) _ _ c.partition_point.ensures.partitioned
    (order_parts c.args.lines.now c.args.number c.args.rank c.requires) (λ a r q k. search rules)
