use Rattle.std.proofs.Common.{rules}
use Rattle.std.specs.Ordering.{is_lt, is_le}
use Rattle.std.proofs.lemmas.List.Sorted.{IsPartitionPoint-from_clause}
use Rattle.line_index.specs.Lines.{Line, line_cmp}
use Rattle.line_remap.specs.declared.location.Location.{Location}
use Rattle.line_remap.specs.Locations.{line_of_location}
use Rattle.line_regions.specs.Regions.{region_of}
use Rattle.line_regions.proofs.Spans.{is_span, parted_less, parted_upto}
use Rattle.line_regions.proofs.lines.span_of.Goals as goal

pub returns-clause-span : goal.returns-clause-span
returns-clause-span c =
    let r = c.args.region.now in
    let first : Line = record { path = r.path.now; number = r.first } in
    let last : Line = record { path = r.path.now; number = r.last } in
    is_span c.args.locations.now (region_of r) c.partition_point-start.result c.partition_point-end.result
    (IsPartitionPoint-from_clause (λ (p : Location). is_lt (line_cmp (line_of_location p) first)) _ _ c.partition_point-start.ensures.partitioned
    (parted_less c.args.locations.now first c.requires) (λ a r q k. search rules))
    (IsPartitionPoint-from_clause (λ (p : Location). is_le (line_cmp (line_of_location p) last)) _ _ c.partition_point-end.ensures.partitioned
    (parted_upto c.args.locations.now last c.requires) (λ a r q k. search rules))
