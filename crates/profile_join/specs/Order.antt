-- The order of blocks in a profile.
use Rattle.std.specs.Prelude.{Bool}
use Rattle.std.specs.declared.cmp.Ordering.{Ordering}
use Rattle.std.specs.Ordering.{is_lt, is_eq, nat_cmp, ordering_then}
use Rattle.profile_labels.specs.LabelOrder.{label_cmp}
use Rattle.coz_types.specs.declared.record.Summary.{Summary}
use Rattle.profile_join.specs.declared.tagged.Tagged.{Tagged}

-- by label, then by speedup
abbrev pub block_cmp : Summary → Summary → Ordering
block_cmp s t =
    ordering_then (label_cmp s.selected t.selected) (nat_cmp s.speedup t.speedup)

abbrev pub tag_before : Tagged → Tagged → Bool
tag_before a b = is_lt (block_cmp a.summary b.summary)

-- by block, then by the number of the part
abbrev pub tag_cmp : Tagged → Tagged → Ordering
tag_cmp a b = ordering_then (block_cmp a.summary b.summary) (nat_cmp a.part b.part)

abbrev pub comes_before : Tagged → Tagged → Bool
comes_before a b = is_lt (tag_cmp a b)

-- of one label and one speedup
abbrev pub are_alike : Tagged → Tagged → Bool
are_alike a b = is_eq (block_cmp a.summary b.summary)
