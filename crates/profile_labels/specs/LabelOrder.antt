-- The order of labels.
use Rattle.std.specs.declared.cmp.Ordering.{Ordering}
use Rattle.std.specs.Cmp.Lexicographic.{slice_cmp}
use Rattle.std.specs.Ordering.{nat_cmp, ordering_then}
use Rattle.coz_types.specs.Labels.{Text, path_of, number_of}

-- by the written path's bytes, then by number
abbrev pub label_cmp : Text → Text → Ordering
label_cmp a b =
    ordering_then (slice_cmp nat_cmp (path_of a) (path_of b)) (nat_cmp (number_of a) (number_of b))
