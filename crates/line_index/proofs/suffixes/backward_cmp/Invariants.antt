use Rattle.std.proofs.Common.{◌≡◌, length, reverse}
use Rattle.std.specs.Ordering.{nat_cmp}
use Rattle.std.specs.Cmp.Lexicographic.{slice_cmp}
use Rattle.line_index.proofs.suffixes.backward_cmp.Given as goal

-- what is left decides
abbrev pub invariant-loop-last : goal.invariant-loop-last
invariant-loop-last l = slice_cmp nat_cmp (reverse l.one) (reverse l.other) ≡ slice_cmp nat_cmp (reverse l.ahead) (reverse l.left)

abbrev pub decreases-loop-last : goal.decreases-loop-last
decreases-loop-last l = length l.left
