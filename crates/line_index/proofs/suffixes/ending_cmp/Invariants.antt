use Rattle.std.proofs.Common.{◌≡◌, length, reverse}
use Rattle.line_index.specs.Backwards.{ending, start_cmp}
use Rattle.line_index.proofs.suffixes.ending_cmp.Given as goal

-- what is left decides
abbrev pub invariant-loop-last : goal.invariant-loop-last
invariant-loop-last l = start_cmp (ending l.text) (reverse l.path) ≡ start_cmp (ending l.left) (reverse l.ahead)

abbrev pub decreases-loop-last : goal.decreases-loop-last
decreases-loop-last l = length l.left
