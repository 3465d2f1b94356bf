use Rattle.std.proofs.Common.{◌≡◌, map}
use Rattle.std.specs.List.{filter, range_with_len}
use Rattle.path_texts.specs.PathText.{has_some}
use Rattle.path_texts.specs.Shares.{share_in}
use Rattle.path_texts.proofs.shares.shares_in.Given as goal

-- the shares so far
abbrev pub invariant-loop-line : goal.invariant-loop-line
invariant-loop-line l = l.shares.items ≡ filter has_some (map (share_in l.lines) (range_with_len 0 l.line))
