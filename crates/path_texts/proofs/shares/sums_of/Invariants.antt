use Rattle.std.proofs.Common.{length, take}
use Rattle.line_index.specs.Index.{position_at}
use Rattle.path_texts.specs.PathText.{events_on}
use Rattle.path_texts.specs.Shares.{AreKept, IsCounted}
use Rattle.path_texts.proofs.shares.sums_of.Given as goal

-- the sums are those of the events so far, and the places that are kept are right
abbrev pub invariant-loop-number : goal.invariant-loop-number
invariant-loop-number l =
    IsCounted (position_at l.index) (length l.index.lines) (take l.number-index (events_on l.events l.chain)) l.sums
    × AreKept (position_at l.index) (length l.index.lines) l.found.items
