use Rattle.std.proofs.Common.{length, take}
use Rattle.line_index.specs.Index.{position_at}
use Rattle.path_texts.specs.Shares.{AreKept, IsCounted}
use Rattle.path_texts.proofs.shares.sums_of_all.Given as goal

-- the sums are those of the events so far, and the places that are kept are right
abbrev pub invariant-loop-event : goal.invariant-loop-event
invariant-loop-event l =
    IsCounted (position_at l.index) (length l.index.lines) (take l.event-index l.events) l.sums
    × AreKept (position_at l.index) (length l.index.lines) l.found.items
