use Rattle.std.proofs.Common.{find, length}
use Rattle.page_values.specs.Cost.{is_base}
use Rattle.page_values.proofs.Along.{IsAlong, places_left}
use Rattle.page_values.proofs.Blocks.{block_label}
use Rattle.page_values.proofs.cost.base_in.Given as goal

-- the run that is searched is at this place of the line or after it
abbrev pub invariant-loop-at : goal.invariant-loop-at
invariant-loop-at l = IsAlong block_label l.label (find (is_base l.label)) l.summaries l.at

abbrev pub decreases-loop-at : goal.decreases-loop-at
decreases-loop-at l = places_left (length l.summaries) l.at
