use Rattle.std.proofs.Common.{◌≡◌, fold}
use Rattle.std.specs.Option.{option_copied}
use Rattle.experiment_plan.specs.Lists.{pieces, pieces_left, length_left}
use Rattle.gain_words.specs.declared.slot.Slot.TheVariants.{Absent}
use Rattle.gain_words.specs.Costs.{with_piece}
use Rattle.gain_words.proofs.costs.slot_of.Given as goal

-- what the pieces before gave, and what is left
abbrev pub invariant-loop-left : goal.invariant-loop-left
invariant-loop-left l = fold (with_piece l.class) l.slot (pieces_left (option_copied l.left)) ≡ fold (with_piece l.class) Absent (pieces l.list)

abbrev pub decreases-loop-left : goal.decreases-loop-left
decreases-loop-left l = length_left (option_copied l.left)
