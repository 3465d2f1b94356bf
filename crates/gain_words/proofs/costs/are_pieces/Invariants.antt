use Rattle.std.proofs.Common.{◌≡◌}
use Rattle.std.specs.List.{list_all}
use Rattle.std.specs.Option.{option_copied}
use Rattle.experiment_plan.specs.Lists.{pieces, pieces_left, length_left}
use Rattle.gain_words.specs.Costs.{is_piece}
use Rattle.gain_words.proofs.costs.are_pieces.Given as goal

-- the pieces before name classes
abbrev pub invariant-loop-left : goal.invariant-loop-left
invariant-loop-left l = list_all is_piece (pieces_left (option_copied l.left)) ≡ list_all is_piece (pieces l.list)

abbrev pub decreases-loop-left : goal.decreases-loop-left
decreases-loop-left l = length_left (option_copied l.left)
