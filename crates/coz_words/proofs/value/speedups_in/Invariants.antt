use Rattle.std.proofs.Common.{◌≡◌, ◌++◌}
use Rattle.std.specs.Prelude.{option_map}
use Rattle.std.specs.Option.{option_copied}
use Rattle.experiment_plan.specs.Lists.{pieces, pieces_left, length_left}
use Rattle.coz_words.specs.Request.{numbers_in}
use Rattle.coz_words.proofs.value.speedups_in.Given as goal

-- the numbers of the pieces so far, and those of what is left
abbrev pub invariant-loop-left : goal.invariant-loop-left
invariant-loop-left l = numbers_in 0 95 (pieces l.text) ≡ option_map (λ more. l.speedups.items ++ more) (numbers_in 0 95 (pieces_left (option_copied l.left)))

abbrev pub decreases-loop-left : goal.decreases-loop-left
decreases-loop-left l = length_left (option_copied l.left)
