use Rattle.std.proofs.Common.{◌≡◌}
use Rattle.std.specs.Prelude.{is_some}
use Rattle.std.specs.List.{list_all}
use Rattle.std.specs.Option.{option_copied}
use Rattle.experiment_plan.specs.Lists.{pieces_left, length_left}
use Rattle.functions_cli.specs.Regions.{are_regions, region_in}
use Rattle.functions_cli.proofs.regions.are_regions.Given as goal

-- the pieces before are regions
abbrev pub invariant-loop-left : goal.invariant-loop-left
invariant-loop-left l = list_all (λ piece. is_some (region_in piece)) (pieces_left (option_copied l.left)) ≡ are_regions l.text

abbrev pub decreases-loop-left : goal.decreases-loop-left
decreases-loop-left l = length_left (option_copied l.left)
