use Rattle.std.proofs.Common.{◌≡◌, ◌<◌}
use Rattle.std.specs.Prelude.{All}
use Rattle.std.specs.Option.{option_copied}
use Rattle.experiment_plan.specs.Lists.{length_left, pieces, pieces_left}
use Rattle.line_regions.specs.declared.lines.Region.{Region}
use Rattle.line_regions.specs.Regions.{regions_of}
use Rattle.functions_cli.specs.Regions.{regions_of_pieces}
use Rattle.functions_cli.proofs.Naming.{onto}
use Rattle.functions_cli.proofs.regions.regions_of_list.Given as goal

-- the regions of the pieces before, and those of what is left
abbrev pub invariant-loop-left : goal.invariant-loop-left
invariant-loop-left l =
    (regions_of_pieces l.lines (pieces l.text) ≡ onto (regions_of l.regions.items) (regions_of_pieces l.lines (pieces_left (option_copied l.left))))
    × All (λ (region : Region). 0 < region.first) l.regions.items

abbrev pub decreases-loop-left : goal.decreases-loop-left
decreases-loop-left l = length_left (option_copied l.left)
