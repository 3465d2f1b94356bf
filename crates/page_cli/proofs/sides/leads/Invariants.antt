use Rattle.std.proofs.Common.{length}
use Rattle.std.specs.List.{list_any}
use Rattle.page_cli.specs.Page.{is_behind}
use Rattle.page_values.proofs.Along.{IsAlong, places_left}
use Rattle.page_cli.proofs.OneLine.{curve_label}
use Rattle.page_cli.proofs.sides.leads.Given as goal

-- a curve that gains more is at this place of the line or after it
abbrev pub invariant-loop-at : goal.invariant-loop-at
invariant-loop-at l = IsAlong curve_label l.curve.selected (list_any (is_behind l.curve)) l.all.curves.now l.at

abbrev pub decreases-loop-at : goal.decreases-loop-at
decreases-loop-at l = places_left (length l.all.curves.now) l.at
