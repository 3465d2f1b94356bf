use Rattle.std.proofs.Common.{◌≡◌, map, take}
use Rattle.coz_commands.proofs.profile.point_labels.Given as goal
use Rattle.line_index.specs.Lines.{label_at}

-- the labels so far are those of the points so far
abbrev pub invariant-loop-point : goal.invariant-loop-point
invariant-loop-point l = l.labels.items ≡ map (label_at l.index.lines) (take l.point l.points.lines)
