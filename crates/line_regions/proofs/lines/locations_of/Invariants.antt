use Rattle.std.proofs.Common.{◌≡◌, length, map, take}
use Rattle.std.specs.Prelude.{All}
use Rattle.line_index.specs.Lines.{label}
use Rattle.line_regions.specs.Lines.{IsSpelled, lines_at}
use Rattle.line_remap.specs.Marks.{line_of_label}
use Rattle.line_regions.proofs.Spelling.{RiseTo}
use Rattle.line_regions.proofs.lines.locations_of.Given as goal

-- of the first labels
abbrev pub invariant-loop-line : goal.invariant-loop-line
invariant-loop-line l =
    (lines_at l.locations.items ≡ map line_of_label (take l.line (map label l.index.lines)))
    × RiseTo (map label l.index.lines) l.line
    × All IsSpelled l.locations.items
    × (length l.locations.items ≡ l.line)
