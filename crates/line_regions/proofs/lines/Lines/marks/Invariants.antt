use Rattle.std.proofs.Common.{◌≡◌, length}
use Rattle.std.specs.Prelude.{All}
use Rattle.std.specs.List.{filter_map, range_with_len}
use Rattle.line_regions.specs.Lines.{IsMarkOf, lines_at}
use Rattle.line_remap.specs.Marks.{marks_of}
use Rattle.line_regions.specs.Regions.{region_mark, regions_of}
use Rattle.line_regions.proofs.lines.Lines.marks.Given as goal

-- of the first lines
abbrev pub invariant-loop-line : goal.invariant-loop-line
invariant-loop-line l =
    (marks_of l.marks.items ≡ filter_map (region_mark (lines_at l.self-inside.locations.items) (regions_of l.regions)) (range_with_len 0 l.line))
    × All (IsMarkOf (length l.self-inside.locations.items)) l.marks.items
