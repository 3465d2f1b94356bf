use Rattle.std.proofs.Common.{◌≡◌, ◌≤◌, map}
use Rattle.std.specs.List.{All, filter, range_with_len}
use Rattle.hot_lines.specs.declared.lines.HotLine.{HotLine}
use Rattle.hot_lines.specs.Lines.{has_started}
use Rattle.hot_lines.specs.HotRun.{all_seen, line_seen}
use Rattle.hot_lines.proofs.run.started_lines.Given as goal

-- the lines so far
abbrev pub invariant-loop-line : goal.invariant-loop-line
invariant-loop-line l =
    (l.lines.items ≡ filter has_started (map (line_seen l.counted) (range_with_len 0 l.line)))
    × All (λ (line : HotLine). line.cost ≤ all_seen l.counted) l.lines.items
