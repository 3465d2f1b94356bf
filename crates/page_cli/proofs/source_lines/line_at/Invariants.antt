use Rattle.std.proofs.Common.{◌≡◌, [], get_or}
use Rattle.std.specs.Option.{option_copied}
use Rattle.page_cli.specs.Lines.{lines_in, lines_left}
use Rattle.page_cli.proofs.Newlines.{length_left}
use Rattle.page_cli.proofs.source_lines.line_at.Given as goal

-- the line at the index is that many lines ahead
abbrev pub invariant-loop-left : goal.invariant-loop-left
invariant-loop-left l = get_or (lines_left (option_copied l.left)) l.ahead [] ≡ get_or (lines_in l.text) l.index []

abbrev pub decreases-loop-left : goal.decreases-loop-left
decreases-loop-left l = length_left (option_copied l.left)
