use Rattle.std.proofs.Common.{map, sym, ap, ◌∙◌}
use Rattle.std.specs.List.{position}
use Rattle.line_index.specs.Changes.{or_else}
use Rattle.line_index.specs.Lines.{is_line_below}
use Rattle.line_index.specs.Keys.{texts}
use Rattle.line_index.specs.Index.{line_at}
use Rattle.line_index.proofs.find.find.Goals as goal

pub returns-in-None : goal.returns-in-None
returns-in-None c =
    c.line_below.ensures c.args.keys.now c.requires.lines
    ∙ ap (λ line. or_else line (position (is_line_below c.args.path.now c.args.number) (map (line_at (texts c.args.paths.now)) c.args.keys.now))) (sym c.in-None.is ∙ c.line_of_text.ensures)
