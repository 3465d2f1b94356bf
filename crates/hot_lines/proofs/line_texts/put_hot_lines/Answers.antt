use Rattle.std.proofs.Common.{rules}
use Rattle.profile_book.proofs.Gathering.{line_more}
use Rattle.hot_lines.specs.Lines.{hot_line}
use Rattle.hot_lines.proofs.line_texts.put_hot_lines.Goals as goal

pub loop-line-preserved : goal.loop-line-preserved
loop-line-preserved g c = line_more (hot_line c.args.index.now.lines c.args.all) c.args.lines.now c.loop-line.line-index _ (search rules) (search rules) c.loop-line.invariant c.put_hot_line.ensures
