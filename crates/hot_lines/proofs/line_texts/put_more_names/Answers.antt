use Rattle.std.proofs.Common.{rules, get_or}
use Rattle.profile_book.proofs.Gathering.{line_more}
use Rattle.hot_lines.specs.declared.lines.HotLine.{HotLine}
use Rattle.hot_lines.specs.Lines.{more_names}
use Rattle.hot_lines.proofs.line_texts.put_more_names.Goals as goal

pub loop-line-preserved : goal.loop-line-preserved
loop-line-preserved g c =
    let line : HotLine = get_or c.args.lines.now c.loop-line.line-index (record { line = 0; starts = 0; cost = 0 }) in
    line_more (more_names c.args.index.now.lines) c.args.lines.now c.loop-line.line-index line (search rules) (search rules) c.loop-line.invariant c.put_more_name.ensures
