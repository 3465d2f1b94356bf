use Rattle.std.proofs.Common.{sym, ◌∙◌, arith}
use Rattle.line_index.proofs.Found.{change_key}
use Rattle.line_index.proofs.lines.line_changes.Goals as goal

pub key_line-line-requires-clause-one : goal.key_line-line-requires-clause-one
key_line-line-requires-clause-one c = λ key e. c.requires.each key (change_key c.args.rows.now c.args.positions.now c.args.changes.now c.loop-change.change-index _ key (omega arith) (sym c.key_at.ensures.key ∙ e))
