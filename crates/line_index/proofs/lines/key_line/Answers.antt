use Rattle.line_index.proofs.Found.{key_not_missed}
use Rattle.line_index.proofs.lines.key_line.Goals as goal

pub returns-in-Err : goal.returns-in-Err
returns-in-Err c = absurd (key_not_missed c.args.keys.now _ c.binary_search.result _ c.requires.in_order (c.requires.one _ c.in-Some.is) c.binary_search.ensures.position c.in-Err.is)
