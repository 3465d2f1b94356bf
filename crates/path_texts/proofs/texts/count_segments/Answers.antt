use Rattle.std.proofs.Common.{rules, sym}
use Rattle.path_texts.proofs.PathSegments.{one_of_first}
use Rattle.path_texts.proofs.texts.count_segments.Goals as goal

pub returns-then-are_of_first : goal.returns-then-are_of_first
returns-then-are_of_first c = sym (one_of_first c.args.events.now c.args.chain.now (search rules) (search rules))
