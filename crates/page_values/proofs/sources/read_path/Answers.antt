use Rattle.page_values.proofs.ShortFiles.{whole_right}
use Rattle.page_values.proofs.sources.read_path.Goals as goal

pub returns-in-Whole-clause-answer : goal.returns-in-Whole-clause-answer
returns-in-Whole-clause-answer g c = whole_right c.args.path.now c.read_whole.result c.read_whole.new.into.items c.in-Whole.is c.read_whole.ensures
