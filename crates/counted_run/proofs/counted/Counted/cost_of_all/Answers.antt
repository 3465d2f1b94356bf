use Rattle.run_counts.specs.Counts.{counts_of}
use Rattle.counted_run.proofs.Recorded.{counts_seen, whole_seen}
use Rattle.counted_run.proofs.counted.Counted.cost_of_all.Goals as goal

pub returns-clause-cost : goal.returns-clause-cost
returns-clause-cost c =
    let m = c.self.inside in
    (counts_seen m.image.now m.input.now m.setting m.engine (counts_of m.tallies) c.self.invariant c.args.self.now c.self.view_is).all

pub returns-clause-whole : goal.returns-clause-whole
returns-clause-whole c =
    let m = c.self.inside in
    whole_seen m.image.now m.input.now m.setting m.engine (counts_of m.tallies) c.self.invariant c.args.self.now c.self.view_is
