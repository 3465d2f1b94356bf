use Rattle.run_counts.specs.Counts.{counts_of}
use Rattle.counted_run.proofs.Recorded.{counts_seen}
use Rattle.counted_run.proofs.counted.Counted.cost_of_none.Goals as goal

pub returns : goal.returns
returns c =
    let m = c.self.inside in
    (counts_seen m.image.now m.input.now m.setting m.engine (counts_of m.tallies) c.self.invariant c.args.self.now c.self.view_is).none
