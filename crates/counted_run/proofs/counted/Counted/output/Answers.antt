use Rattle.std.proofs.Common.{◌∙◌}
use Rattle.run_counts.specs.Counts.{counts_of}
use Rattle.counted_run.proofs.Recorded.{output_seen}
use Rattle.counted_run.proofs.counted.Counted.output.Goals as goal

pub returns-clause-bytes : goal.returns-clause-bytes
returns-clause-bytes c =
    let m = c.self.inside in
    c.output.ensures.bytes ∙ output_seen m.image.now m.input.now m.setting m.engine (counts_of m.tallies) c.self.invariant c.args.self.now c.self.view_is
