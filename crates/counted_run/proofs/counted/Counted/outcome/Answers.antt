use Rattle.run_counts.specs.Counts.{counts_of}
use Rattle.counted_run.proofs.Recorded.{outcome_seen, none_seen, small_now}
use Rattle.counted_run.proofs.counted.Counted.outcome.Goals as goal

pub returns-in-Some-clause-outcome : goal.returns-in-Some-clause-outcome
returns-in-Some-clause-outcome c =
    let m = c.self.inside in
    outcome_seen m.image.now m.input.now m.setting m.engine (counts_of m.tallies) c.self.invariant c.args.self.now c.self.view_is c.in-Some.ending c.in-Some.is

pub returns-in-Some-clause-small : goal.returns-in-Some-clause-small
returns-in-Some-clause-small c =
    let m = c.self.inside in
    small_now m.image.now m.input.now m.setting m.engine (counts_of m.tallies) c.self.invariant c.in-Some.ending c.in-Some.is

pub returns-in-None-clause-outcome : goal.returns-in-None-clause-outcome
returns-in-None-clause-outcome c =
    let m = c.self.inside in
    none_seen m.image.now m.input.now m.setting m.engine (counts_of m.tallies) c.self.invariant c.args.self.now c.self.view_is c.in-None.is
