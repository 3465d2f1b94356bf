use Rattle.std.proofs.Common.{map, ap, sym, subst, ◌∙◌}
use Rattle.machines.specs.KeptVisits.{net_of}
use Rattle.run_counts.specs.Counts.{counts_of}
use Rattle.counted_run.specs.CountedRun.{AreUndelayed}
use Rattle.counted_run.proofs.Recorded.{visits_seen}
use Rattle.counted_run.proofs.counted.Counted.visits.Goals as goal

pub returns-clause-visits : goal.returns-clause-visits
returns-clause-visits c =
    let m = c.self.inside in
    ap (map net_of) c.visits.ensures.kept ∙ visits_seen m.image.now m.input.now m.setting m.engine (counts_of m.tallies) c.self.invariant c.args.self.now c.self.view_is

pub returns-clause-undelayed : goal.returns-clause-undelayed
returns-clause-undelayed c = subst AreUndelayed (sym c.visits.ensures.kept) c.self.invariant.undelayed
