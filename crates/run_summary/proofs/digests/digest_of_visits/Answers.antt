use Rattle.std.proofs.Common.{map, take, sym, subst}
use Rattle.sha2.specs.Hashers.{Holds256}
use Rattle.machines.specs.KeptVisits.{net_of}
use Rattle.run_summary.specs.Kept.{visits_bytes}
use Rattle.run_summary.proofs.Hashing.{one_more}
use Rattle.run_summary.proofs.digests.digest_of_visits.Goals as goal

pub loop-visit-preserved : goal.loop-visit-preserved
loop-visit-preserved c =
    let before = visits_bytes (map net_of (take c.loop-visit.visit-index c.args.visits.now)) in
    subst (Holds256 c.update.new.self)
    (sym (one_more c.args.visits.now c.loop-visit.visit-index c.bytes_of_visit.result c.loop-visit-test.true c.bytes_of_visit.ensures))
    (c.update.ensures before c.loop-visit.invariant)
