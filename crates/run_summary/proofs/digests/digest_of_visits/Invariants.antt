use Rattle.std.proofs.Common.{map, take}
use Rattle.sha2.specs.Hashers.{Holds256}
use Rattle.machines.specs.KeptVisits.{net_of}
use Rattle.run_summary.specs.Kept.{visits_bytes}
use Rattle.run_summary.proofs.digests.digest_of_visits.Given as goal

-- the bytes of the visits so far are in the hasher
abbrev pub invariant-loop-visit : goal.invariant-loop-visit
invariant-loop-visit l = Holds256 l.hasher (visits_bytes (map net_of (take l.visit-index l.visits)))
