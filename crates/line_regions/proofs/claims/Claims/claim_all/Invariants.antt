use Rattle.std.proofs.Common.{◌-◌}
use Rattle.line_regions.proofs.Claiming.{HaveNumber}
use Rattle.line_regions.proofs.claims.Claims.claim_all.Given as goal

abbrev pub invariant-loop-line : goal.invariant-loop-line
invariant-loop-line l = HaveNumber l.initial.self l.self l.start l.line l.end l.number

abbrev pub decreases-loop-line : goal.decreases-loop-line
decreases-loop-line l = l.end - l.line
