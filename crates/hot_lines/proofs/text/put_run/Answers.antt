use Rattle.std.proofs.Common.{◌≤◌, All, subst, sym}
use Rattle.coz_types.specs.declared.record.Visit.{Visit}
use Rattle.hot_lines.proofs.Visits.{in_time}
use Rattle.hot_lines.proofs.text.put_run.Goals as goal

pub put_net_visits-requires : goal.put_net_visits-requires
put_net_visits-requires g c =
    subst (All (λ (visit : Visit). visit.delay ≤ visit.time)) (sym c.as_slice.ensures) (in_time c.args.run.now.visits c.args.run.now.undelayed)
