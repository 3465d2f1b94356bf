-- The visits that code keeps, as the machines have them.
use Rattle.std.specs.Prelude.{◌-◌}
use Rattle.coz_types.specs.declared.record.Visit.{Visit}
use Rattle.machines.specs.Delayed as delayed
use Rattle.machines.specs.Shortened.{NetVisit}

-- a visit at its net time
abbrev pub net_of : Visit → NetVisit
net_of visit = record {
  point = visit.point.0;
  hart = visit.hart.0;
  time = visit.time - visit.delay;
}

-- a visit as the delayed machine keeps it
abbrev pub visit_as : Visit → delayed.Visit
visit_as visit = record {
  point = visit.point.0;
  hart = visit.hart.0;
  time = visit.time;
  delay = visit.delay;
}
