use Rattle.std.proofs.Common.{◌≡◌, ◌+◌, ◌-◌}
use Rattle.guest_areas.specs.Space.{is_each, is_known}
use Rattle.guest_areas.proofs.Areas.has_each.Given as goal

abbrev pub invariant-loop-page : goal.invariant-loop-page
invariant-loop-page l = is_each (is_known l.self) l.page (l.first + l.count - l.page) ≡ is_each (is_known l.self) l.first l.count
