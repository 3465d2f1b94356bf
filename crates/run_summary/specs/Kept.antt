-- What is kept of net visits.
use Rattle.std.specs.Prelude.{ℕ, ◌==◌, List, ◌++◌, map, count_by}
use Rattle.std.specs.List.{flat_map, range_with_len}
use Rattle.std.specs.Int.{w16, w64, to_le_bytes}
use Rattle.machines.specs.Shortened.{NetVisit}

-- the point and the hart in 2 bytes each and the net time in 8, low byte first
abbrev pub visit_bytes : NetVisit → List ℕ
visit_bytes visit =
    to_le_bytes w16 visit.point ++ to_le_bytes w16 visit.hart ++ to_le_bytes w64 visit.time

abbrev pub visits_bytes : List NetVisit → List ℕ
visits_bytes visits = flat_map visit_bytes visits

-- how many visits each point from 0 below k has
abbrev pub counts_of : ℕ → List NetVisit → List ℕ
counts_of k visits =
    map (λ point. count_by (λ (visit : NetVisit). visit.point == point) visits) (range_with_len 0 k)
