-- The visits of progress points in a run.
use Rattle.std.specs.Prelude.{ℕ, List, Option, option_map, option_to_list}
use Rattle.coz_types.specs.declared.record.Visit.{Visit}

-- those that were kept so far, in order, and how many may be
pub record Visits : Type 0 where
  pub kept : List Visit
  pub limit : ℕ

-- the visit of the point of an address, if it has one, by a hart at a moment, with the delay then
abbrev pub visits_of : Option ℕ → ℕ → ℕ → ℕ → List Visit
visits_of point hart time delay =
    option_to_list (option_map (λ p.
    record { point = record { 0 = p }; hart = record { 0 = hart }; time = time; delay = delay })
    point)
