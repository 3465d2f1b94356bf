use Rattle.std.proofs.Common.{ap, ◌∙◌, option_map, rules}
use Rattle.std.proofs.lemmas.List.Sorted.{IsNonDecreasingBy-from_sort_by_key}
use Rattle.progress_points.specs.Points.{Mark}
use Rattle.progress_points.proofs.Stable.{first_kept}
use Rattle.progress_points.proofs.marks.marks_of.Goals as goal

pub returns-clause-in_order : goal.returns-clause-in_order
returns-clause-in_order c = IsNonDecreasingBy-from_sort_by_key (λ (m : Mark). m.address) _ c.in_ok-sort_by_key.ensures.sorted (λ a r q k. search rules)

pub returns-clause-points : goal.returns-clause-points
returns-clause-points c = λ a. ap (option_map (λ (m : Mark). m.point)) (first_kept _ _ c.in_ok-sort_by_key.ensures.stable (λ a r q k. search rules) a) ∙ c.in_ok-marks.ensures a
