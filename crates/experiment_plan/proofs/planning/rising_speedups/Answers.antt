use Rattle.std.proofs.Common.{◌≡◌, ℕ, List, [], ◌∷◌, ◌++◌, sym, ap, ◌∙◌}
use Rattle.std.specs.Cmp.{unsigned_ties}
use Rattle.std.proofs.lemmas.List.{map-id}
use Rattle.experiment_plan.specs.Selected.{rising_numbers}
use Rattle.experiment_plan.proofs.Rising.{rising_of}
use Rattle.experiment_plan.proofs.planning.rising_speedups.Goals as goal

pub returns : goal.returns
returns c =
    let given : c.extend_from_slice.new.self.items ≡ 0 ∷ c.args.speedups.now =
    c.in_ok-extend_from_slice.ensures.items ∙ ap (λ (xs : List ℕ). xs ++ c.args.speedups.now) (c.in_ok-push.ensures.items ∙ ap (λ (xs : List ℕ). xs ++ 0 ∷ []) c.in_ok-rises.ensures.items) in
    sym (map-id c.dedup.new.self.items)
    ∙ rising_of (λ (n : ℕ). n) _ unsigned_ties _ _ _ c.in_ok-sort.ensures.permutation c.in_ok-sort.ensures.sorted c.dedup.ensures.filtered
    ∙ ap rising_numbers (map-id c.extend_from_slice.new.self.items ∙ given)
