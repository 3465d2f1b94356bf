use Rattle.std.proofs.Common.{◌≡◌, rules}
use Rattle.std.proofs.lemmas.Fn.{always_returns_same}
use Rattle.std.specs.Cmp.{unsigned_ties}
use Rattle.experiment_plan.specs.Selected.{id_of}
use Rattle.experiment_plan.proofs.Rising.{rising_of}
use Rattle.experiment_plan.proofs.selection.rising_lines.Goals as goal

pub returns : goal.returns
returns c =
    rising_of id_of _ (λ x y. unsigned_ties x.0 y.0) _ _ _ c.in_ok-sort_by_key.ensures.permutation
    (c.in_ok-sort_by_key.ensures.sorted id_of (always_returns_same _ (λ a r. r ≡ a.0.now.0) _ (λ a r q k. search rules))) c.dedup.ensures.filtered
