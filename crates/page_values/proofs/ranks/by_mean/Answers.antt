use Rattle.std.proofs.Common.{rules, ap, ◌∙◌}
use Rattle.profile_labels.specs.Sorted.{sorted_by}
use Rattle.page_values.specs.Ranks.{means_before}
use Rattle.page_values.proofs.MeanOrder.{means_sorted}
use Rattle.page_values.proofs.ranks.by_mean.Goals as goal

pub returns : goal.returns
returns c =
    let sort = c.in_ok-sort_by_cached_key.ensures in
    c.new.ensures
    ∙ means_sorted c.into_vec-curves.result.items c.sort_by_cached_key.new.self.items sort.sorted sort.stable (λ b r f k. search rules)
    ∙ ap (sorted_by means_before) c.into_vec-curves.ensures
