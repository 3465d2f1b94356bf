use Rattle.std.proofs.Common.{◌∙◌, ℕ, List, ap, map}
use Rattle.std.specs.List.{filter, range_with_len}
use Rattle.profile_labels.specs.Sorted.{sorted_by}
use Rattle.path_chains.specs.Shares.{has_more}
use Rattle.path_texts.specs.PathText.{has_some}
use Rattle.path_texts.specs.Shares.{share_in}
use Rattle.path_texts.proofs.shares.shares_in_order.Goals as goal

pub returns-clause-lines : goal.returns-clause-lines
returns-clause-lines c =
    c.new.ensures
    ∙ c.in_ok-by_falling_ticks.ensures
    ∙ ap (sorted_by has_more)
    (c.in_ok-shares.ensures
    ∙ ap (λ (xs : List ℕ). filter has_some (map (share_in xs) (range_with_len 0 c.count.result))) c.deref.ensures.value
    ∙ ap (λ (n : ℕ). filter has_some (map (share_in c.args.sums.work.items) (range_with_len 0 n))) c.count.ensures)
