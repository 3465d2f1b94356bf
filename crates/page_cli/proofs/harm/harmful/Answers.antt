use Rattle.std.proofs.Common.{rules, ap, ◌∙◌}
use Rattle.profile_labels.specs.Sorted.{sorted_by}
use Rattle.page_cli.specs.Harm.{harms_before}
use Rattle.page_cli.proofs.Harms.{harms_sorted}
use Rattle.page_cli.proofs.harm.harmful.Goals as goal

pub returns : goal.returns
returns c =
    let sort = c.in_ok-sort_by_cached_key.ensures in
    c.new.ensures
    ∙ harms_sorted c.in_ok-copies.copies.items c.sort_by_cached_key.new.self.items sort.sorted sort.stable (λ b r f k. search rules)
    ∙ ap (sorted_by harms_before) c.in_ok-copies.ensures
