use Rattle.std.proofs.Common.{subst}
use Rattle.std.specs.List.Sorted.{IsPermutation}
use Rattle.profile_join.proofs.InOrder.{is_in_order}
use Rattle.profile_join.proofs.joining.ordered.Goals as goal

pub returns : goal.returns
returns c = record {
  ordered = is_in_order c.args.parts.items c.requires.right c.in_ok-parts.parts.items
      (subst (λ l. IsPermutation l c.in_ok-parts.parts.items) c.in_ok-numbered.ensures c.in_ok-parts.ensures.moved) c.in_ok-tags.tags.items
      (subst (λ l. IsPermutation l c.in_ok-tags.tags.items) c.in_ok-all_tags.ensures c.in_ok-tags.ensures.moved) c.in_ok-tags.ensures.sorted;
}
