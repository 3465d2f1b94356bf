use Rattle.std.proofs.Common.{ℕ, List, arith, rules}
use Rattle.std.specs.Ordering.{is_lt}
use Rattle.std.specs.Cmp.Lexicographic.{nat_list_cmp_total}
use Rattle.std.proofs.lemmas.Fn.{always_returns_same}
use Rattle.std.proofs.lemmas.List.Sorted.{Contains-permutation, ranks_by}
use Rattle.line_index.specs.Backwards.{backward, backward_cmp}
use Rattle.line_regions.specs.Lines.{paths_at}
use Rattle.line_regions.proofs.endings.heads.Goals as goal

pub returns : goal.returns
returns c =
    let paths : List (List ℕ) = paths_at c.args.locations.now in
    let list : List ℕ = c.in_ok-list.list.items in
    let sorted : List ℕ = c.sort_by.new.self.items in
    record {
      few = omega (arith, c.in_ok-list.ensures.few, c.sort_by.ensures.len);
      in_order = c.in_ok-sort_by.ensures.sorted (λ one other. is_lt (backward_cmp paths one other)) (ranks_by nat_list_cmp_total (backward paths)) (always_returns_same _ _ _ (λ a r q k. search rules));
      each = λ k lt. (let one = c.in_ok-list.ensures.each k lt in (one.0, Contains-permutation list sorted one.0 c.in_ok-sort_by.ensures.permutation one.1, one.2));
    }
