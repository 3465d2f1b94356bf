use Rattle.std.proofs.Common.{◌≡◌, ℕ, ◌<◌, List, length, sym, ◌∙◌, subst, All, rules}
use Rattle.std.specs.Global.{Vec}
use Rattle.std.specs.Ordering.{is_lt}
use Rattle.std.specs.Cmp.Lexicographic.{nat_list_cmp_total}
use Rattle.std.proofs.lemmas.Fn.{always_returns_same}
use Rattle.std.proofs.lemmas.List.{length-map}
use Rattle.std.proofs.lemmas.List.Sorted.{All-permutation, Contains-permutation, length_permutation, ranks_by}
use Rattle.line_index.specs.Keys.{texts}
use Rattle.line_index.specs.Backwards.{backward, backward_cmp}
use Rattle.line_index.proofs.backwards.backwards.Goals as goal

pub returns : goal.returns
returns c =
    let paths : List (List ℕ) = texts c.args.paths.now in
    let many : length c.args.paths.now ≡ length paths = sym (length-map c.args.paths.now (λ (path : Vec ℕ). path.items)) in
    let list : List ℕ = c.in_ok-list.list.items in
    let sorted : List ℕ = c.sort_by.new.self.items in
    record {
      in_order = c.in_ok-sort_by.ensures.sorted (λ one other. is_lt (backward_cmp paths one other)) (ranks_by nat_list_cmp_total (backward paths)) (always_returns_same _ _ _ (λ a r q k. search rules));
      as_many = length_permutation list sorted c.in_ok-sort_by.ensures.permutation ∙ c.in_ok-list.ensures.as_many ∙ many;
      own = subst (λ n. All (λ p. p < n) sorted) many (All-permutation (λ p. p < length c.args.paths.now) list sorted c.in_ok-sort_by.ensures.permutation c.in_ok-list.ensures.own);
      each = λ k lt. Contains-permutation list sorted k c.in_ok-sort_by.ensures.permutation (c.in_ok-list.ensures.each k (subst (λ n. k < n) (sym many) lt));
    }
