use Rattle.std.proofs.Common.{rules, ◌≡◌, ◌++◌, List, [], ◌∷◌, ◌∙◌, sym, ap, length, arith}
use Rattle.std.specs.List.{flat_map}
use Rattle.std.proofs.lemmas.List.{append-nil}
use Rattle.std.proofs.lemmas.List.Sorted.{IsNonDecreasingBy-from_sort_by_key}
use Rattle.claim_workers.specs.declared.claimed.Claimed.{Claimed}
use Rattle.claim_workers.specs.Worked.{claim_of, kept_summaries}
use Rattle.claim_workers.proofs.Ordered.{ordered_summaries}
use Rattle.claim_workers.proofs.claimed.in_order.Goals as goal

nothing_left : (ys xs zs : List Claimed) → length xs ≡ 0 → ys ++ xs ≡ zs → ys ≡ zs
nothing_left ys [] zs none e = sym (append-nil ys) ∙ e
nothing_left ys (x ∷ xs) zs none e = absurd (omega arith)

pub returns : goal.returns
returns c f n each =
    let up = IsNonDecreasingBy-from_sort_by_key claim_of _ c.in_ok-sort_by_key.ensures.sorted (λ a r q k. search rules) in
    let same = ordered_summaries f n _ _ each c.in_ok-sort_by_key.ensures.permutation up in
    let none = c.in-None.ensures.steps.0 in
    let rest : length c.loop-claimed.claimed-iterator.rest.items ≡ 0 = search rules in
    let all = nothing_left _ _ _ rest (c.loop-claimed.invariant.1 ∙ c.into_iter-claimed-iterator.ensures.into_iter_gives.0) in
    c.loop-claimed.invariant.0 ∙ ap (flat_map kept_summaries) all ∙ same
