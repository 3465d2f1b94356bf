use Rattle.std.proofs.Common.{List, ◌↔◌, Contains, subst}
use Rattle.line_index.specs.declared.lines.Key.{Key}
use Rattle.line_index.proofs.Distinct.{distinct, key_total, key_ties, keys_kept}
use Rattle.line_index.specs.Keys.{IsNumbered}
use Rattle.line_index.proofs.Labelled.{all_of}
use Rattle.line_index.proofs.lines.sorted_keys.Goals as goal

pub returns-clause-in_order : goal.returns-clause-in_order
returns-clause-in_order c = (distinct key_total _ key_ties _ _ _ c.in_ok-sort.ensures.permutation c.in_ok-sort.ensures.sorted c.dedup.ensures.filtered).in_order

pub returns-clause-each : goal.returns-clause-each
returns-clause-each c =
    let kept = keys_kept _ _ (distinct key_total _ key_ties _ _ _ c.in_ok-sort.ensures.permutation c.in_ok-sort.ensures.sorted c.dedup.ensures.filtered) in
    subst (λ (keys : List Key). (key : Key) → Contains c.dedup.new.self.items key ↔ Contains keys key) c.in_ok-keys.ensures.keys kept

pub returns-clause-numbered : goal.returns-clause-numbered
returns-clause-numbered c = all_of IsNumbered _ _ (distinct key_total _ key_ties _ _ _ c.in_ok-sort.ensures.permutation c.in_ok-sort.ensures.sorted c.dedup.ensures.filtered).from c.in_ok-keys.ensures.numbered
