-- The places of labels, one element after the other.
use Rattle.std.proofs.Common.{◌≡◌, ℕ, suc, ◌+◌, ◌<◌, ◌≤◌, cond, List, [], ◌∷◌, length, drop, set, get_or, Option, Some, None, sym, ap, subst, ◌∙◌, arith, drop-cons, get_or-set_same, get_or-set_other, ⊎_elim}
use Rattle.std.specs.Map.{lookup}
use Rattle.std.specs.BTreeMap as tree
use Rattle.std.specs.BTreeMap.{BTreeMap}
use Rattle.std.specs.Cmp.Lexicographic.{slice_cmp}
use Rattle.std.specs.Ordering.{nat_cmp}
use Rattle.std.specs.Str.{bytes_eq}
use Rattle.std.proofs.lemmas.Bool.{cases_eq}
use Rattle.std.proofs.lemmas.List.{drop_all, length-set}
use Rattle.std.proofs.lemmas.Map.Text.{btree_map_updates_str}
use denote.Ref.{Bor}
use Rattle.coz_types.specs.Labels.{Text}
use Rattle.page_values.specs.Lines.{place_in, place_from}

-- ---- the places from one element on, by those from the next one on

behind : (labels : List Text) (j i : ℕ) → suc j ≡ i → j < length labels → drop j labels ≡ get_or labels j [] ∷ drop i labels
behind labels j i next lt = drop-cons labels j [] lt ∙ ap (λ (k : ℕ). get_or labels j [] ∷ drop k labels) next

pub one_place : (labels : List Text) (q : Text) (j i : ℕ) → suc j ≡ i → j < length labels
    → place_from labels q j ≡ cond (bytes_eq (get_or labels j []) q) (Some j) (place_from labels q i)
one_place labels q j i next lt =
    let same : j + 1 ≡ i = omega (arith, next) in
    ap (place_in q j) (behind labels j i next lt)
    ∙ ap (λ (k : ℕ). cond (bytes_eq (get_or labels j []) q) (Some j) (place_in q k (drop i labels))) same

-- ---- the places of all elements, from the last to the first

-- what the map and the list have, if the elements from place i on were seen
pub record AreSeen (labels : List Text) (i : ℕ) (first : BTreeMap (Bor Text) ℕ) (after : List (Option ℕ)) : Type 0 where
  pub found : (q : Text) → tree.get_by (λ k. slice_cmp nat_cmp q k.now) first ≡ place_from labels q i
  pub as_many : length after ≡ length labels
  pub next : (k : ℕ) → i ≤ k → k < length labels → get_or after k None ≡ place_from labels (get_or labels k []) (k + 1)

pub none_seen : (labels : List Text) (n : ℕ) (first : BTreeMap (Bor Text) ℕ) (after : List (Option ℕ)) → n ≡ length labels → first.entries ≡ [] → length after ≡ n → AreSeen labels n first after
none_seen labels n first after whole empty same = record {
  found = λ q. ap (λ (es : List (Bor Text × ℕ)). lookup (tree.is_at (λ k. slice_cmp nat_cmp q k.now)) es) empty ∙ sym (ap (place_in q n) (drop_all n labels (omega (arith, whole))));
  as_many = same ∙ whole;
  next = λ k le lt. absurd (omega (arith, whole, le, lt));
}

pub one_seen : (labels : List Text) (j i : ℕ) (label : Bor Text) (m n : BTreeMap (Bor Text) ℕ) (after : List (Option ℕ)) (next : Option ℕ) → suc j ≡ i → j < length labels → label.now ≡ get_or labels j []
    → next ≡ tree.get_by (λ k. slice_cmp nat_cmp label.now k.now) m
    → tree.UpdatesBy (λ x y. slice_cmp nat_cmp x.now y.now) (λ k. slice_cmp nat_cmp label.now k.now) m n (Some j)
    → AreSeen labels i m after → AreSeen labels j n (set after j next)
one_seen labels j i label m n after next step lt is old updates seen = record {
  found = λ q.
      btree_map_updates_str label.now m n (Some j) updates q
      ∙ ap (cond (bytes_eq label.now q) (Some j)) (seen.found q)
      ∙ ap (λ (l : Text). cond (bytes_eq l q) (Some j) (place_from labels q i)) is
      ∙ sym (one_place labels q j i step lt);
  as_many = length-set after j next ∙ seen.as_many;
  next = λ k le few. ⊎_elim (here k) (other k le few) (cases_eq k j);
}
  where
    at_j : get_or (set after j next) j None ≡ place_from labels (get_or labels j []) (j + 1)
    at_j =
        let more : i ≡ j + 1 = omega (arith, step) in
        get_or-set_same after j next None (omega (arith, lt, seen.as_many))
        ∙ old
        ∙ seen.found label.now
        ∙ ap (λ (l : Text). place_from labels l i) is
        ∙ ap (λ (k : ℕ). place_from labels (get_or labels j []) k) more

    here : (k : ℕ) → k ≡ j → get_or (set after j next) k None ≡ place_from labels (get_or labels k []) (k + 1)
    here k e = subst (λ (n : ℕ). get_or (set after j next) n None ≡ place_from labels (get_or labels n []) (n + 1)) (sym e) at_j

    other : (k : ℕ) → j ≤ k → k < length labels → (k ≡ j → ⊥) → get_or (set after j next) k None ≡ place_from labels (get_or labels k []) (k + 1)
    other k le few ne = get_or-set_other after j k next None ne ∙ seen.next k (omega (arith, le, ne, step)) few
