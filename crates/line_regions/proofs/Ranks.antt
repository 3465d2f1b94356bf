-- The rank of a line's path, and a node of a tree for each line.
use Rattle.std.proofs.Common.{◌≡◌, ℕ, ◌<◌, ◌≤◌, ⊎_elim, true, false, List, [], length, get_or, reverse, Ordering, refl, sym, ap, ◌∙◌, arith}
use Rattle.std.specs.declared.cmp.Ordering.TheVariants.{Less, Equal, Greater}
use Rattle.std.specs.Ordering.{nat_cmp, ordering_reverse, is_eq, is_lt}
use Rattle.std.specs.Cmp.{IsTotalOrder}
use Rattle.std.specs.Cmp.Lexicographic.{slice_cmp, nat_list_cmp_total}
use Rattle.std.specs.List.Sorted.{IsPartitionPoint, IsPartitionedBy}
use Rattle.std.proofs.lemmas.Bool.{cases_Bool, cases_lt}
use Rattle.std.proofs.lemmas.List.{get_or_default, reverse-reverse}
use Rattle.std.proofs.lemmas.List.Elements.{All-contains, Contains-get_or}
use Rattle.std.proofs.lemmas.List.Sorted.{ranks_by, sorted_far}
use Rattle.std.proofs.lemmas.Map.Text.{is_eq-slice_cmp}
use Rattle.std.proofs.lemmas.Slice.Eq.{bytes_eq-Decides}
use Rattle.line_index.specs.Backwards.{backward, backward_cmp}
use Rattle.line_index.proofs.Order.{self_equal}
use Rattle.line_remap.specs.declared.location.Location.{Location}
use Rattle.line_regions.specs.declared.tree.Node.{Node}
use Rattle.line_regions.specs.declared.tree.Point.{Point}
use Rattle.line_regions.specs.Lines.{AreHeads, AreNodes, ArePoints, HasRank, IsPointOf, path_at, paths_at}
use Rattle.line_regions.specs.Tree.{AddsPoints, point_at}

-- ---- the rank of a path

tied : {K : Type 0} {R : K → K → Ordering} → IsTotalOrder R → (x y : K) → is_lt (R x y) ≡ false → is_lt (R y x) ≡ false → R x y ≡ Equal
tied {R = R} total x y not_less not_more = by (R x y) refl
  where
    by : (r : Ordering) → R x y ≡ r → r ≡ Equal
    by Less e = let no : true ≡ false = sym (ap is_lt e) ∙ not_less in let none : ⊥ = cc in absurd none
    by Equal e = refl
    by Greater e = let no : true ≡ false = sym (ap is_lt (total.antisymm y x ∙ ap ordering_reverse e)) ∙ not_more in let none : ⊥ = cc in absurd none

pub paths_before : (locations : List Location) (heads : List ℕ) (offset : ℕ) → AreHeads locations heads → IsPartitionedBy (λ p. is_lt (backward_cmp (paths_at locations) p offset)) heads
paths_before locations heads offset are i j d le lt e =
    let paths = paths_at locations in
    let order = ranks_by nat_list_cmp_total (backward paths) in
    ⊎_elim
    (λ (is : is_lt (backward_cmp paths (get_or heads i d) offset) ≡ true). is)
    (λ (none : is_lt (backward_cmp paths (get_or heads i d) offset) ≡ false).
    (let later : is_lt (backward_cmp paths (get_or heads j d) (get_or heads i d)) ≡ false = sorted_far (λ one other. is_lt (backward_cmp paths one other)) order heads are.in_order i j d le lt in
    let no : true ≡ false = sym e ∙ order.chain (get_or heads j d) (get_or heads i d) offset later none in
    let absent : ⊥ = cc in
    absurd absent))
    (cases_Bool (is_lt (backward_cmp paths (get_or heads i d) offset)))

pub is_rank : (locations : List Location) (heads : List ℕ) (offset rank : ℕ) → AreHeads locations heads → offset < length locations
    → IsPartitionPoint (λ p. is_lt (backward_cmp (paths_at locations) p offset) ≡ true) (λ p. is_lt (backward_cmp (paths_at locations) p offset) ≡ false) heads rank → HasRank locations heads offset rank
is_rank locations heads offset rank are within point =
    let paths = paths_at locations in
    let has = are.each offset within in
    let r = has.1.0 in
    let there : get_or heads r 0 ≡ has.0 = get_or_default heads r 0 has.0 has.1.1 ∙ has.1.2 in
    let key : backward paths (get_or heads r 0) ≡ backward paths offset = ap reverse (ap (path_at locations) there ∙ has.2) in
    let equal : backward_cmp paths (get_or heads r 0) offset ≡ Equal = ap (λ xs. slice_cmp nat_cmp xs (backward paths offset)) key ∙ self_equal nat_list_cmp_total (backward paths offset) in
    let low : rank ≤ r = ⊎_elim
    (λ (less : r < rank). (let no : true ≡ false = sym (point.0 r 0 (omega arith) less) ∙ ap is_lt equal in let none : ⊥ = cc in absurd none))
    (λ (le : rank ≤ r). le)
    (cases_lt r rank) in
    let lt : rank < length heads = omega (arith, low, has.1.1) in
    let x = get_or heads rank 0 in
    let not_before : is_lt (backward_cmp paths x offset) ≡ false = point.1 rank 0 (omega arith) lt in
    let not_after : is_lt (backward_cmp paths offset x) ≡ false =
    ap (λ xs. is_lt (slice_cmp nat_cmp xs (backward paths x))) (sym key)
    ∙ sorted_far (λ one other. is_lt (backward_cmp paths one other)) (ranks_by nat_list_cmp_total (backward paths)) heads are.in_order rank r 0 low has.1.1 in
    let same : slice_cmp nat_cmp (backward paths x) (backward paths offset) ≡ Equal = tied nat_list_cmp_total (backward paths x) (backward paths offset) not_before not_after in
    let turned : backward paths x ≡ backward paths offset = (bytes_eq-Decides (backward paths x) (backward paths offset)).0 (sym (is_eq-slice_cmp (backward paths x) (backward paths offset)) ∙ ap is_eq same) in
    (lt, sym (reverse-reverse (path_at locations x)) ∙ ap reverse turned ∙ reverse-reverse (path_at locations offset))

-- ---- a node for each line

pub are_nodes : (locations : List Location) (heads : List ℕ) (points : List Point) (nodes : List Node) → ArePoints locations heads points → AddsPoints points [] nodes → AreNodes locations heads nodes
are_nodes locations heads points nodes are adds =
    let none : Point = record { rank = 0; number = 0; line = 0 } in
    record {
      tree = adds.tree (λ i lt. absurd (omega (arith, lt)));
      own = λ i lt. All-contains (IsPointOf locations heads) points (point_at nodes i) are.own (adds.own i (omega arith) lt);
      each = λ k lt.
          let within : k < length points = omega (arith, lt, are.as_many) in
          let found = adds.each (get_or points k none) (Contains-get_or points k none within) in
          (found.0, found.2, ap (λ (point : Point). point.line) found.3 ∙ are.each k none within);
    }
