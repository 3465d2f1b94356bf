-- A k-d tree of points, and a search in it.
use Rattle.std.proofs.Common.{◌≡◌, ℕ, ◌+◌, ◌<◌, ◌≤◌, inl, inr, ⊎_elim, Bool, true, false, List, [], ◌∷◌, ◌++◌, length, get_or, Option, Some, None, nat_le, refl, sym, ap, ◌∙◌, subst, arith, if◌then◌else◌}
use Rattle.std.specs.Prelude.{Contains}
use Rattle.std.specs.List.Sorted.{IsPermutation}
use Rattle.std.proofs.lemmas.Bool.{cases_lt}
use Rattle.std.proofs.lemmas.Bool.Decides.{nat_tests}
use Rattle.std.proofs.lemmas.List.{get_or_append_left, get_or_default, length-append}
use Rattle.std.proofs.lemmas.List.Elements.{Contains-append_cases, Contains-append_left, Contains-append_right, Contains-get_or}
use Rattle.std.proofs.lemmas.List.Sorted.{Contains-permutation, IsPermutation-sym, length_permutation}
use Rattle.std.proofs.Math.Seq.{get_or-append_seam}
use Rattle.line_index.specs.Changes.{least}
use Rattle.line_regions.specs.declared.tree.Interval.{Interval}
use Rattle.line_regions.specs.declared.tree.Rectangle.{Rectangle}
use Rattle.line_regions.specs.declared.tree.Point.{Point}
use Rattle.line_regions.specs.declared.tree.Cover.{Cover}
use Rattle.line_regions.specs.declared.tree.Node.{Node}
use Rattle.line_regions.specs.Lines.{IsFirst}
use Rattle.line_regions.specs.Tree.{AddsPoints, Covers, HasPoint, IsCoverOf, IsHeld, IsIn, IsPointIn, IsRoot, IsWithin, Meets, node_at, point_at, widened, zero_node}
use Rattle.line_regions.proofs.Found.{least_first}

-- ---- covers

in_widened : (interval : Interval) (n x : ℕ) → IsIn x interval → IsIn x (widened interval n)
in_widened interval n x h = (low (nat_le interval.least n) refl, high (nat_le n interval.greatest) refl)
  where
    low : (t : Bool) → nat_le interval.least n ≡ t → (if t then interval.least else n) ≤ x
    low true e = h.0
    low false e = grind (arith, nat_tests, h.0)

    high : (t : Bool) → nat_le n interval.greatest ≡ t → x ≤ (if t then interval.greatest else n)
    high true e = h.1
    high false e = grind (arith, nat_tests, h.1)

widened_in : (interval : Interval) (n : ℕ) → IsIn n (widened interval n)
widened_in interval n = (low (nat_le interval.least n) refl, high (nat_le n interval.greatest) refl)
  where
    low : (t : Bool) → nat_le interval.least n ≡ t → (if t then interval.least else n) ≤ n
    low true e = grind (arith, nat_tests)
    low false e = omega arith

    high : (t : Bool) → nat_le n interval.greatest ≡ t → n ≤ (if t then interval.greatest else n)
    high true e = grind (arith, nat_tests)
    high false e = omega arith

lesser_low : (x y : ℕ) → ((if nat_le x y then x else y) ≤ x) × ((if nat_le x y then x else y) ≤ y)
lesser_low x y = by (nat_le x y) refl
  where
    by : (t : Bool) → nat_le x y ≡ t → ((if t then x else y) ≤ x) × ((if t then x else y) ≤ y)
    by true e = (omega arith, grind (arith, nat_tests))
    by false e = (grind (arith, nat_tests), omega arith)

lesser_of : (P : ℕ → Type 0) (x y : ℕ) → P x → P y → P (if nat_le x y then x else y)
lesser_of P x y p q = by (nat_le x y)
  where
    by : (t : Bool) → P (if t then x else y)
    by true = p
    by false = q

-- the points of a list below an index, and a line of some point
abbrev pub CoversTo : List Point → ℕ → Cover → Type 0
CoversTo points n cover =
    ((k : ℕ) (d : Point) → k < n → Covers cover (get_or points k d))
    × ((point : Point) × Contains points point × (point.line ≡ cover.first))

module _ (cover wide : Cover) (one : Point) (ranks : wide.bounds.ranks ≡ widened cover.bounds.ranks one.rank) (numbers : wide.bounds.numbers ≡ widened cover.bounds.numbers one.number) (first : wide.first ≡ (if nat_le cover.first one.line then cover.first else one.line)) where
  others : (point : Point) → Covers cover point → Covers wide point
  others point ((rank, number), line) = (
    (subst (λ (i : Interval). IsIn point.rank i) (sym ranks) (in_widened cover.bounds.ranks one.rank point.rank rank), subst (λ (i : Interval). IsIn point.number i) (sym numbers) (in_widened cover.bounds.numbers one.number point.number number)),
    (let low = (lesser_low cover.first one.line).0 in omega (arith, first, low, line)),
  )

  itself : Covers wide one
  itself = (
    (subst (λ (i : Interval). IsIn one.rank i) (sym ranks) (widened_in cover.bounds.ranks one.rank), subst (λ (i : Interval). IsIn one.number i) (sym numbers) (widened_in cover.bounds.numbers one.number)),
    (let low = (lesser_low cover.first one.line).1 in omega (arith, first, low)),
  )

  pub cover_more : (points : List Point) (n : ℕ) (d : Point) → one ≡ get_or points n d → n < length points → CoversTo points n cover → CoversTo points (n + 1) wide
  cover_more points n d is lt so_far = (
    λ k e less. ⊎_elim
        (λ (before : k < n). others (get_or points k e) (so_far.0 k e before))
        (λ (le : n ≤ k). (let at : n ≡ k = omega (arith, le, less) in
        let same : one ≡ get_or points k e = is ∙ get_or_default points n d e lt ∙ ap (λ i. get_or points i e) at in
        subst (λ (point : Point). Covers wide point) same itself))
        (cases_lt k n),
    subst (λ (i : ℕ). (point : Point) × Contains points point × (point.line ≡ i)) (sym first)
        (lesser_of (λ (i : ℕ). (point : Point) × Contains points point × (point.line ≡ i)) cover.first one.line so_far.1
        (one, subst (λ (point : Point). Contains points point) (sym is) (Contains-get_or points n d lt), refl)),
  )

-- ---- one more node

node_before : (nodes : List Node) (node : Node) (k : ℕ) → k < length nodes → node_at (nodes ++ node ∷ []) k ≡ node_at nodes k
node_before nodes node k lt = get_or_append_left nodes (node ∷ []) zero_node k lt

node_here : (nodes : List Node) (node : Node) → node_at (nodes ++ node ∷ []) (length nodes) ≡ node
node_here nodes node = get_or-append_seam nodes node [] zero_node

-- nodes that are alike up to an index have the same root there
root_kept : (old new : List Node) (i : ℕ) → ((k : ℕ) → k ≤ i → node_at new k ≡ node_at old k) → IsRoot old i → IsRoot new i
root_kept old new i same root =
    let here : node_at new i ≡ node_at old i = same i (omega arith) in
    let begins : (k : ℕ) → (node_at new i).start ≤ k → (node_at old i).start ≤ k = λ k le. subst (λ (n : Node). n.start ≤ k) here le in
    let first = root.first in
    record {
      start = subst (λ (n : Node). n.start ≤ i) (sym here) root.start;
      all = λ k low high. subst (λ (n : Node). Covers n.cover (point_at new k)) (sym here) (subst (λ (n : Node). Covers (node_at old i).cover n.point) (sym (same k high)) (root.all k (begins k low) high));
      first = (
        first.0,
        subst (λ (n : Node). n.start ≤ first.0) (sym here) first.1,
        first.2,
        ap (λ (n : Node). n.point.line) (same first.0 first.2) ∙ first.3 ∙ ap (λ (n : Node). n.cover.first) (sym here),
      );
    }

-- ---- a subtree of points

pub none_added : (nodes : List Node) → AddsPoints [] nodes nodes
none_added nodes = record {
  tree = λ tree. tree;
  as_many = omega arith;
  kept = λ k lt. refl;
  each = λ point has. absurd (omega (arith, has.1));
  own = λ k low high. absurd (omega (arith, low, high));
}

pub parted_many : (points front back : List Point) (one : Point) → IsPermutation points (front ++ one ∷ back) → length points ≡ length front + length back + 1
parted_many points front back one moved =
    let same : length (front ++ one ∷ back) ≡ length points = length_permutation points (front ++ one ∷ back) moved in
    omega (arith, same, length-append front (one ∷ back))

module _ (points front back : List Point) (one : Point) (old a b new : List Node) (node : Node) (moved : IsPermutation points (front ++ one ∷ back)) (first : AddsPoints front old a) (second : AddsPoints back a b)
    (made : new ≡ b ++ node ∷ []) (point : node.point ≡ one) (start : node.start ≡ length old) (cover : IsCoverOf points node.cover) (many : length points ≡ length front + length back + 1) where
  long : length new ≡ length b + 1
  long = ap (λ (nodes : List Node). length nodes) made ∙ length-append b (node ∷ [])

  before : (k : ℕ) → k < length b → node_at new k ≡ node_at b k
  before k lt = ap (λ (nodes : List Node). node_at nodes k) made ∙ node_before b node k lt

  here : node_at new (length b) ≡ node
  here = ap (λ (nodes : List Node). node_at nodes (length b)) made ∙ node_here b node

  point_here : point_at new (length b) ≡ one
  point_here = ap (λ (n : Node). n.point) here ∙ point

  back_to : (p : Point) → Contains (front ++ one ∷ back) p → Contains points p
  back_to p has = Contains-permutation (front ++ one ∷ back) points p (IsPermutation-sym points (front ++ one ∷ back) moved) has

  has_one : Contains (one ∷ back) one
  has_one = (0, omega arith, refl)

  has_back : (p : Point) → Contains back p → Contains (one ∷ back) p
  has_back p has = Contains-append_right (one ∷ []) back p has

  from_front : (p : Point) → HasPoint a (length old) p → HasPoint new (length old) p
  from_front p (k, low, high, is) =
      let in_b : k < length b = omega (arith, high, second.as_many) in
      (k, low, omega (arith, in_b, long), ap (λ (n : Node). n.point) (before k in_b ∙ second.kept k high) ∙ is)

  from_back : (p : Point) → HasPoint b (length a) p → HasPoint new (length old) p
  from_back p (k, low, high, is) =
      (k, omega (arith, low, first.as_many), omega (arith, high, long), ap (λ (n : Node). n.point) (before k high) ∙ is)

  from_here : (p : Point) → one ≡ p → HasPoint new (length old) p
  from_here p same = (length b, omega (arith, first.as_many, second.as_many), omega (arith, long), point_here ∙ same)

  in_rest : (p : Point) → Contains (one ∷ back) p → HasPoint new (length old) p
  in_rest p has = ⊎_elim
      (λ (single : Contains (one ∷ []) p). from_here p (only p single))
      (λ (more : Contains back p). from_back p (second.each p more))
      (Contains-append_cases (one ∷ []) back p has)
    where
      only : (p : Point) → Contains (one ∷ []) p → one ≡ p
      only p (k, lt, is) = let zero : k ≡ 0 = omega (arith, lt) in sym (ap (λ i. get_or (one ∷ []) i p) zero) ∙ is

  each : (p : Point) → Contains points p → HasPoint new (length old) p
  each p has = ⊎_elim
      (λ (h : Contains front p). from_front p (first.each p h))
      (λ (h : Contains (one ∷ back) p). in_rest p h)
      (Contains-append_cases front (one ∷ back) p (Contains-permutation points (front ++ one ∷ back) p moved has))

  own : (k : ℕ) → length old ≤ k → k < length new → Contains points (point_at new k)
  own k low high = ⊎_elim of_front (λ (le : length a ≤ k). ⊎_elim (of_back le) of_one (cases_lt k (length b))) (cases_lt k (length a))
    where
      of_front : k < length a → Contains points (point_at new k)
      of_front lt =
          let in_b : k < length b = omega (arith, lt, second.as_many) in
          subst (λ (n : Node). Contains points n.point) (sym (before k in_b ∙ second.kept k lt)) (back_to (point_at a k) (Contains-append_left front (one ∷ back) (point_at a k) (first.own k low lt)))

      of_back : length a ≤ k → k < length b → Contains points (point_at new k)
      of_back le lt =
          subst (λ (n : Node). Contains points n.point) (sym (before k lt)) (back_to (point_at b k) (Contains-append_right front (one ∷ back) (point_at b k) (has_back (point_at b k) (second.own k le lt))))

      of_one : length b ≤ k → Contains points (point_at new k)
      of_one le =
          let last : length b ≡ k = omega (arith, le, high, long) in
          subst (λ (i : ℕ). Contains points (point_at new i)) last (subst (λ (p : Point). Contains points p) (sym point_here) (back_to one (Contains-append_right front (one ∷ back) one has_one)))

  last_root : IsRoot new (length b)
  last_root =
      let begins : (node_at new (length b)).start ≡ length old = ap (λ (n : Node). n.start) here ∙ start in
      let covered : (node_at new (length b)).cover ≡ node.cover = ap (λ (n : Node). n.cover) here in
      let found = each cover.first.0 cover.first.1 in
      record {
        start = omega (arith, begins, first.as_many, second.as_many);
        all = λ k low high. subst (λ (c : Cover). Covers c (point_at new k)) (sym covered) (cover.all (point_at new k) (own k (omega (arith, begins, low)) (omega (arith, high, long))));
        first = (
          found.0,
          omega (arith, begins, found.1),
          omega (arith, found.2, long),
          ap (λ (p : Point). p.line) found.3 ∙ cover.first.2 ∙ ap (λ (c : Cover). c.first) (sym covered),
        );
      }

  pub subtree_added : AddsPoints points old new
  subtree_added = record {
    tree = λ tree i lt. ⊎_elim
        (λ (less : i < length b). root_kept b new i (λ k le. before k (omega (arith, le, less))) (second.tree (first.tree tree) i less))
        (λ (le : length b ≤ i). (let last : length b ≡ i = omega (arith, le, lt, long) in subst (λ (n : ℕ). IsRoot new n) last last_root))
        (cases_lt i (length b));
    as_many = omega (arith, long, first.as_many, second.as_many, many);
    kept = λ k lt. before k (omega (arith, lt, first.as_many, second.as_many)) ∙ second.kept k (omega (arith, lt, first.as_many)) ∙ first.kept k lt;
    each = each;
    own = own;
  }

-- ---- a search

pub none_held : (nodes : List Node) (wanted : Rectangle) (count end : ℕ) → IsFirst count (IsHeld nodes wanted end end) None
none_held nodes wanted count end = λ line lt held. absurd (omega (arith, held.1, held.2))

pub one_step : (nodes : List Node) (wanted : Rectangle) (count start end all : ℕ) (found one : Option ℕ) → start ≤ end → end ≤ all → IsFirst count (IsHeld nodes wanted end all) found → IsFirst count (IsHeld nodes wanted start end) one → IsFirst count (IsHeld nodes wanted start all) (least found one)
one_step nodes wanted count start end all found one le within a b =
    least_first count (IsHeld nodes wanted end all) (IsHeld nodes wanted start end) (IsHeld nodes wanted start all) found one a b
    (λ line h. (h.0, omega (arith, h.1, le), h.2, h.3, h.4))
    (λ line h. (h.0, h.1, omega (arith, h.2, within), h.3, h.4))
    (λ line h. ⊎_elim (λ less. inr (h.0, h.1, less, h.3, h.4)) (λ ge. inl (h.0, ge, h.2, h.3, h.4)) (cases_lt h.0 end))

module _ (nodes : List Node) (wanted : Rectangle) (i : ℕ) (root : IsRoot nodes i) where
  -- no point of the subtree is searched for
  pub none_met : (count end : ℕ) → end ≡ i + 1 → ((Meets (node_at nodes i).cover.bounds.ranks wanted.ranks × Meets (node_at nodes i).cover.bounds.numbers wanted.numbers) → ⊥) → IsFirst count (IsHeld nodes wanted (node_at nodes i).start end) None
  none_met count end is apart line lt (k, low, high, (rank, number), same) =
      let covered = (root.all k low (omega (arith, high, is))).0 in
      apart ((omega (arith, covered.0.0, rank.1), omega (arith, covered.0.1, rank.0)), (omega (arith, covered.1.0, number.1), omega (arith, covered.1.1, number.0)))

  -- all of them are
  pub all_within : (count end : ℕ) → end ≡ i + 1 → (node_at nodes i).cover.first < count → IsWithin (node_at nodes i).cover.bounds.ranks wanted.ranks → IsWithin (node_at nodes i).cover.bounds.numbers wanted.numbers
      → IsFirst count (IsHeld nodes wanted (node_at nodes i).start end) (Some (node_at nodes i).cover.first)
  all_within count end is small ranks numbers =
      let first = root.first in
      let covered = (root.all first.0 first.1 first.2).0 in (
        small,
        (
          first.0,
          first.1,
          omega (arith, first.2, is),
          ((omega (arith, covered.0.0, ranks.0), omega (arith, covered.0.1, ranks.1)), (omega (arith, covered.1.0, numbers.0), omega (arith, covered.1.1, numbers.1))),
          first.3,
        ),
        λ line less held. (let after = (root.all held.0 held.1 (omega (arith, held.2, is))).1 in absurd (omega (arith, after, held.4, less))),
      )

pub own_held : (nodes : List Node) (wanted : Rectangle) (count i end : ℕ) → end ≡ i + 1 → (point_at nodes i).line < count → IsPointIn (point_at nodes i) wanted → IsFirst count (IsHeld nodes wanted i end) (Some (point_at nodes i).line)
own_held nodes wanted count i end is small inside = (
  small,
  (i, omega arith, omega (arith, is), inside, refl),
  λ line less held. (let at : held.0 ≡ i = omega (arith, held.1, held.2, is) in let same : (point_at nodes i).line ≡ line = ap (λ k. (point_at nodes k).line) (sym at) ∙ held.4 in absurd (omega (arith, same, less))),
)

pub own_not_held : (nodes : List Node) (wanted : Rectangle) (count i end : ℕ) → end ≡ i + 1 → (IsPointIn (point_at nodes i) wanted → ⊥) → IsFirst count (IsHeld nodes wanted i end) None
own_not_held nodes wanted count i end is outside line lt held =
    let at : held.0 ≡ i = omega (arith, held.1, held.2, is) in
    outside (subst (λ (k : ℕ). IsPointIn (point_at nodes k) wanted) at held.3)
