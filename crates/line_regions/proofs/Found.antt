-- The first line of a region.
use Rattle.std.proofs.Common.{◌≡◌, ℕ, ◌+◌, ◌<◌, ◌≤◌, ◌⊎◌, ⊎_elim, zero, suc, Bool, true, false, List, [], ◌∷◌, length, get_or, find, Option, Some, None, option_map, refl, sym, ap, ◌∙◌, subst, arith, nat_le, le-leb, cond}
use Rattle.std.proofs.lemmas.Bool.{and_parts, and_from, false_from_ne_true, leb-true, leb-false}
use Rattle.std.proofs.lemmas.List.{get_or-map}
use Rattle.line_index.specs.Changes.{least}
use Rattle.line_index.specs.Lines.{Line, ends_with}
use Rattle.line_index.specs.Backwards.{IsStretch}
use Rattle.line_remap.specs.declared.location.Location.{Location}
use Rattle.line_regions.specs.declared.tree.Node.{Node}
use Rattle.line_regions.specs.declared.tree.Rectangle.{Rectangle}
use Rattle.line_regions.specs.Tree.{IsHeld, point_at}
use Rattle.line_regions.specs.Lines.{AreNodes, IsBelow, IsFirst, line_in, lines_at, number_at_location, path_at, paths_at}
use Rattle.line_regions.specs.Regions.{Region, is_numbered}
use Rattle.line_regions.proofs.Spans.{line_there, many}

-- ---- the first of two kinds

pub least_first : (count : ℕ) (P Q R : ℕ → Type 0) (a b : Option ℕ) → IsFirst count P a → IsFirst count Q b → ((k : ℕ) → P k → R k) → ((k : ℕ) → Q k → R k) → ((k : ℕ) → R k → P k ⊎ Q k) → IsFirst count R (least a b)
least_first count P Q R None None a b from_P from_Q either = λ k lt r. ⊎_elim (a k lt) (b k lt) (either k r)
least_first count P Q R None (Some y) a b from_P from_Q either = (b.0, from_Q y b.1, λ k less r. ⊎_elim (λ p. a k (omega (arith, less, b.0)) p) (b.2 k less) (either k r))
least_first count P Q R (Some x) None a b from_P from_Q either = (a.0, from_P x a.1, λ k less r. ⊎_elim (a.2 k less) (λ q. b k (omega (arith, less, a.0)) q) (either k r))
least_first count P Q R (Some x) (Some y) a b from_P from_Q either = by (nat_le x y) refl
  where
    by : (t : Bool) → nat_le x y ≡ t → IsFirst count R (cond t (Some x) (Some y))
    by true e =
        let le : x ≤ y = leb-true x y e in
        (a.0, from_P x a.1, λ k less r. ⊎_elim (a.2 k less) (λ q. b.2 k (omega (arith, less, le)) q) (either k r))
    by false e =
        let less_than : y < x = leb-false x y e in
        (b.0, from_Q y b.1, λ k less r. ⊎_elim (λ p. a.2 k (omega (arith, less, less_than)) p) (b.2 k less) (either k r))

pub same_first : (count : ℕ) (P Q : ℕ → Type 0) (a : Option ℕ) → ((k : ℕ) → k < count → P k → Q k) → ((k : ℕ) → k < count → Q k → P k) → IsFirst count P a → IsFirst count Q a
same_first count P Q None to back a = λ k lt q. a k lt (back k lt q)
same_first count P Q (Some x) to back a = (a.0, to x a.0 a.1, λ k less q. a.2 k less (back k (omega (arith, less, a.0)) q))

-- ---- the lines below a path

zero_path : (locations : List Location) (k : ℕ) → k < length locations → (line_in (lines_at locations) k).path ≡ path_at locations k
zero_path locations k lt =
    let zero_location : Location = record { path = record { ref_ptr = (0, 0); now = [] }; number = 0 } in
    ap (λ (l : Line). l.path) (line_there locations k zero_location (record { path = []; number = 0 }) lt)
    ∙ sym (get_or-map (λ (location : Location). location.path.now) locations k zero_location [] lt)

zero_number : (locations : List Location) (k : ℕ) → k < length locations → (line_in (lines_at locations) k).number ≡ number_at_location locations k
zero_number locations k lt =
    let zero_location : Location = record { path = record { ref_ptr = (0, 0); now = [] }; number = 0 } in
    ap (λ (l : Line). l.number) (line_there locations k zero_location (record { path = []; number = 0 }) lt)
    ∙ sym (get_or-map (λ (location : Location). location.number) locations k zero_location 0 lt)

module _ (locations : List Location) (heads : List ℕ) (nodes : List Node) (region : Region) (wanted : Rectangle) (start end : ℕ) (are : AreNodes locations heads nodes) (stretch : IsStretch (paths_at locations) heads region.path start end)
    (least_rank : wanted.ranks.least ≡ start) (greatest_rank : wanted.ranks.greatest + 1 ≡ end) (first : wanted.numbers.least ≡ region.first) (last : wanted.numbers.greatest ≡ region.last) where
  held_below : (k : ℕ) → IsHeld nodes wanted 0 (length nodes) k → (k < length locations) × IsBelow (lines_at locations) region k
  held_below k (i, _, lt, (rank, number), same) =
      let point = point_at nodes i in
      let is = are.own i lt in
      let within : k < length locations = omega (arith, is.within, same) in
      let line = line_in (lines_at locations) k in
      let path : line.path ≡ path_at locations (get_or heads point.rank 0) = zero_path locations k within ∙ ap (path_at locations) (sym same) ∙ sym is.rank.1 in
      let its : point.number ≡ line.number = is.number ∙ ap (number_at_location locations) same ∙ sym (zero_number locations k within) in (
        within,
        and_from (ends_with line.path region.path) (is_numbered region line)
            (ap (λ p. ends_with p region.path) path ∙ (stretch point.rank is.rank.0).0 (omega (arith, rank.0, least_rank), omega (arith, rank.1, greatest_rank)))
            (and_from (nat_le region.first line.number) (nat_le line.number region.last) (le-leb region.first line.number (omega (arith, number.0, first, its))) (le-leb line.number region.last (omega (arith, number.1, last, its)))),
      )

  below_held : (k : ℕ) → k < length locations → IsBelow (lines_at locations) region k → IsHeld nodes wanted 0 (length nodes) k
  below_held k within below =
      let line = line_in (lines_at locations) k in
      let has = are.each k within in
      let i = has.0 in
      let point = point_at nodes i in
      let is = are.own i has.1 in
      let same : point.line ≡ k = has.2 in
      let path : line.path ≡ path_at locations (get_or heads point.rank 0) = zero_path locations k within ∙ ap (path_at locations) (sym same) ∙ sym is.rank.1 in
      let its : point.number ≡ line.number = is.number ∙ ap (number_at_location locations) same ∙ sym (zero_number locations k within) in
      let parts = and_parts (ends_with line.path region.path) (is_numbered region line) below in
      let numbers = and_parts (nat_le region.first line.number) (nat_le line.number region.last) parts.1 in
      let among = (stretch point.rank is.rank.0).1 (ap (λ p. ends_with p region.path) (sym path) ∙ parts.0) in
      let low : region.first ≤ line.number = leb-true region.first line.number numbers.0 in
      let high : line.number ≤ region.last = leb-true line.number region.last numbers.1 in (
        i,
        omega arith,
        has.1,
        ((omega (arith, among.0, least_rank), omega (arith, among.1, greatest_rank)), (omega (arith, low, first, its), omega (arith, high, last, its))),
        same,
      )

  pub first_below_of : (count : ℕ) (a : Option ℕ) → length locations ≤ count → IsFirst count (IsHeld nodes wanted 0 (length nodes)) a → IsFirst (length locations) (IsBelow (lines_at locations) region) a
  first_below_of count None few none = λ k lt below. none k (omega (arith, lt, few)) (below_held k lt below)
  first_below_of count (Some x) few (small, held, before) =
      let is = held_below x held in
      (is.0, is.1, λ k less below. before k less (below_held k (omega (arith, less, is.0)) below))

-- no path ends so
pub none_below : (locations : List Location) (heads : List ℕ) (nodes : List Node) (region : Region) (start end : ℕ) → AreNodes locations heads nodes → IsStretch (paths_at locations) heads region.path start end → end ≤ start → IsFirst (length locations) (IsBelow (lines_at locations) region) None
none_below locations heads nodes region start end are stretch empty k within below =
    let line = line_in (lines_at locations) k in
    let has = are.each k within in
    let point = point_at nodes has.0 in
    let is = are.own has.0 has.1 in
    let path : line.path ≡ path_at locations (get_or heads point.rank 0) = zero_path locations k within ∙ ap (path_at locations) (sym has.2) ∙ sym is.rank.1 in
    let parts = and_parts (ends_with line.path region.path) (is_numbered region line) below in
    let among = (stretch point.rank is.rank.0).1 (ap (λ p. ends_with p region.path) (sym path) ∙ parts.0) in
    omega (arith, among.0, among.1, empty)

-- ---- what a search finds

abbrev pub IsPassed : List Line → (Line → Bool) → ℕ → Type 0
IsPassed lines test k = test (line_in lines k) ≡ true

pub found_by : (lines : List Line) (test : Line → Bool) (a : Option ℕ) → IsFirst (length lines) (IsPassed lines test) a → find test lines ≡ option_map (line_in lines) a
found_by [] test None a = refl
found_by [] test (Some x) a = absurd (omega (arith, a.0))
found_by (l ∷ ls) test None a =
    ap (λ t. cond t (Some l) (find test ls)) (false_from_ne_true (test l) (λ e. a 0 (omega arith) e))
    ∙ found_by ls test None (λ k lt holds. a (suc k) (omega (arith, lt)) holds)
found_by (l ∷ ls) test (Some zero) a = ap (λ t. cond t (Some l) (find test ls)) a.1
found_by (l ∷ ls) test (Some (suc x)) a = ap (λ t. cond t (Some l) (find test ls)) (false_from_ne_true (test l) (λ e. a.2 0 (omega arith) e)) ∙ found_by ls test (Some x) (omega (arith, a.0), a.1, λ k less holds. a.2 (suc k) (omega (arith, less)) holds)

pub first_in_lines : (locations : List Location) (test : Line → Bool) (a : Option ℕ) → IsFirst (length locations) (IsPassed (lines_at locations) test) a → find test (lines_at locations) ≡ option_map (line_in (lines_at locations)) a
first_in_lines locations test a is = found_by (lines_at locations) test a (subst (λ (n : ℕ). IsFirst n (IsPassed (lines_at locations) test) a) (sym (many locations)) is)
