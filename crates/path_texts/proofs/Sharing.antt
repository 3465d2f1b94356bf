-- The shares of a path are all of its ticks.
use Rattle.std.proofs.Common.{◌≡◌, ℕ, zero, suc, ◌+◌, ◌<◌, ◌≤◌, ◌==◌, nat_lt, if◌then◌else◌, Bool, true, false, List, [], ◌∷◌, length, map, Option, Some, None, is_none, ◌⊎◌, inl, inr, refl, arith, sum_by, eq-eqb, ne_eqb}
use Rattle.std.specs.Prelude.{option_and_then, position}
use Rattle.std.specs.List.{filter, range_with_len}
use Rattle.std.proofs.lemmas.Bool.{cases_eq, ltb-false}
use Rattle.std.proofs.lemmas.List.Sums.{sum_by-cons}
use Rattle.std.proofs.lemmas.List.Quantifiers.{position-Some}
use Rattle.coz_types.specs.declared.image.Area.{Area}
use Rattle.dwarf_lines.specs.Registers.{Table}
use Rattle.line_index.specs.Lines.{Line, line_of, is_line_named}
use Rattle.line_index.specs.Listed.{lines_in, position_in}
use Rattle.profile_labels.specs.Sorted.{put_by, sorted_by}
use Rattle.path_chains.specs.declared.event.Event.{Event}
use Rattle.path_chains.specs.declared.share.Share.{Share}
use Rattle.path_chains.specs.Path.{ticks}
use Rattle.path_chains.specs.Shares.{has_more}
use Rattle.path_texts.specs.PathText.{is_on, work_on, work_elsewhere, slept_on, share_of, has_some, all_shares}

abbrev ticks_of : Share → ℕ
ticks_of s = s.ticks

-- ---- a list in order, and one without what has nothing

module _ {X : Type 0} (lt : X → X → Bool) (f : X → ℕ) where
  put_sum : (x : X) (ys : List X) → sum_by f (put_by lt x ys) ≡ f x + sum_by f ys
  put_sum x [] = sum_by-cons f x []
  put_sum x (y ∷ ys) = by (lt y x) (put_sum x ys)
    where
      by : (b : Bool) → sum_by f (put_by lt x ys) ≡ f x + sum_by f ys
          → sum_by f (elim b [ true ↦ y ∷ put_by lt x ys | false ↦ x ∷ y ∷ ys ]) ≡ f x + sum_by f (y ∷ ys)
      by true rest = omega (arith, rest, sum_by-cons f y (put_by lt x ys), sum_by-cons f y ys)
      by false rest = sum_by-cons f x (y ∷ ys)

  sorted_sum : (xs : List X) → sum_by f (sorted_by lt xs) ≡ sum_by f xs
  unfolding sorted_by
  sorted_sum [] = refl
  sorted_sum (x ∷ xs) = omega (arith, put_sum x (sorted_by lt xs), sorted_sum xs, sum_by-cons f x xs)

some_sum : (xs : List Share) → sum_by ticks_of (filter has_some xs) ≡ sum_by ticks_of xs
some_sum [] = refl
some_sum (x ∷ xs) = by (nat_lt 0 x.ticks) refl (some_sum xs)
  where
    by : (b : Bool) → nat_lt 0 x.ticks ≡ b → sum_by ticks_of (filter has_some xs) ≡ sum_by ticks_of xs
        → sum_by ticks_of (if b then x ∷ filter has_some xs else filter has_some xs) ≡ sum_by ticks_of (x ∷ xs)
    by true e rest = omega (arith, rest, sum_by-cons ticks_of x (filter has_some xs), sum_by-cons ticks_of x xs)
    by false e rest = let none = ltb-false 0 x.ticks e in omega (arith, none, rest, sum_by-cons ticks_of x xs)

-- ---- the work of each event is that of its line

-- of one event, over the lines from one on
abbrev on_lines : Option ℕ → ℕ → ℕ → ℕ → ℕ
on_lines o cost a n = sum_by (λ k. if is_on o k then cost else 0) (range_with_len a n)

none_on : (cost a n : ℕ) → on_lines None cost a n ≡ 0
none_on cost a zero = refl
none_on cost a (suc n) = omega (arith, none_on cost (a + 1) n, sum_by-cons (λ k. if is_on None k then cost else 0) a (range_with_len (a + 1) n))

past_on : (line cost a n : ℕ) → line < a → on_lines (Some line) cost a n ≡ 0
past_on line cost a zero below = refl
past_on line cost a (suc n) below =
    let off : (if line == a then cost else 0) ≡ 0 = rw (ne_eqb line a (λ e. omega (arith, e, below))) refl in
    omega (arith, off, past_on line cost (a + 1) n (omega arith), sum_by-cons (λ k. if is_on (Some line) k then cost else 0) a (range_with_len (a + 1) n))

one_on : (line cost a n : ℕ) → a ≤ line → line < a + n → on_lines (Some line) cost a n ≡ cost
one_on line cost a zero low high = absurd (omega arith)
one_on line cost a (suc n) low high = by (cases_eq line a) (one_on line cost (a + 1) n)
  where
    all : sum_by (λ k. if is_on (Some line) k then cost else 0) (range_with_len a (suc n)) ≡ (if line == a then cost else 0) + on_lines (Some line) cost (a + 1) n
    all = sum_by-cons (λ k. if is_on (Some line) k then cost else 0) a (range_with_len (a + 1) n)

    by : (line ≡ a) ⊎ (line ≡ a → ⊥) → (a + 1 ≤ line → line < a + 1 + n → on_lines (Some line) cost (a + 1) n ≡ cost) → on_lines (Some line) cost a (suc n) ≡ cost
    by (inl same) rest =
        let on : (if line == a then cost else 0) ≡ cost = rw (eq-eqb line a same) refl in
        omega (arith, all, on, past_on line cost (a + 1) n (omega arith))
    by (inr other) rest =
        let off : (if line == a then cost else 0) ≡ 0 = rw (ne_eqb line a other) refl in
        let above : a < line = grind (arith, low, other) in
        omega (arith, all, off, rest (omega arith) (omega arith))

-- whatever line it has, if it is among these
whole : (o : Option ℕ) (cost n : ℕ) → ((k : ℕ) → o ≡ Some k → k < n) → on_lines o cost 0 n + (if is_none o then cost else 0) ≡ cost
whole None cost n among = omega (arith, none_on cost 0 n)
whole (Some line) cost n among = let below = among line refl in omega (arith, one_on line cost 0 n (omega arith) (omega arith))

module _ (line_of : ℕ → Option ℕ) where
  abbrev lines_work : List Event → List ℕ → ℕ
  lines_work path ks = sum_by (λ k. work_on line_of k path) ks

  shares_work : (path : List Event) (ks : List ℕ) → sum_by ticks_of (map (share_of line_of path) ks) ≡ lines_work path ks
  shares_work path [] = refl
  shares_work path (k ∷ ks) = omega (arith, shares_work path ks, sum_by-cons ticks_of (share_of line_of path k) (map (share_of line_of path) ks), sum_by-cons (λ j. work_on line_of j path) k ks)

  no_work : (ks : List ℕ) → lines_work [] ks ≡ 0
  no_work [] = refl
  no_work (k ∷ ks) = omega (arith, no_work ks, sum_by-cons (λ j. work_on line_of j []) k ks)

  more_work : (e : Event) (es : List Event) (ks : List ℕ) → lines_work (e ∷ es) ks ≡ sum_by (λ k. if is_on (line_of e.address) k then e.cost else 0) ks + lines_work es ks
  more_work e es [] = refl
  more_work e es (k ∷ ks) =
      omega (
        arith,
        more_work e es ks,
        sum_by-cons (λ (d : Event). if is_on (line_of d.address) k then d.cost else 0) e es,
        sum_by-cons (λ j. work_on line_of j (e ∷ es)) k ks,
        sum_by-cons (λ j. if is_on (line_of e.address) j then e.cost else 0) k ks,
        sum_by-cons (λ j. work_on line_of j es) k ks,
      )

  module _ (n : ℕ) (among : (a k : ℕ) → line_of a ≡ Some k → k < n) where
    all_work : (path : List Event) → lines_work path (range_with_len 0 n) + work_elsewhere line_of path + slept_on path ≡ sum_by ticks path
    all_work [] = omega (arith, no_work (range_with_len 0 n))
    all_work (e ∷ es) =
        omega (
          arith,
          all_work es,
          more_work e es (range_with_len 0 n),
          whole (line_of e.address) e.cost n (among e.address),
          sum_by-cons (λ (d : Event). if is_none (line_of d.address) then d.cost else 0) e es,
          sum_by-cons (λ (d : Event). d.slept) e es,
          sum_by-cons ticks e es,
        )

    -- all shares together are the ticks of the path
    pub shares_are_all : (path : List Event) → all_shares line_of n path ≡ sum_by ticks path
    shares_are_all path =
        let sorted = sorted_sum has_more ticks_of (filter has_some (map (share_of line_of path) (range_with_len 0 n))) in
        let some = some_sum (map (share_of line_of path) (range_with_len 0 n)) in
        omega (arith, sorted, some, shares_work path (range_with_len 0 n), all_work path)

-- ---- the line of an address is one of the lines

below_by : (table : Table) (areas : List Area) (o : Option Line) (k : ℕ)
    → option_and_then (λ (line : Line). position (is_line_named line.path line.number) (lines_in table areas)) o ≡ Some k → k < length (lines_in table areas)
below_by table areas None k is = cc
below_by table areas (Some line) k is = (position-Some (is_line_named line.path line.number) (lines_in table areas) k line is).0

pub position_below : (table : Table) (areas : List Area) (a k : ℕ) → position_in table areas a ≡ Some k → k < length (lines_in table areas)
unfolding position_in
position_below table areas a k is = below_by table areas (line_of table areas a) k is
