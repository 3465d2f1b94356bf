-- Lines by number and by the rank of their paths, and the first of those whose paths end alike.
use Rattle.std.proofs.Common.{◌≡◌, ℕ, ◌+◌, ◌<◌, ◌≤◌, ◌⊎◌, inl, inr, ⊎_elim, true, false, List, [], ◌∷◌, ◌++◌, length, map, take, get_or, set, Option, Ordering, All, Contains, nat_lt, ◌&&◌, ◌==◌, refl, sym, ap, ◌∙◌, subst, arith}
use Rattle.std.specs.declared.cmp.Ordering.TheVariants.{Less, Equal, Greater}
use Rattle.std.specs.Ordering.{nat_cmp, ordering_then, is_lt}
use Rattle.std.specs.Cmp.{IsTotalOrder, nat_cmp_total, on_total, then_total}
use Rattle.std.specs.List.{position}
use Rattle.std.specs.List.Sorted.{IsPermutation, IsSorted, IsPartitionPoint, IsPartitionedBy}
use Rattle.std.proofs.lemmas.Bool.{cases_lt, cases_eq, eqb-true, eq-eqb, and_parts, and_from, or_cases, or_left, or_right}
use Rattle.std.proofs.lemmas.Bool.Decides.{nat_tests}
use Rattle.std.proofs.lemmas.Cmp.{ranked}
use Rattle.std.proofs.lemmas.List.{length-map, get_or-map, get_or-set_same, get_or-set_other, take_more, take_all}
use Rattle.std.proofs.lemmas.List.Elements.{All-get_or, All-weaker}
use Rattle.std.proofs.lemmas.List.Sorted.{All-permutation, Contains-permutation, IsPermutation-map, ranks_by, sorted_far}
use Rattle.line_index.specs.declared.endings.Ending.{Ending}
use Rattle.line_index.specs.declared.endings.Endings.{Endings}
use Rattle.line_index.specs.declared.lines.Key.{Key}
use Rattle.line_index.specs.Lines.{ends_with, is_line_below}
use Rattle.line_index.specs.Keys.{with_path}
use Rattle.line_index.specs.Backwards.{IsStretch}
use Rattle.line_index.specs.Index.{line_at}
use Rattle.line_index.specs.Endings.{AreRanks, HoldsLines, IsBetween, IsEnding, IsLeast, IsRanked, ending_order, is_before, key_of, lines_of}
use Rattle.line_index.proofs.Firsts.{IsOf, first_is}
use Rattle.line_index.proofs.Pieces.{Among, to_among}

-- ---- ranks

pub among_kept : {X : Type 0} (x y : X) (xs : List X) → Among x xs → Among x (xs ++ y ∷ [])
among_kept x y [] h = absurd h
among_kept x y (z ∷ xs) (inl e) = inl e
among_kept x y (z ∷ xs) (inr h) = inr (among_kept x y xs h)

among_new : {X : Type 0} (x y : X) (xs : List X) → y ≡ x → Among x (xs ++ y ∷ [])
among_new x y [] e = inl e
among_new x y (z ∷ xs) e = inr (among_new x y xs e)

-- one more position
pub positions_more : (list : List ℕ) (n : ℕ) → ((k : ℕ) → k < n → Among k list) → (k : ℕ) → k < n + 1 → Among k (list ++ n ∷ [])
positions_more list n each k lt =
    ⊎_elim (λ less. among_kept k n list (each k less)) (λ ge. among_new k n list (omega (arith, lt, ge))) (cases_lt k n)

among_last : {X : Type 0} (x y : X) (xs : List X) → Among x (xs ++ y ∷ []) → Among x xs ⊎ (y ≡ x)
among_last x y [] (inl e) = inr e
among_last x y [] (inr h) = absurd h
among_last x y (z ∷ xs) (inl e) = inl (inl e)
among_last x y (z ∷ xs) (inr h) = ⊎_elim (λ rest. inl (inr rest)) (λ e. inr e) (among_last x y xs h)

-- the paths of the first ranks have theirs
abbrev pub RankedTo : List ℕ → List ℕ → ℕ → Type 0
RankedTo backwards ranks i = (path : ℕ) → Among path (take i backwards) → (get_or ranks path 0 < i) × (get_or backwards (get_or ranks path 0) 0 ≡ path)

pub ranked_more : (backwards ranks : List ℕ) (i p : ℕ) → i < length backwards → p ≡ get_or backwards i 0 → p < length ranks → RankedTo backwards ranks i → RankedTo backwards (set ranks p i) (i + 1)
ranked_more backwards ranks i p lt is within so_far path h =
    ⊎_elim
    (λ same.
    let here : get_or (set ranks p i) path 0 ≡ i = ap (λ k. get_or (set ranks p i) k 0) same ∙ get_or-set_same ranks p i 0 within in
    (omega (arith, here), ap (λ k. get_or backwards k 0) here ∙ sym is ∙ sym same))
    (λ differs.
    let there : get_or (set ranks p i) path 0 ≡ get_or ranks path 0 = get_or-set_other ranks p path i 0 differs in
    let one : Among path (take i backwards ++ get_or backwards i 0 ∷ []) = subst (λ (xs : List ℕ). Among path xs) (take_more backwards i 0 lt) h in
    let old : Among path (take i backwards) = ⊎_elim (λ k. k) (λ e. absurd (differs (sym e ∙ sym is))) (among_last path (get_or backwards i 0) (take i backwards) one) in
    let before = so_far path old in
    (omega (arith, there, before.0), ap (λ k. get_or backwards k 0) there ∙ before.1))
    (cases_eq path p)

pub all_ranked : (backwards ranks : List ℕ) (i : ℕ) → i ≡ length backwards → RankedTo backwards ranks i → AreRanks backwards ranks
all_ranked backwards ranks i is so_far path one =
    let found = so_far path (subst (λ (xs : List ℕ). Among path xs) (sym (take_all i backwards (omega (arith, is)))) (to_among path backwards one.0 one.1 one.2)) in
    (omega (arith, is, found.0), found.1)

-- ---- lines with ranks

pub line_kept : (list : List Ending) (one : Ending) (p : ℕ) → Among p (lines_of list) → Among p (lines_of (list ++ one ∷ []))
line_kept [] one p h = absurd h
line_kept (other ∷ list) one p (inl e) = inl e
line_kept (other ∷ list) one p (inr h) = inr (line_kept list one p h)

line_new : (list : List Ending) (one : Ending) (p : ℕ) → one.line ≡ p → Among p (lines_of (list ++ one ∷ []))
line_new [] one p e = inl e
line_new (other ∷ list) one p e = inr (line_new list one p e)

pub lines_more : (list : List Ending) (one : Ending) (n : ℕ) → one.line ≡ n → ((k : ℕ) → k < n → Among k (lines_of list)) → (k : ℕ) → k < n + 1 → Among k (lines_of (list ++ one ∷ []))
lines_more list one n line each k lt =
    ⊎_elim (λ less. line_kept list one k (each k less)) (λ ge. line_new list one k (omega (arith, line, lt))) (cases_lt k n)

-- the line at a position
abbrev pub ending_at : List Key → List ℕ → ℕ → Ending
ending_at keys ranks line = record { number = (key_of keys line).number; rank = get_or ranks (key_of keys line).path 0; line = line }

pub ranked_at : (keys : List Key) (ranks : List ℕ) (line : ℕ) → line < length keys → IsRanked keys ranks (ending_at keys ranks line)
ranked_at keys ranks line lt = record { within = lt; number = refl; rank = refl }

is_ending : (keys : List Key) (backwards ranks : List ℕ) (many : ℕ) → AreRanks backwards ranks → ((k : ℕ) → k < many → Contains backwards k) → All (λ (key : Key). key.path < many) keys → (one : Ending) → IsRanked keys ranks one → IsEnding keys backwards one
is_ending keys backwards ranks many are each have one own =
    let path : ℕ = (key_of keys one.line).path in
    let there = are path (each path (All-get_or (λ (key : Key). key.path < many) keys one.line (with_path 0 0) own.within have)) in
    record {
      within = own.within;
      number = own.number;
      placed = subst (λ k. k < length backwards) (sym own.rank) there.0;
      path = ap (λ k. get_or backwards k 0) own.rank ∙ there.1;
    }

-- a sort keeps them
pub holds_lines : (keys : List Key) (backwards ranks : List ℕ) (many : ℕ) (list sorted : List Ending) → AreRanks backwards ranks → ((k : ℕ) → k < many → Contains backwards k) → All (λ (key : Key). key.path < many) keys
    → All (IsRanked keys ranks) list → ((k : ℕ) → k < length keys → Contains (lines_of list) k) → IsPermutation list sorted → All (IsEnding keys backwards) sorted × ((k : ℕ) → k < length keys → Contains (lines_of sorted) k)
holds_lines keys backwards ranks many list sorted are each have own lines moved = (
  All-permutation (IsEnding keys backwards) list sorted moved (All-weaker (IsRanked keys ranks) (IsEnding keys backwards) (is_ending keys backwards ranks many are each have) list own),
  λ k lt. Contains-permutation (lines_of list) (lines_of sorted) k (IsPermutation-map (λ (one : Ending). one.line) list sorted moved) (lines k lt),
)

-- ---- their order

abbrev Before : ℕ → ℕ → Ending → Type 0
Before number rank one = (one.number < number) ⊎ ((one.number ≡ number) × (one.rank < rank))

to_before : (number rank : ℕ) (one : Ending) → Before number rank one → is_before number rank one ≡ true
to_before number rank one (inl lt) = let t : nat_lt one.number number ≡ true = grind (arith, nat_tests) in or_left (nat_lt one.number number) ((one.number == number) && nat_lt one.rank rank) t
to_before number rank one (inr h) =
    let t : nat_lt one.rank rank ≡ true = grind (arith, nat_tests, h.1) in
    or_right (nat_lt one.number number) ((one.number == number) && nat_lt one.rank rank) (and_from (one.number == number) (nat_lt one.rank rank) (eq-eqb one.number number h.0) t)

from_before : (number rank : ℕ) (one : Ending) → is_before number rank one ≡ true → Before number rank one
from_before number rank one e =
    ⊎_elim
    (λ t. let lt : one.number < number = grind (arith, nat_tests) in inl lt)
    (λ t.
    let parts = and_parts (one.number == number) (nat_lt one.rank rank) t in
    let second : nat_lt one.rank rank ≡ true = parts.1 in
    let lt : one.rank < rank = grind (arith, nat_tests) in
    inr (eqb-true one.number number parts.0, lt))
    (or_cases (nat_lt one.number number) ((one.number == number) && nat_lt one.rank rank) e)

order_total : IsTotalOrder ending_order
order_total = then_total (on_total (λ (one : Ending). one.number) nat_cmp_total) (then_total (on_total (λ (one : Ending). one.rank) nat_cmp_total) (on_total (λ (one : Ending). one.line) nat_cmp_total))

abbrev NoLater : Ending → Ending → Type 0
NoLater one other = (one.number < other.number) ⊎ ((one.number ≡ other.number) × (one.rank ≤ other.rank))

no_later_rank : (one other : Ending) (s rest : Ordering) → s ≡ nat_cmp other.rank one.rank → is_lt (ordering_then s rest) ≡ false → one.rank ≤ other.rank
no_later_rank one other Less rest is e = let no : ⊥ = cc in absurd no
no_later_rank one other Equal rest is e = let same : other.rank ≡ one.rank = ranked other.rank one.rank Equal is in omega (arith, same)
no_later_rank one other Greater rest is e = let less : one.rank < other.rank = ranked other.rank one.rank Greater is in omega (arith, less)

no_later : (one other : Ending) (r : Ordering) → r ≡ nat_cmp other.number one.number → is_lt (ordering_then r (ordering_then (nat_cmp other.rank one.rank) (nat_cmp other.line one.line))) ≡ false → NoLater one other
no_later one other Less is e = let no : ⊥ = cc in absurd no
no_later one other Equal is e = inr (sym (ranked other.number one.number Equal is), no_later_rank one other (nat_cmp other.rank one.rank) (nat_cmp other.line one.line) refl e)
no_later one other Greater is e = inl (ranked other.number one.number Greater is)

also_before : (number rank : ℕ) (one other : Ending) → NoLater one other → Before number rank other → Before number rank one
also_before number rank one other (inl less) (inl lt) = inl (omega arith)
also_before number rank one other (inl less) (inr h) = inl (omega (arith, h.0))
also_before number rank one other (inr same) (inl lt) = inl (omega (arith, same.0))
also_before number rank one other (inr same) (inr h) = inr (same.0 ∙ h.0, omega (arith, same.1, h.1))

pub order_parts : (list : List Ending) (number rank : ℕ) → IsSorted ending_order list → IsPartitionedBy (is_before number rank) list
order_parts list number rank up i j d le lt e =
    let one : Ending = get_or list i d in
    let other : Ending = get_or list j d in
    let later = sorted_far (λ (x y : Ending). is_lt (ending_order x y)) (ranks_by order_total (λ (x : Ending). x)) list up i j d le lt in
    to_before number rank one (also_before number rank one other (no_later one other (nat_cmp other.number one.number) refl later) (from_before number rank other e))

-- ---- those of a number, from one rank up to another

within_both : (number start end : ℕ) (one : Ending) → is_before number start one ≡ false → is_before number end one ≡ true → (one.number ≡ number) × (start ≤ one.rank) × (one.rank < end)
within_both number start end one not before = by (from_before number end one before)
  where
    never : Before number start one → ⊥
    never h = let no : true ≡ false = sym (to_before number start one h) ∙ not in cc

    by : Before number end one → (one.number ≡ number) × (start ≤ one.rank) × (one.rank < end)
    by (inl lt) = absurd (never (inl lt))
    by (inr h) = (h.0, ⊎_elim (λ less. absurd (never (inr (h.0, less)))) (λ le. le) (cases_lt one.rank start), h.1)

abbrev pub StartsAt : List Ending → ℕ → ℕ → ℕ → Type 0
StartsAt list number rank place = IsPartitionPoint (λ (one : Ending). is_before number rank one ≡ true) (λ (one : Ending). is_before number rank one ≡ false) list place

abbrev EndsSo : List (List ℕ) → List ℕ → ℕ → Type 0
EndsSo paths text p = ends_with (get_or paths p []) text ≡ true

no_line : Ending
no_line = record { number = 0; rank = 0; line = 0 }

of_between : (paths : List (List ℕ)) (keys : List Key) (text : List ℕ) (number : ℕ) (endings : Endings) (start end first last : ℕ) → HoldsLines keys endings → IsStretch paths endings.backwards.items text start end
    → StartsAt endings.lines.items number start first → StartsAt endings.lines.items number end last → last ≤ length endings.lines.items
    → (k : ℕ) → IsBetween endings.lines.items first last k → IsOf keys number (EndsSo paths text) k
of_between paths keys text number endings start end first last holds stretch from upto bound k h =
    let list : List Ending = endings.lines.items in
    let place : ℕ = h.0 in
    let within : place < length list = omega (arith, h.2, bound) in
    let one : Ending = get_or list place no_line in
    let line : one.line ≡ k = sym (get_or-map (λ (one : Ending). one.line) list place no_line 0 within) ∙ h.3 in
    let own : IsEnding keys endings.backwards.items one = All-get_or (IsEnding keys endings.backwards.items) list place no_line within holds.own in
    let both = within_both number start end one (from.1 place no_line h.1 within) (upto.0 place no_line (omega arith) h.2) in
    let ends = (stretch one.rank own.placed).0 (both.1, both.2) in
    subst (λ n. IsOf keys number (EndsSo paths text) n) line
    (own.within, sym own.number ∙ both.0, ap (λ p. ends_with (get_or paths p []) text) (sym own.path) ∙ ends)

to_between : (paths : List (List ℕ)) (keys : List Key) (text : List ℕ) (number : ℕ) (endings : Endings) (start end first last : ℕ) → HoldsLines keys endings → IsStretch paths endings.backwards.items text start end
    → StartsAt endings.lines.items number start first → StartsAt endings.lines.items number end last
    → (k : ℕ) → IsOf keys number (EndsSo paths text) k → IsBetween endings.lines.items first last k
to_between paths keys text number endings start end first last holds stretch from upto k h =
    let list : List Ending = endings.lines.items in
    let there = holds.each k h.0 in
    let place : ℕ = there.0 in
    let within : place < length list = omega (arith, there.1, length-map list (λ (one : Ending). one.line)) in
    let one : Ending = get_or list place no_line in
    let line : one.line ≡ k = sym (get_or-map (λ (one : Ending). one.line) list place no_line k within) ∙ there.2 in
    let own : IsEnding keys endings.backwards.items one = All-get_or (IsEnding keys endings.backwards.items) list place no_line within holds.own in
    let same : one.number ≡ number = own.number ∙ ap (λ n. (key_of keys n).number) line ∙ h.1 in
    let ends : ends_with (get_or paths (get_or endings.backwards.items one.rank 0) []) text ≡ true = ap (λ p. ends_with (get_or paths p []) text) (own.path ∙ ap (λ n. (key_of keys n).path) line) ∙ h.2 in
    let range = (stretch one.rank own.placed).1 ends in (
      place,
      ⊎_elim (λ less. absurd (too_early one same range.0 (from.0 place no_line (omega arith) less))) (λ le. le) (cases_lt place first),
      ⊎_elim (λ less. less) (λ le. absurd (too_late one same range.1 (upto.1 place no_line le within))) (cases_lt place last),
      get_or-map (λ (one : Ending). one.line) list place no_line 0 within ∙ line,
    )
  where
    early : (one : Ending) → one.number ≡ number → start ≤ one.rank → Before number start one → ⊥
    early one same le (inl lt) = omega (arith, same)
    early one same le (inr h) = omega (arith, h.1)

    too_early : (one : Ending) → one.number ≡ number → start ≤ one.rank → is_before number start one ≡ true → ⊥
    too_early one same le e = early one same le (from_before number start one e)

    too_late : (one : Ending) → one.number ≡ number → one.rank < end → is_before number end one ≡ false → ⊥
    too_late one same lt e = let no : true ≡ false = sym (to_before number end one (inr (same, lt))) ∙ e in cc

-- the least of them is the line that is looked for
pub below_is : (paths : List (List ℕ)) (keys : List Key) (text : List ℕ) (number : ℕ) (endings : Endings) (start end first last : ℕ) (line : Option ℕ) → HoldsLines keys endings → IsStretch paths endings.backwards.items text start end
    → StartsAt endings.lines.items number start first → StartsAt endings.lines.items number end last → last ≤ length endings.lines.items
    → IsLeast (IsBetween endings.lines.items first last) line → line ≡ position (is_line_below text number) (map (line_at paths) keys)
below_is paths keys text number endings start end first last line holds stretch from upto bound least =
    first_is paths keys text number (EndsSo paths text) line
    (record {
      there = λ k e. of_between paths keys text number endings start end first last holds stretch from upto bound k (least.there k e);
      first = λ j one. least.first j (to_between paths keys text number endings start end first last holds stretch from upto j one);
    })
    (λ p h. h)
    (λ k lt e. e)
