-- What each line has of a path.
use Rattle.std.proofs.Common.{◌≡◌, ℕ, zero, suc, replicate, ◌+◌, ◌^◌, ◌<◌, ◌≤◌, ◌==◌, nat_lt, if◌then◌else◌, Bool, true, false, List, [], ◌∷◌, ◌++◌, length, get_or, take, map, Option, Some, None, is_none, refl, sym, ap, ap₂, subst, ◌∙◌, arith, rules, sum_by}
use Rattle.std.specs.Prelude.{Result, Ok, Err, IfOk}
use Rattle.std.specs.declared.alloc.AllocError.{AllocError}
use Rattle.std.specs.List.{filter, range_with_len}
use Rattle.std.proofs.lemmas.Bool.{ltb-false, ltb-true}
use Rattle.std.proofs.lemmas.List.Sums.{sum_by-cons, sum_by_push, sum_by_more_le}
use Rattle.std.proofs.lemmas.List.{get_or-map, length-replicate, take_more, take_all}
use Rattle.profile_labels.specs.Sorted.{sorted_by}
use Rattle.path_chains.specs.declared.event.Event.{Event}
use Rattle.path_chains.specs.Path.{chain_of, event_at, no_event, ticks, weight}
use Rattle.coz_types.specs.Labels.{Text}
use Rattle.coz_types.specs.declared.ending.Ending.{Ending}
use Rattle.line_index.specs.Lines.{Line}
use Rattle.path_chains.specs.declared.share.Share.{Share}
use Rattle.path_texts.specs.declared.shares.Shares.{Shares}
use Rattle.path_texts.specs.declared.shares.Sums.{Sums}
use Rattle.path_chains.specs.Shares.{has_more}
use Rattle.path_texts.specs.PathText.{events_on, path_lines, path_text, has_some, is_on, share_of, shares_of, slept_on, work_on, work_elsewhere}
use Rattle.path_texts.specs.Shares.{place_in, share_in, work_in, IsCounted}

-- of a result
pub if_shares : (r : Result Shares AllocError) (P Q : Shares → Type 0) → ((shares : Shares) → P shares → Q shares) → IfOk r P → IfOk r Q
if_shares (Ok shares) P Q f p = f shares p
if_shares (Err e) P Q f p = p

-- ---- sums

-- a sum of less is no more
sums_le : (f g : Event → ℕ) → ((e : Event) → f e ≤ g e) → (es : List Event) → sum_by f es ≤ sum_by g es
sums_le f g less [] = omega arith
sums_le f g less (e ∷ es) = omega (arith, less e, sums_le f g less es, sum_by-cons f e es, sum_by-cons g e es)

part_le : (b : Bool) (e : Event) → (if b then e.cost else 0) ≤ ticks e
part_le true e = omega arith
part_le false e = omega arith

pub weight_is : (events : List Event) (chain : List ℕ) → weight events chain ≡ sum_by ticks (events_on events chain)
weight_is events [] = refl
weight_is events (i ∷ is) = omega (arith, weight_is events is, sum_by-cons (λ (k : ℕ). ticks (event_at events k)) i is, sum_by-cons ticks (event_at events i) (events_on events is))

-- the event of a number on a chain, by its index in the path
pub chain_item : (events : List Event) (chain : List ℕ) (i : ℕ) (e : Event) → i < length chain → e ≡ event_at events (get_or chain i 0) → e ≡ event_at (events_on events chain) i
chain_item events chain i e below is = is ∙ sym (get_or-map (event_at events) chain i 0 no_event below)

pub many_on : (events : List Event) (chain : List ℕ) → length (events_on events chain) ≡ length chain
many_on events [] = refl
many_on events (i ∷ is) = omega (arith, many_on events is)

pub within : (events : List Event) (chain : List ℕ) (i : ℕ) → i < length chain → i < length (events_on events chain)
within events chain i below = omega (arith, many_on events chain, below)

module _ (path : List Event) (i : ℕ) (e : Event) (below : i < length path) (is : e ≡ event_at path i) (fits : sum_by ticks path < 2 ^ 64) where
  -- whatever a sum has of the events so far, it has room for the next one
  room_for : (f : Event → ℕ) → ((d : Event) → f d ≤ ticks d) → (n : ℕ) → n ≤ ticks e → sum_by f (take i path) + n < 2 ^ 64
  room_for f less n few =
      let next : ticks e ≡ ticks (event_at path i) = ap ticks is in
      omega (arith, sums_le f ticks less (take i path), next, sum_by_more_le ticks path i no_event below)

  pub fits_sleep : (line_of : ℕ → Option ℕ) (sums : Sums) (count : ℕ) → IsCounted line_of count (take i path) sums → sums.sleep + e.slept < 2 ^ 64
  fits_sleep line_of sums count known = omega (arith, known.sleep, room_for (λ (d : Event). d.slept) (λ d. omega arith) e.slept (omega arith))

  pub fits_work : (line_of : ℕ → Option ℕ) (sums : Sums) (count : ℕ) → IsCounted line_of count (take i path) sums → (k : ℕ) → get_or sums.work.items k 0 + e.cost < 2 ^ 64
  fits_work line_of sums count known k =
      omega (arith, known.each k, room_for (λ (d : Event). if place_in count (line_of d.address) == k then d.cost else 0) (λ d. part_le (place_in count (line_of d.address) == k) d) e.cost (omega arith))

  -- the events up to the next one
  on_more : take (i + 1) path ≡ take i path ++ e ∷ []
  on_more = take_more path i no_event below ∙ ap (λ (d : Event). take i path ++ d ∷ []) (sym is)

  pub counts_more : (line_of : ℕ → Option ℕ) (count : ℕ) (sums new : Sums) (place : ℕ) → place ≡ place_in count (line_of e.address) → IsCounted line_of count (take i path) sums
      → new.sleep ≡ sums.sleep + e.slept
      → length new.work.items ≡ length sums.work.items
      → ((k : ℕ) → get_or new.work.items k 0 ≡ get_or sums.work.items k 0 + (if place == k then e.cost else 0))
      → IsCounted line_of count (take (i + 1) path) new
  counts_more line_of count sums new place at known sleep room each =
      let so_far : List Event = take i path in
      subst (λ (es : List Event). IsCounted line_of count es new) (sym on_more) (record {
        room = room ∙ known.room;
        each = λ k.
            each k
            ∙ ap (λ (n : ℕ). n + (if place == k then e.cost else 0)) (known.each k)
            ∙ ap (λ (p : ℕ). work_in line_of count k so_far + (if p == k then e.cost else 0)) at
            ∙ sym (sum_by_push (λ (d : Event). if place_in count (line_of d.address) == k then d.cost else 0) so_far e);
        sleep = sleep ∙ ap (λ (n : ℕ). n + e.slept) known.sleep ∙ sym (sum_by_push (λ (d : Event). d.slept) so_far e);
      })

zeros : (n k : ℕ) → ◌≡◌ {A = ℕ} (get_or (replicate n 0) k 0) 0
zeros zero k = refl
zeros (suc n) zero = refl
zeros (suc n) (suc k) = zeros n k

-- no event so far
pub none_counted : (line_of : ℕ → Option ℕ) (count : ℕ) (sums : Sums) → sums.work.items ≡ replicate (count + 2) 0 → sums.sleep ≡ 0 → IsCounted line_of count [] sums
none_counted line_of count sums work sleep = record {
  room = ap (λ (xs : List ℕ). length xs) work ∙ length-replicate (count + 2) 0;
  each = λ k. ap (λ (xs : List ℕ). get_or xs k 0) work ∙ zeros (count + 2) k;
  sleep = sleep;
}

pub all_counted : (line_of : ℕ → Option ℕ) (path : List Event) (count i : ℕ) (sums : Sums) → length path ≤ i → IsCounted line_of count (take i path) sums → IsCounted line_of count path sums
all_counted line_of path count i sums all known =
    subst (λ (es : List Event). IsCounted line_of count es sums) (take_all i path all) known

-- ---- places

apart : (a b : ℕ) → b < a → (a == b) ≡ false
apart a b less = by (a == b) refl
  where
    by : (c : Bool) → (a == b) ≡ c → c ≡ false
    by true e = let same : a ≡ b = search (rules, e) in absurd (omega (arith, same, less))
    by false e = refl

pub place_below : (count : ℕ) (o : Option ℕ) → place_in count o < count + 2
place_below count None = omega arith
place_below count (Some line) = by (nat_lt line count) refl
  where
    by : (c : Bool) → nat_lt line count ≡ c → (if c then line else count + 1) < count + 2
    by true e = let near : line < count = ltb-true line count e in omega (arith, near)
    by false e = omega arith

-- a place below the lines is that of a line
place_on : (count : ℕ) (o : Option ℕ) (k : ℕ) → k < count → (place_in count o == k) ≡ is_on o k
place_on count None k less = apart count k less
place_on count (Some line) k less = by (nat_lt line count) refl
  where
    by : (c : Bool) → nat_lt line count ≡ c → ((if c then line else count + 1) == k) ≡ (line == k)
    by true e = refl
    by false e = let far : count ≤ line = ltb-false line count e in apart (count + 1) k (omega (arith, less)) ∙ sym (apart line k (omega (arith, far, less)))

-- the place after the lines is that of code without a line
place_none : (count : ℕ) (o : Option ℕ) → (place_in count o == count) ≡ is_none o
place_none count None = let same : (count == count) ≡ true = grind arith in same
place_none count (Some line) = by (nat_lt line count) refl
  where
    by : (c : Bool) → nat_lt line count ≡ c → ((if c then line else count + 1) == count) ≡ false
    by true e = let near : line < count = ltb-true line count e in apart_below line count near
      where
        apart_below : (a b : ℕ) → a < b → (a == b) ≡ false
        apart_below a b less = grind (arith, less)
    by false e = apart (count + 1) count (omega arith)

same_sum : (f g : Event → ℕ) → ((e : Event) → f e ≡ g e) → (es : List Event) → sum_by f es ≡ sum_by g es
same_sum f g same [] = refl
same_sum f g same (e ∷ es) = omega (arith, same e, same_sum f g same es, sum_by-cons f e es, sum_by-cons g e es)

work_is : (line_of : ℕ → Option ℕ) (count k : ℕ) → k < count → (path : List Event) → work_in line_of count k path ≡ work_on line_of k path
work_is line_of count k less path =
    same_sum (λ (e : Event). if place_in count (line_of e.address) == k then e.cost else 0) (λ (e : Event). if is_on (line_of e.address) k then e.cost else 0)
    (λ e. ap (λ (b : Bool). if b then e.cost else 0) (place_on count (line_of e.address) k less)) path

pub none_are : (line_of : ℕ → Option ℕ) (count : ℕ) (path : List Event) (sums : Sums) → IsCounted line_of count path sums → get_or sums.work.items count 0 ≡ work_elsewhere line_of path
none_are line_of count path sums known =
    known.each count
    ∙ same_sum (λ (e : Event). if place_in count (line_of e.address) == count then e.cost else 0) (λ (e : Event). if is_none (line_of e.address) then e.cost else 0)
    (λ e. ap (λ (b : Bool). if b then e.cost else 0) (place_none count (line_of e.address))) path

-- ---- shares

-- the same from the sums
same_map : (f g : ℕ → Share) (a n : ℕ) → ((k : ℕ) → k < a + n → f k ≡ g k) → map f (range_with_len a n) ≡ map g (range_with_len a n)
same_map f g a zero same = refl
same_map f g a (suc n) same = ap₂ (λ (x : Share) (xs : List Share). x ∷ xs) (same a (omega arith)) (same_map f g (a + 1) n (λ k lt. same k (omega (arith, lt))))

shares_are : (line_of : ℕ → Option ℕ) (count : ℕ) (path : List Event) (sums : Sums) → IsCounted line_of count path sums
    → filter has_some (map (share_in sums.work.items) (range_with_len 0 count)) ≡ filter has_some (map (share_of line_of path) (range_with_len 0 count))
shares_are line_of count path sums known =
    ap (filter has_some) (same_map (share_in sums.work.items) (share_of line_of path) 0 count (λ k lt. ap (λ (n : ℕ). record { line = k; ticks = n }) (known.each k ∙ work_is line_of count k (omega (arith, lt)) path)))

-- in order
pub lines_are : (line_of : ℕ → Option ℕ) (count : ℕ) (path : List Event) (sums : Sums) → IsCounted line_of count path sums
    → sorted_by has_more (filter has_some (map (share_in sums.work.items) (range_with_len 0 count))) ≡ shares_of line_of count path
lines_are line_of count path sums known = ap (sorted_by has_more) (shares_are line_of count path sums known)

-- the text of a path whose parts are these
pub text_is : (ending : Ending) (net due retired : ℕ) (events : List Event) (chain : List ℕ) (line_of : ℕ → Option ℕ) (lines : List Line) (shares : List Share) (none sleep : ℕ)
    → net ≡ due → chain ≡ chain_of events
    → shares ≡ shares_of line_of (length lines) (events_on events chain)
    → none ≡ work_elsewhere line_of (events_on events chain)
    → sleep ≡ slept_on (events_on events chain)
    → path_lines ending net retired (events_on events chain) lines shares none sleep ≡ path_text ending due retired (events_on events (chain_of events)) line_of lines
unfolding path_text
text_is ending net due retired events chain line_of lines shares none sleep net_is chain_is shares_is none_is sleep_is =
    let whole : List ℕ → Text = λ is. path_lines ending due retired (events_on events is) lines (shares_of line_of (length lines) (events_on events is)) (work_elsewhere line_of (events_on events is)) (slept_on (events_on events is)) in
    ap (λ (n : ℕ). path_lines ending n retired (events_on events chain) lines shares none sleep) net_is
    ∙ ap (λ (xs : List Share). path_lines ending due retired (events_on events chain) lines xs none sleep) shares_is
    ∙ ap (λ (n : ℕ). path_lines ending due retired (events_on events chain) lines (shares_of line_of (length lines) (events_on events chain)) n sleep) none_is
    ∙ ap (λ (n : ℕ). path_lines ending due retired (events_on events chain) lines (shares_of line_of (length lines) (events_on events chain)) (work_elsewhere line_of (events_on events chain)) n) sleep_is
    ∙ ap whole chain_is
