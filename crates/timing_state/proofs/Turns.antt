-- Retirements on cores.
use Rattle.std.proofs.Common.{◌≡◌, ℕ, ◌+◌, ◌-◌, ◌≤◌, ◌⊎◌, [], Bool, true, false, if◌then◌else◌, List, ◌++◌, length, take, drop, refl, sym, ap, ◌∙◌, arith, length-append, length-take, length-drop}
use Rattle.std.proofs.lemmas.List.{append-nil}
use Rattle.machines.specs.Places.{change}
use Rattle.machines.specs.declared.Fate.{Fate}
use Rattle.machines.specs.declared.Fate.TheVariants.{Goes, Waits}
use Rattle.timing_laws.specs.Cores.{Seats, Turned, fill, starting, in_line, given_up, is_free, sliced, unsliced, turned_by}
use Rattle.timing_state.proofs.Line.{fill_none, starting_none}

split_length : (n : ℕ) (xs : List ℕ) → length (take n xs) + length (drop n xs) ≡ length xs
split_length n xs = simp (length-take, length-drop) (omega arith)

-- those that start and those that stand in line are together as many as before
pub shifted_length : (cores moment : ℕ) (others : List ℕ) (s : Seats)
    → length (starting cores (in_line others s)) + length (fill cores moment (in_line others s)).ready ≡ length s.ready + length others
shifted_length cores moment others s =
    split_length (cores - s.on) (s.ready ++ others) ∙ length-append s.ready others

abbrev pub turned_to : Fate → Seats → List ℕ → Turned
turned_to fate s others = record { seats = s; fate = fate; others = others }

pub turned_as : (fate : Fate) (s t : Seats) (xs ys : List ℕ) → s ≡ t → xs ≡ ys → turned_to fate s xs ≡ turned_to fate t ys
turned_as fate s t xs ys a b = ap (λ (q : Seats). turned_to fate q xs) a ∙ ap (λ (zs : List ℕ). turned_to fate t zs) b

-- the slice begins anew
pub slice_renewed : (cores moment h : ℕ) (first : List ℕ) (s t : Seats) → is_free cores s ≡ true
    → t ≡ record s { slice_ends = change 0 h (λ _. moment) s.slice_ends }
    → turned_to Goes t first ≡ sliced cores moment h first s
slice_renewed cores moment h first s t free is =
    turned_as Goes t (record s { slice_ends = change 0 h (λ _. moment) s.slice_ends }) first first is refl
    ∙ ap
    (λ (b : Bool). let r : Turned = if b then record {
      seats = record s { slice_ends = change 0 h (λ _. moment) s.slice_ends };
      fate = Goes;
      others = first;
    } else record {
      seats = fill cores moment (given_up h s);
      fate = Waits;
      others = first ++ starting cores (given_up h s);
    } in r)
    (sym free)

-- the slice is given up
pub slice_given : (cores moment h : ℕ) (first out : List ℕ) (s m t : Seats) → is_free cores s ≡ false
    → m ≡ given_up h s → t ≡ fill cores moment m → out ≡ first ++ starting cores m
    → turned_to Waits t out ≡ sliced cores moment h first s
slice_given cores moment h first out s m t busy given filled started =
    turned_as Waits t (fill cores moment (given_up h s)) out (first ++ starting cores (given_up h s)) (filled ∙ ap (λ (q : Seats). fill cores moment q) given) (started ∙ ap (λ (q : Seats). first ++ starting cores q) given)
    ∙ ap
    (λ (b : Bool). let r : Turned = if b then record {
      seats = record s { slice_ends = change 0 h (λ _. moment) s.slice_ends };
      fate = Goes;
      others = first;
    } else record {
      seats = fill cores moment (given_up h s);
      fate = Waits;
      others = first ++ starting cores (given_up h s);
    } in r)
    (sym busy)

-- a hart goes on: its slice is over, or not
pub goes_over : (cores moment h : ℕ) (is_over : Bool) (others out : List ℕ) (s m : Seats) (r : Turned) → is_over ≡ true
    → m ≡ fill cores moment (in_line others s) → out ≡ starting cores (in_line others s)
    → r ≡ sliced cores moment h out m → r ≡ turned_by cores moment h is_over others Goes s
goes_over cores moment h is_over others out s m r over filled started is =
    is
    ∙ ap (λ (xs : List ℕ). sliced cores moment h xs m) started
    ∙ ap (λ (q : Seats). sliced cores moment h (starting cores (in_line others s)) q) filled
    ∙ ap (λ (b : Bool). if b then sliced cores moment h (starting cores (in_line others s)) (fill cores moment (in_line others s)) else unsliced Goes (starting cores (in_line others s)) (fill cores moment (in_line others s))) (sym over)

pub goes_within : (cores moment h : ℕ) (is_over : Bool) (others out : List ℕ) (s m : Seats) → is_over ≡ false
    → m ≡ fill cores moment (in_line others s) → out ≡ starting cores (in_line others s)
    → turned_to Goes m out ≡ turned_by cores moment h is_over others Goes s
goes_within cores moment h is_over others out s m over filled started =
    turned_as Goes m (fill cores moment (in_line others s)) out (starting cores (in_line others s)) filled started
    ∙ ap (λ (b : Bool). if b then sliced cores moment h (starting cores (in_line others s)) (fill cores moment (in_line others s)) else unsliced Goes (starting cores (in_line others s)) (fill cores moment (in_line others s))) (sym over)

-- a hart that stops: the others stand in line and the first start
pub stops : (fate : Fate) (cores moment : ℕ) (others out : List ℕ) (s f m : Seats) → f ≡ s
    → m ≡ fill cores moment (in_line others f) → out ≡ starting cores (in_line others f)
    → turned_to fate m out ≡ unsliced fate (starting cores (in_line others s)) (fill cores moment (in_line others s))
stops fate cores moment others out s f m same filled started =
    turned_as fate m (fill cores moment (in_line others s)) out (starting cores (in_line others s)) (filled ∙ ap (λ (q : Seats). fill cores moment (in_line others q)) same) (started ∙ ap (λ (q : Seats). starting cores (in_line others q)) same)

-- nobody comes to stand in line
nobody_in : (s : Seats) → in_line [] s ≡ s
nobody_in s = ap (λ (line : List ℕ). let q : Seats = record s { ready = line } in q) (append-nil s.ready)

-- a hart goes on within its slice, starts no other, and nobody in line can start: all stays
pub passes : (cores moment h : ℕ) (is_over : Bool) (others : List ℕ) (fate : Fate) (s : Seats) → fate ≡ Goes → others ≡ [] → is_over ≡ false
    → (cores ≤ s.on) ⊎ (s.ready ≡ []) → turned_to Goes s [] ≡ turned_by cores moment h is_over others fate s
passes cores moment h is_over others fate s goes none within stop =
    goes_within cores moment h is_over [] [] s s within
    (sym (fill_none cores moment s stop) ∙ ap (λ (q : Seats). fill cores moment q) (sym (nobody_in s)))
    (sym (starting_none cores s stop) ∙ ap (λ (q : Seats). starting cores q) (sym (nobody_in s)))
    ∙ ap (λ (hs : List ℕ). turned_by cores moment h is_over hs Goes s) (sym none)
    ∙ ap (λ (f : Fate). turned_by cores moment h is_over others f s) (sym goes)
