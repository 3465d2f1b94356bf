-- What a retirement on cores starts, to which fate it comes, and how many harts have a core then.
use Rattle.std.proofs.Common.{◌≡◌, ℕ, zero, suc, ◌-◌, ◌<◌, ◌≤◌, ◌⊎◌, inl, inr, ⊎_elim, Bool, true, false, ◌&&◌, ◌||◌, ◌==◌, if◌then◌else◌, List, [], ◌∷◌, ◌++◌, length, take, drop, refl, sym, ◌∙◌, arith, length-take, length-drop, nat_le, leb-false}
use Rattle.machines.specs.declared.Fate.{Fate}
use Rattle.machines.specs.declared.Fate.TheVariants.{Goes, Waits, Leaves, Sleeps, Ends}
use Rattle.machines.specs.Places.{change, is_among}
use Rattle.timing_laws.specs.Cores.{Seats, Turned, starting, fill, freed, in_line, given_up, is_none_in, is_free, going, turned_by}
use Rattle.timing_laws.proofs.Apart.{among-append}

if_rest : (b p q : Bool) → (p ≡ true → q ≡ true) → (if b then true else p) ≡ true → (if b then true else q) ≡ true
if_rest true p q f e = refl
if_rest false p q f e = f e

if_into : (b p : Bool) → p ≡ true → (if b then true else p) ≡ true
if_into true p e = refl
if_into false p e = e

never : {X : Type 0} → false ≡ true → X
never e = absurd (let no : false ≡ true = e in cc)

-- the first and the last of a line are of it
take_from : (n k : ℕ) (xs : List ℕ) → is_among k (take n xs) ≡ true → is_among k xs ≡ true
take_from zero k [] e = e
take_from (suc n) k [] e = e
take_from zero k (x ∷ xs) e = never e
take_from (suc n) k (x ∷ xs) e = if_rest (k == x) (is_among k (take n xs)) (is_among k xs) (take_from n k xs) e

drop_from : (n k : ℕ) (xs : List ℕ) → is_among k (drop n xs) ≡ true → is_among k xs ≡ true
drop_from zero k [] e = e
drop_from (suc n) k [] e = e
drop_from zero k (x ∷ xs) e = e
drop_from (suc n) k (x ∷ xs) e = if_into (k == x) (is_among k xs) (drop_from n k xs e)

-- so few of a longer line are of its first part
within_from : (n k : ℕ) (xs ys : List ℕ) → n ≤ length xs → is_among k (take n (xs ++ ys)) ≡ true → is_among k xs ≡ true
within_from zero k [] [] few e = e
within_from zero k [] (y ∷ ys) few e = e
within_from (suc n) k [] ys few e = absurd (omega (arith, few))
within_from zero k (x ∷ xs) ys few e = never e
within_from (suc n) k (x ∷ xs) ys few e = if_rest (k == x) (is_among k (take n (xs ++ ys))) (is_among k xs) (within_from n k xs ys (omega (arith, few))) e

or_either : (p q : Bool) → (p || q) ≡ true → (p ≡ true) ⊎ (q ≡ true)
or_either true q e = inl refl
or_either false q e = inr e

pub among_either : (k : ℕ) (xs ys : List ℕ) → is_among k (xs ++ ys) ≡ true → (is_among k xs ≡ true) ⊎ (is_among k ys ≡ true)
among_either k xs ys e = or_either (is_among k xs) (is_among k ys) (sym (among-append k xs ys) ∙ e)

or_last : (p q : Bool) → q ≡ true → (p || q) ≡ true
or_last true q e = refl
or_last false q e = e

-- if a hart gives its core up, fewer start then than stand in line before it
few_by : (cores on : ℕ) (ready : List ℕ) → (0 < length ready → cores ≤ on) → (is_none_in ready && nat_le on cores) ≡ false → cores - (on - 1) ≤ length ready
few_by cores on [] busy taken = let more : cores < on = leb-false on cores taken in omega (arith, more)
few_by cores on (x ∷ xs) busy taken =
    let some : length (x ∷ xs) ≡ suc (length xs) = refl in
    let full : cores ≤ on = busy (omega (arith, some)) in
    omega (arith, full, some)

few_start : (cores moment : ℕ) (s : Seats) → is_free cores (fill cores moment s) ≡ false → cores - ((fill cores moment s).on - 1) ≤ length (fill cores moment s).ready
few_start cores moment s taken =
    few_by cores (fill cores moment s).on (fill cores moment s).ready
    (λ some. omega (arith, length-take (cores - s.on) s.ready, length-drop (cores - s.on) s.ready))
    taken

abbrev renewed : ℕ → ℕ → List ℕ → Seats → Turned
renewed moment h first s = record { seats = record s { slice_ends = change 0 h (λ _. moment) s.slice_ends }; fate = Goes; others = first }

abbrev given : ℕ → ℕ → ℕ → List ℕ → Seats → Turned
given cores moment h first s = record { seats = fill cores moment (given_up h s); fate = Waits; others = first ++ starting cores (given_up h s) }

-- who starts is one of a line
abbrev StartsFrom : List ℕ → Turned → Type 0
StartsFrom line t = (k : ℕ) → is_among k t.others ≡ true → is_among k line ≡ true

sliced_from : (cores moment h : ℕ) (s : Seats) (first line : List ℕ) → ((k : ℕ) → is_among k first ≡ true → is_among k line ≡ true) → ((k : ℕ) → is_among k s.ready ≡ true → is_among k line ≡ true)
    → (b : Bool) → (b ≡ false → cores - (s.on - 1) ≤ length s.ready) → StartsFrom line (if b then renewed moment h first s else given cores moment h first s)
sliced_from cores moment h s first line ahead rest true few = ahead
sliced_from cores moment h s first line ahead rest false few = λ k e.
    ⊎_elim
    (λ (here : is_among k first ≡ true). ahead k here)
    (λ (there : is_among k (starting cores (given_up h s)) ≡ true). rest k (within_from (cores - (s.on - 1)) k s.ready (h ∷ []) (few refl) there))
    (among_either k first (starting cores (given_up h s)) e)

going_from : (cores moment h : ℕ) (over : Bool) (others : List ℕ) (s : Seats) → StartsFrom (s.ready ++ others) (going cores moment h over (starting cores (in_line others s)) (fill cores moment (in_line others s)))
going_from cores moment h true others s =
    let q : Seats = in_line others s in
    sliced_from cores moment h (fill cores moment q) (starting cores q) (s.ready ++ others)
    (λ k e. take_from (cores - s.on) k (s.ready ++ others) e)
    (λ k e. drop_from (cores - s.on) k (s.ready ++ others) e)
    (is_free cores (fill cores moment q))
    (few_start cores moment q)
going_from cores moment h false others s = λ k e. take_from (cores - s.on) k (s.ready ++ others) e

pub from_line : (cores moment h : ℕ) (over : Bool) (others : List ℕ) (fate : Fate) (s : Seats) → StartsFrom (s.ready ++ others) (turned_by cores moment h over others fate s)
from_line cores moment h over others Goes s = going_from cores moment h over others s
from_line cores moment h over others Waits s = λ k e. take_from (cores - (s.on - 1)) k (s.ready ++ others) e
from_line cores moment h over others Leaves s = λ k e. take_from (cores - (s.on - 1)) k (s.ready ++ others) e
from_line cores moment h over others (Sleeps wake) s = λ k e. take_from (cores - (s.on - 1)) k (s.ready ++ others) e
from_line cores moment h over others (Ends ending) s = λ k e. among-append k s.ready others ∙ or_last (is_among k s.ready) (is_among k others) e

-- the fate is the guest's, or the hart waits
abbrev HasFate : Fate → Turned → Type 0
HasFate fate t = (t.fate ≡ fate) ⊎ (t.fate ≡ Waits)

sliced_fate : (cores moment h : ℕ) (first : List ℕ) (s : Seats) (b : Bool) → HasFate Goes (if b then renewed moment h first s else given cores moment h first s)
sliced_fate cores moment h first s true = inl refl
sliced_fate cores moment h first s false = inr refl

going_fate : (cores moment h : ℕ) (over : Bool) (first : List ℕ) (s : Seats) → HasFate Goes (going cores moment h over first s)
going_fate cores moment h true first s = sliced_fate cores moment h first s (is_free cores s)
going_fate cores moment h false first s = inl refl

pub has_fate : (cores moment h : ℕ) (over : Bool) (others : List ℕ) (fate : Fate) (s : Seats) → HasFate fate (turned_by cores moment h over others fate s)
has_fate cores moment h over others Goes s = going_fate cores moment h over (starting cores (in_line others s)) (fill cores moment (in_line others s))
has_fate cores moment h over others Waits s = inl refl
has_fate cores moment h over others Leaves s = inl refl
has_fate cores moment h over others (Sleeps wake) s = inl refl
has_fate cores moment h over others (Ends ending) s = inl refl

-- no more harts have a core than had one, or than there are cores
fill_few : (cores moment n : ℕ) (s : Seats) → cores ≤ n → s.on ≤ n → (fill cores moment s).on ≤ n
fill_few cores moment n s few on = omega (arith, few, on, length-take (cores - s.on) s.ready)

sliced_few : (cores moment h n : ℕ) (first : List ℕ) (s : Seats) → cores ≤ n → s.on ≤ n → (b : Bool) → (if b then renewed moment h first s else given cores moment h first s).seats.on ≤ n
sliced_few cores moment h n first s few on true = on
sliced_few cores moment h n first s few on false = fill_few cores moment n (given_up h s) few (omega (arith, on))

going_few : (cores moment h n : ℕ) (over : Bool) (first : List ℕ) (s : Seats) → cores ≤ n → s.on ≤ n → (going cores moment h over first s).seats.on ≤ n
going_few cores moment h n true first s few on = sliced_few cores moment h n first s few on (is_free cores s)
going_few cores moment h n false first s few on = on

pub on_few : (cores moment h n : ℕ) (over : Bool) (others : List ℕ) (fate : Fate) (s : Seats) → cores ≤ n → s.on ≤ n → (turned_by cores moment h over others fate s).seats.on ≤ n
on_few cores moment h n over others Goes s few on = going_few cores moment h n over (starting cores (in_line others s)) (fill cores moment (in_line others s)) few (fill_few cores moment n (in_line others s) few on)
on_few cores moment h n over others Waits s few on = fill_few cores moment n (in_line others (freed Waits h s)) few (omega (arith, on))
on_few cores moment h n over others Leaves s few on = fill_few cores moment n (in_line others (freed Leaves h s)) few (omega (arith, on))
on_few cores moment h n over others (Sleeps wake) s few on = fill_few cores moment n (in_line others (freed (Sleeps wake) h s)) few (omega (arith, on))
on_few cores moment h n over others (Ends ending) s few on = on
