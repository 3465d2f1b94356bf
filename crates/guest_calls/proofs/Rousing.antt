-- Harts that are woken run, one after the other.
use Rattle.std.proofs.Common.{ℕ, zero, suc, ◌≡◌, ◌<◌, ◌≤◌, ◌+◌, Bool, true, false, if◌then◌else◌, List, [], ◌∷◌, ◌++◌, length, get_or, set, map, take, drop, refl, sym, ap, ◌∙◌, arith, add-one, drop-cons, length-set, length-append}
use Rattle.std.specs.Prelude.{slice_index}
use Rattle.std.specs.Int.{w32, to_le_bytes}
use Rattle.coz_types.specs.declared.HartId.{HartId}
use Rattle.guest_memory.specs.Memory.{MemoryMap, is_writable}
use Rattle.guest_areas.specs.Space.{RegionMap, has_power}
use Rattle.guest_futex.specs.Waiters.{Waiter, woken_harts, waiters_left}
use Rattle.guest_pipes.specs.Pipes.{PipeMap}
use Rattle.rv_execute.specs.Reservations.{Reservations}
use Rattle.guest_calls.specs.declared.hart.Hart.{Hart}
use Rattle.guest_calls.specs.declared.hart.HartStatus.TheVariants.{Running}
use Rattle.guest_calls.specs.Output.{Written}
use Rattle.guest_calls.specs.Guest.{Guest, no_hart, is_running, is_running_status, with_running_each, with_stored, memory_of, thread_id}
use Rattle.guest_calls.specs.Calls.{with_woken, with_pipes, is_cleared, cleared, woken_at_exit, a0, child, cloned, with_word, with_parent_tid, with_child_tid, parent_set_tid, child_set_tid, a2, a4, with_child, child_hart}
use Rattle.guest_calls.specs.Kept.{guest_of}

abbrev pub numbers : List HartId → List ℕ
numbers harts = map (λ hart. hart.0) harts

-- after i of the woken harts: what is left gives what is wanted
pub record RunsFrom (woken : List HartId) (i : ℕ) (before harts : List Hart) : Type 0 where
  pub same : length harts ≡ length before
  pub rest : with_running_each (numbers (drop i woken)) harts ≡ with_running_each (numbers woken) before

number-at : (hs : List HartId) (k : ℕ) (d : HartId) → k < length hs → get_or (numbers hs) k 0 ≡ (get_or hs k d).0
number-at [] k d below = absurd (omega arith)
number-at (h ∷ hs) zero d below = refl
number-at (h ∷ hs) (suc k) d below = number-at hs k d (omega arith)

length-numbers : (hs : List HartId) → length (numbers hs) ≡ length hs
length-numbers [] = refl
length-numbers (h ∷ hs) = ap suc (length-numbers hs)

running-here : (hs : List Hart) (h : ℕ) (d : Hart) → h < length hs
    → set hs h (record { state = (get_or hs h d).state; status = Running; clear = (get_or hs h d).clear }) ≡ set hs h (record (get_or hs h no_hart) { status = Running })
running-here [] h d below = absurd (omega arith)
running-here (x ∷ xs) zero d below = refl
running-here (x ∷ xs) (suc h) d below = ap (λ (ys : List Hart). x ∷ ys) (running-here xs h d (omega arith))

pub runs-none : (woken : List HartId) (harts : List Hart) → RunsFrom woken 0 harts harts
runs-none woken harts = record { same = refl; rest = refl }

-- the hart at the index was made
pub runs-below : (woken : List HartId) (i : ℕ) (before harts : List Hart) (d : HartId) → RunsFrom woken i before harts → ((k : ℕ) → k < length (numbers woken) → slice_index (numbers woken) k < length before) → i < length woken → (get_or woken i d).0 < length harts
runs-below woken i before harts d runs made below =
    let here : get_or (numbers woken) i 0 < length before = made i (let same = length-numbers woken in omega arith) in
    let is : get_or (numbers woken) i 0 ≡ (get_or woken i d).0 = number-at woken i d below in
    let same : length harts ≡ length before = runs.same in
    omega arith

pub runs-more : (woken : List HartId) (i : ℕ) (before harts : List Hart) (d : HartId) (e : Hart) → RunsFrom woken i before harts → i < length woken → (get_or woken i d).0 < length harts
    → RunsFrom woken (i + 1) before (set harts (get_or woken i d).0 (record { state = (get_or harts (get_or woken i d).0 e).state; status = Running; clear = (get_or harts (get_or woken i d).0 e).clear }))
runs-more woken i before harts d e runs below made =
    let h : ℕ = (get_or woken i d).0 in
    let next : List Hart = set harts h (record { state = (get_or harts h e).state; status = Running; clear = (get_or harts h e).clear }) in
    let at : drop i woken ≡ get_or woken i d ∷ drop (suc i) woken = drop-cons woken i d below in
    record {
      same = length-set harts h (record { state = (get_or harts h e).state; status = Running; clear = (get_or harts h e).clear }) ∙ runs.same;
      rest =
          ap (λ (k : ℕ). with_running_each (numbers (drop k woken)) next) (add-one i)
          ∙ ap (with_running_each (numbers (drop (suc i) woken))) (running-here harts h e made)
          ∙ ap (λ (hs : List HartId). with_running_each (numbers hs) harts) (sym at)
          ∙ runs.rest;
    }

drop-past : {A : Type 0} (xs : List A) (k : ℕ) → length xs ≤ k → drop k xs ≡ []
drop-past [] zero past = refl
drop-past [] (suc k) past = refl
drop-past (x ∷ xs) zero past = absurd (omega arith)
drop-past (x ∷ xs) (suc k) past = drop-past xs k (omega arith)

pub runs-all : (woken : List HartId) (i : ℕ) (before harts : List Hart) → RunsFrom woken i before harts → length woken ≤ i → harts ≡ with_running_each (numbers woken) before
runs-all woken i before harts runs past = ap (λ (hs : List HartId). with_running_each (numbers hs) harts) (sym (drop-past woken i past)) ∙ runs.rest

append-none : {A : Type 0} (xs : List A) → xs ++ [] ≡ xs
append-none [] = refl
append-none (x ∷ xs) = ap (λ ys. x ∷ ys) (append-none xs)

take-whole : {A : Type 0} (xs : List A) (n : ℕ) → length xs ≤ n → take n xs ≡ xs
take-whole [] zero all = refl
take-whole [] (suc n) all = refl
take-whole (x ∷ xs) zero all = absurd (omega arith)
take-whole (x ∷ xs) (suc n) all = ap (λ ys. x ∷ ys) (take-whole xs n (omega arith))

-- a slice of all items that was written
pub rewritten : {A : Type 0} (items new : List A) (n : ℕ) → length new ≡ length items → n ≡ length items → take n (new ++ drop (length new) items) ≡ new
rewritten items new n same all =
    ap (λ ys. take n (new ++ ys)) (drop-past items (length new) (omega arith))
    ∙ ap (take n) (append-none new)
    ∙ take-whole new n (omega arith)

pub roused : (items after : List Hart) (regions : RegionMap) (m : MemoryMap) (rs : Reservations) (ws rest : List Waiter) (ps : PipeMap) (input whole : List ℕ) (output : Written) (g : Guest) (a n : ℕ)
    → guest_of items regions m rs ws ps input whole output ≡ g → after ≡ with_running_each (woken_harts a ws n) items → rest ≡ waiters_left a ws n
    → guest_of after regions m rs rest ps input whole output ≡ with_woken a n g
roused items after regions m rs ws rest ps input whole output g a n view run stay =
    ap (λ (x : List Hart). guest_of x regions m rs rest ps input whole output) run
    ∙ ap (λ (x : List Waiter). guest_of (with_running_each (woken_harts a ws n) items) regions m rs x ps input whole output) stay
    ∙ ap (with_woken a n) view

still-set : (hs : List Hart) (x h : ℕ) (hart : Hart) → hart.status ≡ Running → is_running_status (get_or hs h no_hart).status ≡ true → is_running_status (get_or (set hs x hart) h no_hart).status ≡ true
still-set [] x h hart runs is = is
still-set (y ∷ ys) zero zero hart runs is = ap is_running_status runs
still-set (y ∷ ys) zero (suc h) hart runs is = is
still-set (y ∷ ys) (suc x) zero hart runs is = is
still-set (y ∷ ys) (suc x) (suc h) hart runs is = still-set ys x h hart runs is

still-each : (woken : List ℕ) (hs : List Hart) (h : ℕ) → is_running_status (get_or hs h no_hart).status ≡ true → is_running_status (get_or (with_running_each woken hs) h no_hart).status ≡ true
still-each [] hs h is = is
still-each (x ∷ xs) hs h is =
    let one : Hart = record (get_or hs x no_hart) { status = Running } in
    still-each xs (set hs x one) h (still-set hs x h one refl is)

-- a hart that runs goes on as others are woken
pub still-woken : (g : Guest) (h a n : ℕ) → is_running g h ≡ true → is_running (with_woken a n g) h ≡ true
still-woken g h a n runs = still-each (woken_harts a g.waiters n) g.harts h runs

either_runs : (h : ℕ) (b : Bool) (x y : Guest) → is_running x h ≡ true → is_running y h ≡ true → is_running (if b then x else y) h ≡ true
either_runs h true x y p q = p
either_runs h false x y p q = q

pub still-cleared : (g after : Guest) (h : ℕ) → after ≡ (if is_cleared g h then cleared g h else g) → is_running g h ≡ true → is_running after h ≡ true
still-cleared g after h is runs =
    ap (λ (x : Guest). is_running x h) is
    ∙ either_runs h (is_cleared g h) (cleared g h) g (still-each (woken_at_exit g h) g.harts h runs) runs

either_harts : (b : Bool) (x y : Guest) (hs : List Hart) → x.harts ≡ hs → y.harts ≡ hs → (if b then x else y).harts ≡ hs
either_harts true x y hs p q = p
either_harts false x y hs p q = q

word-harts : (a n : ℕ) (g : Guest) → (with_word a n g).harts ≡ g.harts
word-harts a n g = either_harts (is_writable (memory_of g) a 4) (with_stored a (to_le_bytes w32 n) g) g g.harts refl refl

parent-harts : (g : Guest) (h : ℕ) (x : Guest) → (with_parent_tid g h x).harts ≡ x.harts
parent-harts g h x = either_harts (has_power (a0 g h) parent_set_tid) (with_word (a2 g h) (thread_id (child g h)) x) x x.harts (word-harts (a2 g h) (thread_id (child g h)) x) refl

child-harts : (g : Guest) (h : ℕ) (x : Guest) → (with_child_tid g h x).harts ≡ x.harts
child-harts g h x = either_harts (has_power (a0 g h) child_set_tid) (with_word (a4 g h) (thread_id (child g h)) x) x x.harts (word-harts (a4 g h) (thread_id (child g h)) x) refl

-- a hart that was made is still there as it has a child
pub made-cloned : (g after : Guest) (h : ℕ) → after ≡ cloned g h → h < length g.harts → h < length after.harts
made-cloned g after h is made =
    let same : length after.harts ≡ length (g.harts ++ child_hart g h ∷ []) =
    ap (λ (x : Guest). length x.harts) is
    ∙ ap (λ (hs : List Hart). length hs) (child-harts g h (with_parent_tid g h (with_child g h)) ∙ parent-harts g h (with_child g h)) in
    omega (arith, simp length-append at same)

-- the harts of a guest once all that were listed run
pub put_back : (items lent new : List Hart) (len : ℕ) (listed before woken : List ℕ) → length new ≡ length lent → lent ≡ items → len ≡ length items → new ≡ with_running_each listed lent → listed ≡ before ++ woken → before ≡ []
    → take len (new ++ drop (length new) items) ≡ with_running_each woken items
put_back items lent new len listed before woken same is all run list none =
    let size : length new ≡ length items = same ∙ ap (λ (hs : List Hart). length hs) is in
    rewritten items new len size all
    ∙ run
    ∙ ap (λ (hs : List ℕ). with_running_each hs lent) (list ∙ ap (λ (hs : List ℕ). hs ++ woken) none)
    ∙ ap (with_running_each woken) is

-- a guest whose pipes changed, and some of whose harts run now
pub piped : (items after : List Hart) (regions : RegionMap) (m : MemoryMap) (rs : Reservations) (ws : List Waiter) (ps new : PipeMap) (input whole : List ℕ) (output : Written) (g : Guest) (f : Guest → PipeMap) (woken : Guest → List ℕ)
    → guest_of items regions m rs ws ps input whole output ≡ g → after ≡ with_running_each (woken (guest_of items regions m rs ws ps input whole output)) items → new ≡ f (guest_of items regions m rs ws ps input whole output)
    → guest_of after regions m rs ws new input whole output ≡ with_pipes (f g) (woken g) g
piped items after regions m rs ws ps new input whole output g f woken view run change =
    ap (λ (x : List Hart). guest_of x regions m rs ws new input whole output) run
    ∙ ap (λ (x : PipeMap). guest_of (with_running_each (woken (guest_of items regions m rs ws ps input whole output)) items) regions m rs ws x input whole output) change
    ∙ ap (λ (x : Guest). with_pipes (f x) (woken x) x) view

-- a hart that runs goes on as others are woken
pub still-piped : (g : Guest) (pipes : PipeMap) (woken : List ℕ) (h : ℕ) → is_running g h ≡ true → is_running (with_pipes pipes woken g) h ≡ true
still-piped g pipes woken h runs = still-each woken g.harts h runs
