-- Which harts run and which sleep, as harts change.
use Rattle.std.proofs.Common.{◌≡◌, ◌≢◌, ◌+◌, ◌<◌, ◌≤◌, ℕ, zero, suc, ◌==◌, Bool, true, false, ◌||◌, if◌then◌else◌, List, [], ◌∷◌, ◌++◌, length, get_or, set, refl, ap, ap₂, ◌∙◌, ⊎_elim, arith, eqb-true}
use Rattle.std.proofs.lemmas.Bool.{eq-eqb, ne_eqb, cases_eq}
use Rattle.std.proofs.lemmas.List.{length-set, get_or-set_same, get_or-set_other}
use Rattle.std.proofs.Math.Seq.{get_or-append_seam}
use Rattle.machines.specs.Places.{is_among}
use Rattle.guest_calls.specs.declared.hart.Hart.{Hart}
use Rattle.guest_calls.specs.declared.hart.HartStatus.{HartStatus}
use Rattle.guest_calls.specs.declared.hart.HartStatus.TheVariants.{Running, Waiting, Sleeping, Gone}
use Rattle.guest_calls.specs.Guest.{no_hart, is_running_status, is_sleeping_status, sleepers_of, with_running_each}
use Rattle.guest_calls.specs.Orderly.{AreWaiting}
use Rattle.guest_calls.proofs.Among.{IsWoken, few_apart}
use Rattle.guest_calls.proofs.Waiting.{made-waiting}

abbrev pub status_at : List Hart → ℕ → HartStatus
status_at harts h = (get_or harts h no_hart).status

abbrev pub runs_at : List Hart → ℕ → Bool
runs_at harts h = is_running_status (status_at harts h)

abbrev pub sleeps_at : List Hart → ℕ → Bool
sleeps_at harts h = is_sleeping_status (status_at harts h)

-- it runs or sleeps
abbrev pub is_timed_status : HartStatus → Bool
is_timed_status status = is_sleeping_status status || is_running_status status

abbrev pub timed_at : List Hart → ℕ → Bool
timed_at harts h = is_timed_status (status_at harts h)

is_running : (status : HartStatus) → is_running_status status ≡ true → status ≡ Running
is_running Running runs = refl
is_running Waiting runs = absurd (let never : false ≡ true = runs in cc)
is_running Sleeping runs = absurd (let never : false ≡ true = runs in cc)
is_running Gone runs = absurd (let never : false ≡ true = runs in cc)

pub runs_here : (harts : List Hart) (h : ℕ) → runs_at harts h ≡ true → status_at harts h ≡ Running
runs_here harts h runs = is_running (status_at harts h) runs

-- a running hart doesn't sleep
pub runs_awake : (status : HartStatus) → is_running_status status ≡ true → is_sleeping_status status ≡ false
runs_awake status runs = ap is_sleeping_status (is_running status runs)

pub runs_timed : (status : HartStatus) → is_running_status status ≡ true → is_timed_status status ≡ true
runs_timed status runs = ap is_timed_status (is_running status runs)

or_false : (a b : Bool) → (a || b) ≡ false → a ≡ false
or_false true b none = none
or_false false b none = refl

pub made_timed : (harts : List Hart) (h : ℕ) → timed_at harts h ≡ true → h < length harts
made_timed [] h timed = absurd (let never : false ≡ true = timed in cc)
made_timed (x ∷ xs) zero timed = omega arith
made_timed (x ∷ xs) (suc h) timed = let below : h < length xs = made_timed xs h timed in omega arith

pub made_running : (harts : List Hart) (h : ℕ) → runs_at harts h ≡ true → h < length harts
made_running harts h runs = made_timed harts h (runs_timed (status_at harts h) runs)

-- what holds of a choice of two statuses
pub chosen_status : (is : HartStatus → Bool) (b : Bool) (s t : HartStatus) → is (if b then s else t) ≡ (if b then is s else is t)
chosen_status is true s t = refl
chosen_status is false s t = refl

-- a hart in the place of one
pub status_put : (harts : List Hart) (h k : ℕ) (hart : Hart) → h < length harts → status_at (set harts h hart) k ≡ (if k == h then hart.status else status_at harts k)
status_put harts h k hart below =
    ⊎_elim
    (λ (same : k ≡ h). rw (eq-eqb k h same) (ap (status_at (set harts h hart)) same ∙ ap (λ (x : Hart). x.status) (get_or-set_same harts h hart no_hart below)))
    (λ (other : k ≢ h). rw (ne_eqb k h other) (ap (λ (x : Hart). x.status) (get_or-set_other harts h k hart no_hart other)))
    (cases_eq k h)

pub timed_put : (harts : List Hart) (h k : ℕ) (hart : Hart) → h < length harts → timed_at (set harts h hart) k ≡ (if k == h then is_timed_status hart.status else timed_at harts k)
timed_put harts h k hart below = ap is_timed_status (status_put harts h k hart below) ∙ chosen_status is_timed_status (k == h) hart.status (status_at harts k)

-- harts of the same statuses
pub waiting_same : (old new : List Hart) (ws : List ℕ) → ((k : ℕ) → status_at new k ≡ status_at old k) → AreWaiting old ws → AreWaiting new ws
waiting_same old new ws same waiting = λ k among. same k ∙ waiting k among

-- one more hart
appended_other : (harts : List Hart) (hart : Hart) (k : ℕ) → k ≢ length harts → get_or (harts ++ hart ∷ []) k no_hart ≡ get_or harts k no_hart
appended_other [] hart zero other = absurd (other refl)
appended_other [] hart (suc k) other = refl
appended_other (x ∷ xs) hart zero other = refl
appended_other (x ∷ xs) hart (suc k) other = appended_other xs hart k (λ (is : k ≡ length xs). other (ap suc is))

pub status_append : (harts : List Hart) (hart : Hart) (k : ℕ) → status_at (harts ++ hart ∷ []) k ≡ (if is_among k (length harts ∷ []) then hart.status else status_at harts k)
status_append harts hart k =
    ⊎_elim
    (λ (same : k ≡ length harts). rw (eq-eqb k (length harts) same)
    (ap (status_at (harts ++ hart ∷ [])) same ∙ ap (λ (x : Hart). x.status) (get_or-append_seam harts hart [] no_hart)))
    (λ (other : k ≢ length harts). rw (ne_eqb k (length harts) other) (ap (λ (x : Hart). x.status) (appended_other harts hart k other)))
    (cases_eq k (length harts))

status_past : (harts : List Hart) → status_at harts (length harts) ≡ Gone
status_past [] = refl
status_past (x ∷ xs) = status_past xs

only_one : (is : Bool) → (if is then true else false) ≡ true → is ≡ true
only_one true e = refl
only_one false e = e

-- the hart that is made next neither runs nor sleeps yet
pub next_idle : (harts : List Hart) (k : ℕ) → is_among k (length harts ∷ []) ≡ true → timed_at harts k ≡ false
next_idle harts k among = ap (timed_at harts) (eqb-true k (length harts) (only_one (k == length harts) among)) ∙ ap is_timed_status (status_past harts)

pub one_more : (is among : Bool) → among ≡ true → (if is then true else among) ≡ true
one_more true among e = refl
one_more false among e = e

runs_first : (is among : Bool) (before : HartStatus) → (if among then Running else if is then Running else before) ≡ (if (if is then true else among) then Running else before)
runs_first true true before = refl
runs_first true false before = refl
runs_first false among before = refl

pub status_each : (hs : List ℕ) (harts : List Hart) (k : ℕ) → ((h : ℕ) → is_among h hs ≡ true → h < length harts) → status_at (with_running_each hs harts) k ≡ (if is_among k hs then Running else status_at harts k)
status_each [] harts k below = refl
status_each (h ∷ hs) harts k below =
    let run : Hart = record (get_or harts h no_hart) { status = Running } in
    status_each hs (set harts h run) k (λ i among. rw (length-set harts h run) (below i (one_more (i == h) (is_among i hs) among)))
    ∙ ap (λ (s : HartStatus). if is_among k hs then Running else s) (status_put harts h k run (below h (rw (eq-eqb h h refl) refl)))
    ∙ runs_first (k == h) (is_among k hs) (status_at harts k)

pub length_each : (hs : List ℕ) (harts : List Hart) → length (with_running_each hs harts) ≡ length harts
length_each [] harts = refl
length_each (h ∷ hs) harts = let run : Hart = record (get_or harts h no_hart) { status = Running } in length_each hs (set harts h run) ∙ length-set harts h run

-- how many sleep: among as many harts of the same statuses as many
pub asleep_same : (old new : List Hart) → length new ≡ length old → ((k : ℕ) → status_at new k ≡ status_at old k) → sleepers_of new ≡ sleepers_of old
asleep_same [] [] count same = refl
asleep_same [] (y ∷ ys) count same = absurd (omega arith)
asleep_same (x ∷ xs) [] count same = absurd (omega arith)
asleep_same (x ∷ xs) (y ∷ ys) count same =
    let rest : sleepers_of ys ≡ sleepers_of xs = asleep_same xs ys (omega arith) (λ k. same (suc k)) in
    ap₂ (λ (n : ℕ) (s : HartStatus). n + (if is_sleeping_status s then 1 else 0)) rest (same 0)

-- if neither the hart nor the one in its place sleeps
pub asleep_put : (harts : List Hart) (h : ℕ) (hart : Hart) → sleeps_at harts h ≡ false → is_sleeping_status hart.status ≡ false → sleepers_of (set harts h hart) ≡ sleepers_of harts
asleep_put [] h hart before after = refl
asleep_put (x ∷ xs) zero hart before after = rw (after, before) refl
asleep_put (x ∷ xs) (suc h) hart before after = ap (λ (n : ℕ). n + (if is_sleeping_status x.status then 1 else 0)) (asleep_put xs h hart before after)

-- if the hart slept
pub asleep_less : (harts : List Hart) (h : ℕ) (hart : Hart) → sleeps_at harts h ≡ true → is_sleeping_status hart.status ≡ false → sleepers_of harts ≡ sleepers_of (set harts h hart) + 1
asleep_less [] h hart before after = absurd (let never : false ≡ true = before in cc)
asleep_less (x ∷ xs) zero hart before after = rw (after, before) (omega arith)
asleep_less (x ∷ xs) (suc h) hart before after = let rest : sleepers_of xs ≡ sleepers_of (set xs h hart) + 1 = asleep_less xs h hart before after in omega arith

-- if a hart that didn't sleep does now
pub asleep_more : (harts : List Hart) (h : ℕ) (hart : Hart) → h < length harts → sleeps_at harts h ≡ false → is_sleeping_status hart.status ≡ true → sleepers_of (set harts h hart) ≡ sleepers_of harts + 1
asleep_more [] h hart made before after = absurd (omega arith)
asleep_more (x ∷ xs) zero hart made before after = rw (after, before) (omega arith)
asleep_more (x ∷ xs) (suc h) hart made before after = let rest : sleepers_of (set xs h hart) ≡ sleepers_of xs + 1 = asleep_more xs h hart (omega arith) before after in omega arith

pub asleep_append : (harts : List Hart) (hart : Hart) → is_sleeping_status hart.status ≡ false → sleepers_of (harts ++ hart ∷ []) ≡ sleepers_of harts
asleep_append [] hart awake = rw awake refl
asleep_append (x ∷ xs) hart awake = ap (λ (n : ℕ). n + (if is_sleeping_status x.status then 1 else 0)) (asleep_append xs hart awake)

awake_put : (harts : List Hart) (h k : ℕ) (hart : Hart) → is_sleeping_status hart.status ≡ false → sleeps_at harts k ≡ false → sleeps_at (set harts h hart) k ≡ false
awake_put [] h k hart runs awake = awake
awake_put (x ∷ xs) zero zero hart runs awake = runs
awake_put (x ∷ xs) zero (suc k) hart runs awake = awake
awake_put (x ∷ xs) (suc h) zero hart runs awake = awake
awake_put (x ∷ xs) (suc h) (suc k) hart runs awake = awake_put xs h k hart runs awake

asleep_each : (hs : List ℕ) (harts : List Hart) → ((k : ℕ) → is_among k hs ≡ true → sleeps_at harts k ≡ false) → sleepers_of (with_running_each hs harts) ≡ sleepers_of harts
asleep_each [] harts awake = refl
asleep_each (h ∷ hs) harts awake =
    let run : Hart = record (get_or harts h no_hart) { status = Running } in
    asleep_each hs (set harts h run) (λ k among. awake_put harts h k run refl (awake k (one_more (k == h) (is_among k hs) among)))
    ∙ asleep_put harts h run (awake h (rw (eq-eqb h h refl) refl)) refl

-- those that are woken waited
pub asleep_woken : (before woken left : List ℕ) (harts : List Hart) → IsWoken before woken left → AreWaiting harts before → sleepers_of (with_running_each woken harts) ≡ sleepers_of harts
asleep_woken before woken left harts w waiting = asleep_each woken harts (λ k among. ap is_sleeping_status (waiting k (w.from k among)))

pub woken_idle : (before woken left : List ℕ) (harts : List Hart) (k : ℕ) → IsWoken before woken left → AreWaiting harts before → is_among k woken ≡ true → timed_at harts k ≡ false
woken_idle before woken left harts k w waiting among = ap is_timed_status (waiting k (w.from k among))

pub woken_made : (before woken left : List ℕ) (harts : List Hart) → IsWoken before woken left → AreWaiting harts before → (k : ℕ) → is_among k woken ≡ true → k < length harts
woken_made before woken left harts w waiting k among = made-waiting harts k (waiting k (w.from k among))

-- the woken run, and the others wait on
pub waiting_left : (before woken left : List ℕ) (harts : List Hart) → IsWoken before woken left → AreWaiting harts before → AreWaiting (with_running_each woken harts) left
waiting_left before woken left harts w waiting = λ k among.
    status_each woken harts k (woken_made before woken left harts w waiting)
    ∙ ap (λ (b : Bool). if b then Running else status_at harts k) (w.gone k among)
    ∙ waiting k (w.rest k among)

-- there is room for all that are woken
pub few_woken : (before woken left : List ℕ) (harts : List Hart) → IsWoken before woken left → AreWaiting harts before → length woken ≤ length harts
few_woken before woken left harts w waiting = few_apart woken (length harts) w.apart (woken_made before woken left harts w waiting)
