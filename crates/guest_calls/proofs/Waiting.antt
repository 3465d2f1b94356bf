-- The harts that wait, as harts change.
use Rattle.std.proofs.Common.{ℕ, zero, suc, ◌≡◌, ◌≢◌, ◌<◌, Bool, true, false, not, ◌==◌, List, [], ◌∷◌, ◌++◌, length, map, get_or, set, refl, sym, ap, ◌∙◌, subst, ⊎_elim, arith}
use Rattle.std.specs.List.{list_any}
use Rattle.std.proofs.lemmas.Bool.{cases_Bool}
use Rattle.machines.specs.Places.{is_among, AllApart}
use Rattle.guest_futex.specs.Waiters.{Waiter, with_waiter, woken_harts, waiters_left}
use Rattle.guest_pipes.specs.declared.ends.End.{End}
use Rattle.guest_pipes.specs.declared.waiters.PipeWaiter.{PipeWaiter}
use Rattle.guest_pipes.specs.Pipes.{end_of, waits_at, woken_at, left_at}
use Rattle.guest_pipes.proofs.WaitersLemmas.{other_end}
use Rattle.guest_pipes.specs.declared.ends.PipeEnd.TheVariants.{Reading, Writing}
use Rattle.guest_calls.specs.declared.hart.Hart.{Hart}
use Rattle.guest_calls.specs.declared.hart.HartStatus.{HartStatus}
use Rattle.guest_calls.specs.declared.hart.HartStatus.TheVariants.{Running, Waiting, Gone}
use Rattle.guest_calls.specs.Guest.{no_hart}
use Rattle.guest_calls.specs.Orderly.{AreWaiting, waiting_harts}
use Rattle.guest_calls.proofs.Among.{parts, never, IsWoken, first_woken, all_woken, woken_then, woken_left, woken_right, IsAdded, added_first, added_last, not_any}

abbrev status_at : List Hart → ℕ → HartStatus
status_at hs k = (get_or hs k no_hart).status

-- a hart of the same status in a hart's place
pub status-set : (hs : List Hart) (h k : ℕ) (hart : Hart) → hart.status ≡ status_at hs h → status_at (set hs h hart) k ≡ status_at hs k
status-set [] h k hart e = refl
status-set (x ∷ xs) zero zero hart e = e
status-set (x ∷ xs) zero (suc k) hart e = refl
status-set (x ∷ xs) (suc h) zero hart e = refl
status-set (x ∷ xs) (suc h) (suc k) hart e = status-set xs h k hart e

-- another hart's place
pub status-elsewhere : (hs : List Hart) (h k : ℕ) (hart : Hart) → k ≢ h → status_at (set hs h hart) k ≡ status_at hs k
status-elsewhere [] h k hart ne = refl
status-elsewhere (x ∷ xs) zero zero hart ne = absurd (ne refl)
status-elsewhere (x ∷ xs) zero (suc k) hart ne = refl
status-elsewhere (x ∷ xs) (suc h) zero hart ne = refl
status-elsewhere (x ∷ xs) (suc h) (suc k) hart ne = status-elsewhere xs h k hart (λ e. ne (ap suc e))

pub status-append : (hs : List Hart) (k : ℕ) (hart : Hart) → status_at hs k ≡ Waiting → status_at (hs ++ hart ∷ []) k ≡ Waiting
status-append [] k hart e = absurd (let never : Gone ≡ Waiting = e in cc)
status-append (x ∷ xs) zero hart e = e
status-append (x ∷ xs) (suc k) hart e = status-append xs k hart e

status-here : (hs : List Hart) (h : ℕ) (hart : Hart) → h < length hs → status_at (set hs h hart) h ≡ hart.status
status-here [] h hart below = absurd (omega arith)
status-here (x ∷ xs) zero hart below = refl
status-here (x ∷ xs) (suc h) hart below = status-here xs h hart (omega arith)

pub waiting-set : (hs : List Hart) (h : ℕ) (hart : Hart) (ws : List ℕ) → hart.status ≡ status_at hs h → AreWaiting hs ws → AreWaiting (set hs h hart) ws
waiting-set hs h hart ws e waiting = λ k among. status-set hs h k hart e ∙ waiting k among

-- a hart that doesn't wait is no waiter
pub others-moving : (hs : List Hart) (h : ℕ) (ws : List ℕ) → (status_at hs h ≡ Waiting → ⊥) → AreWaiting hs ws → is_among h ws ≡ false
others-moving hs h ws moves waiting =
    ⊎_elim (λ (yes : is_among h ws ≡ true). absurd (moves (waiting h yes))) (λ (no : is_among h ws ≡ false). no) (cases_Bool (is_among h ws))

pub others-running : (hs : List Hart) (h : ℕ) (ws : List ℕ) → status_at hs h ≡ Running → AreWaiting hs ws → is_among h ws ≡ false
others-running hs h ws runs waiting = others-moving hs h ws (λ waits. let never : Running ≡ Waiting = sym runs ∙ waits in cc) waiting

pub waiting-elsewhere : (hs : List Hart) (h : ℕ) (hart : Hart) (ws : List ℕ) → is_among h ws ≡ false → AreWaiting hs ws → AreWaiting (set hs h hart) ws
waiting-elsewhere hs h hart ws others waiting =
    λ k among. status-elsewhere hs h k hart (λ (is : k ≡ h). never (is_among h ws) (subst (λ (n : ℕ). is_among n ws ≡ true) is among) others) ∙ waiting k among

pub waiting-append : (hs : List Hart) (hart : Hart) (ws : List ℕ) → AreWaiting hs ws → AreWaiting (hs ++ hart ∷ []) ws
waiting-append hs hart ws waiting = λ k among. status-append hs k hart (waiting k among)

-- a hart that ran waits from now on
pub waiting-added : (hs : List Hart) (h : ℕ) (hart : Hart) (ws more : List ℕ) → h < length hs → status_at hs h ≡ Running → hart.status ≡ Waiting → IsAdded ws h more → AreWaiting hs ws → AreWaiting (set hs h hart) more
waiting-added hs h hart ws more below runs waits added waiting =
    λ k among.
    ⊎_elim
    (λ (is : k ≡ h). subst (λ (n : ℕ). status_at (set hs h hart) n ≡ Waiting) (sym is) (status-here hs h hart below ∙ waits))
    (λ (in' : is_among k ws ≡ true). waiting-elsewhere hs h hart ws (others-running hs h ws runs waiting) waiting k in')
    (added.from k among)

-- a hart that waits was made
pub made-waiting : (hs : List Hart) (h : ℕ) → status_at hs h ≡ Waiting → h < length hs
made-waiting [] h e = absurd (let never : Gone ≡ Waiting = e in cc)
made-waiting (x ∷ xs) zero e = omega arith
made-waiting (x ∷ xs) (suc h) e = let below : h < length xs = made-waiting xs h e in omega arith

not_true : (b : Bool) → not b ≡ true → b ≡ false
not_true true h = absurd (let never : false ≡ true = h in cc)
not_true false h = refl

parts_left : (ws : List Waiter) (ps : List PipeWaiter) → AllApart (waiting_harts ws ps) → AllApart (map (λ (w : Waiter). w.hart) ws)
parts_left ws ps apart = (parts (map (λ (w : Waiter). w.hart) ws) (map (λ (w : PipeWaiter). w.hart.0) ps) apart).left

parts_right : (ws : List Waiter) (ps : List PipeWaiter) → AllApart (waiting_harts ws ps) → AllApart (map (λ (w : PipeWaiter). w.hart.0) ps)
parts_right ws ps apart = (parts (map (λ (w : Waiter). w.hart) ws) (map (λ (w : PipeWaiter). w.hart.0) ps) apart).right

-- those that a wake at an address takes
pub address_woken : (ws : List Waiter) (ps : List PipeWaiter) (address count : ℕ) → AllApart (waiting_harts ws ps) → IsWoken (waiting_harts ws ps) (woken_harts address ws count) (waiting_harts (waiters_left address ws count) ps)
address_woken ws ps address count apart =
    woken_left (map (λ (w : Waiter). w.hart) ws) (woken_harts address ws count) (map (λ (w : Waiter). w.hart) (waiters_left address ws count)) (map (λ (w : PipeWaiter). w.hart.0) ps) apart
    (first_woken (λ (w : Waiter). w.hart) (λ w. w.address == address) (λ w. not (list_any (λ hart. hart == w.hart) (woken_harts address ws count))) count ws (parts_left ws ps apart)
    (λ w kept. not_any w.hart (woken_harts address ws count) (not_true (list_any (λ hart. hart == w.hart) (woken_harts address ws count)) kept)))

-- those that wait at an end of a pipe
pub end_woken : (ws : List Waiter) (ps : List PipeWaiter) (e : End) → AllApart (waiting_harts ws ps) → IsWoken (waiting_harts ws ps) (woken_at e ps) (waiting_harts ws (left_at e ps))
end_woken ws ps e apart =
    woken_right (map (λ (w : Waiter). w.hart) ws) (map (λ (w : PipeWaiter). w.hart.0) ps) (woken_at e ps) (map (λ (w : PipeWaiter). w.hart.0) (left_at e ps)) apart
    (all_woken (λ (w : PipeWaiter). w.hart.0) (waits_at e) ps (parts_right ws ps apart))

-- those that wait for the bytes of a pipe, and then those that wait for its room
pub close_woken : (ws : List Waiter) (ps : List PipeWaiter) (pipe : ℕ) → AllApart (waiting_harts ws ps)
    → IsWoken (waiting_harts ws ps) (woken_at (end_of pipe Reading) ps ++ woken_at (end_of pipe Writing) ps) (waiting_harts ws (left_at (end_of pipe Writing) (left_at (end_of pipe Reading) ps)))
close_woken ws ps pipe apart =
    let rest : List PipeWaiter = left_at (end_of pipe Reading) ps in
    let first = end_woken ws ps (end_of pipe Reading) apart in
    let both = woken_then (waiting_harts ws ps) (woken_at (end_of pipe Reading) ps) (waiting_harts ws rest) (woken_at (end_of pipe Writing) rest) (waiting_harts ws (left_at (end_of pipe Writing) rest)) first (end_woken ws rest (end_of pipe Writing) first.still) in
    subst (λ (hs : List ℕ). IsWoken (waiting_harts ws ps) (woken_at (end_of pipe Reading) ps ++ hs) (waiting_harts ws (left_at (end_of pipe Writing) rest))) (other_end pipe ps) both

-- one more that waits
pub address_added : (ws : List Waiter) (ps : List PipeWaiter) (address h : ℕ) → AllApart (waiting_harts ws ps) → is_among h (waiting_harts ws ps) ≡ false → IsAdded (waiting_harts ws ps) h (waiting_harts (with_waiter address h ws) ps)
address_added ws ps address h apart none = added_first (λ (w : Waiter). w.hart) ws (record { address = address; hart = h }) (map (λ (w : PipeWaiter). w.hart.0) ps) apart none

pub end_added : (ws : List Waiter) (ps : List PipeWaiter) (w : PipeWaiter) → AllApart (waiting_harts ws ps) → is_among w.hart.0 (waiting_harts ws ps) ≡ false → IsAdded (waiting_harts ws ps) w.hart.0 (waiting_harts ws (ps ++ w ∷ []))
end_added ws ps w apart none = added_last (λ (w : PipeWaiter). w.hart.0) (map (λ (w : Waiter). w.hart) ws) ps w apart none
