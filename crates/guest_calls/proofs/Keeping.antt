-- What holds of a guest's fields, as harts change.
use Rattle.std.proofs.Common.{ℕ, zero, suc, ◌≡◌, ◌≢◌, ◌<◌, ◌≤◌, Bool, true, false, List, [], ◌∷◌, ◌++◌, length, map, get_or, set, refl, sym, ap, ◌∙◌, subst, arith, length-append, eq-eqb}
use Rattle.std.proofs.lemmas.List.{length-set}
use Rattle.std.specs.Prelude.{All}
use Rattle.guest_memory.specs.Memory.{MemoryMap}
use Rattle.guest_futex.specs.Waiters.{Waiter, with_waiter, woken_harts, waiters_left}
use Rattle.guest_pipes.specs.declared.waiters.PipeWaiter.{PipeWaiter}
use Rattle.machines.specs.Places.{is_among}
use Rattle.guest_calls.specs.declared.hart.Hart.{Hart}
use Rattle.guest_calls.specs.declared.hart.HartStatus.{HartStatus}
use Rattle.guest_calls.specs.declared.hart.HartStatus.TheVariants.{Running, Waiting, Sleeping, Gone}
use Rattle.guest_calls.specs.Guest.{Guest, no_hart, is_running_status, is_sleeping_status, with_running_each}
use Rattle.guest_calls.specs.Kept.{Parts, AreShared, IsKept}
use Rattle.guest_calls.specs.Orderly.{IsOrderly, waiting_harts}
use Rattle.guest_calls.proofs.Waiting.{waiting-set, waiting-elsewhere, waiting-append, waiting-added, others-moving, others-running, address_woken, address_added}
use Rattle.guest_calls.proofs.RunningHarts.{length_each, waiting_left, woken_made, few_woken}
use Rattle.guest_calls.proofs.Among.{never, among_fewer, among_left, among_right, among_at, IsWoken, IsAdded}
use Rattle.guest_calls.proofs.Rows.{made-running}

running_is : (s : HartStatus) → is_running_status s ≡ true → s ≡ Running
running_is Running e = refl
running_is Waiting e = absurd (let never : false ≡ true = e in cc)
running_is Sleeping e = absurd (let never : false ≡ true = e in cc)
running_is Gone e = absurd (let never : false ≡ true = e in cc)

-- a hart that none of them is
pub all-others : {X : Type 0} (f : X → ℕ) (h : ℕ) (ws : List X) → is_among h (map f ws) ≡ false → All (λ w. f w ≢ h) ws
all-others f h [] none k d below = absurd (omega arith)
all-others f h (w ∷ ws) none zero d below = λ (is : f w ≡ h). never (is_among h (map f (w ∷ ws))) (rw (eq-eqb h (f w) (sym is)) refl) none
all-others f h (w ∷ ws) none (suc k) d below =
    all-others f h ws (among_fewer h (map f ws) (map f (w ∷ ws)) (among_right h (f w ∷ []) (map f ws)) none) k d (let less : suc k < suc (length ws) = below in omega arith)

pub others_first : (ws : List Waiter) (ps : List PipeWaiter) (h : ℕ) → is_among h (waiting_harts ws ps) ≡ false → is_among h (map (λ (w : Waiter). w.hart) ws) ≡ false
others_first ws ps h none = among_fewer h (map (λ (w : Waiter). w.hart) ws) (waiting_harts ws ps) (among_left h (map (λ (w : Waiter). w.hart) ws) (map (λ (w : PipeWaiter). w.hart.0) ps)) none

pub others_second : (ws : List Waiter) (ps : List PipeWaiter) (h : ℕ) → is_among h (waiting_harts ws ps) ≡ false → is_among h (map (λ (w : PipeWaiter). w.hart.0) ps) ≡ false
others_second ws ps h none = among_fewer h (map (λ (w : PipeWaiter). w.hart.0) ps) (waiting_harts ws ps) (among_right h (map (λ (w : Waiter). w.hart) ws) (map (λ (w : PipeWaiter). w.hart.0) ps)) none

abbrev runs_at : List Hart → ℕ → Bool
runs_at hs h = is_running_status (get_or hs h no_hart).status

-- a guest whose fields keep their rules is orderly
pub orderly : (inside g : Guest) (cap : ℕ) (r : Parts) (m : MemoryMap) → inside ≡ g → IsKept inside.harts cap inside.waiters inside.pipes.waiters r m → IsOrderly g
orderly inside g cap r m view kept =
    subst (λ (x : Guest). IsOrderly x) view (record { few = kept.few; waiting = kept.waiting; apart = kept.apart })

module _ (hs : List Hart) (cap : ℕ) (ws : List Waiter) (ps : List PipeWaiter) (r : Parts) (m : MemoryMap) where
  -- a hart of the same status in its place
  pub kept-set : (h : ℕ) (hart : Hart) → IsKept hs cap ws ps r m → hart.status ≡ (get_or hs h no_hart).status → IsKept (set hs h hart) cap ws ps r m
  kept-set h hart kept same = record {
    few = simp length-set kept.few;
    room = kept.room;
    waiting = waiting-set hs h hart (waiting_harts ws ps) same kept.waiting;
    apart = kept.apart;
    shared = kept.shared;
  }

  -- a hart that ran doesn't wait, whatever it does now
  pub others-kept : (h : ℕ) → IsKept hs cap ws ps r m → runs_at hs h ≡ true → is_among h (waiting_harts ws ps) ≡ false
  others-kept h kept runs = others-running hs h (waiting_harts ws ps) (running_is (get_or hs h no_hart).status runs) kept.waiting

  pub kept-changed : (h : ℕ) (hart : Hart) → IsKept hs cap ws ps r m → runs_at hs h ≡ true → IsKept (set hs h hart) cap ws ps r m
  kept-changed h hart kept runs = record {
    few = simp length-set kept.few;
    room = kept.room;
    waiting = waiting-elsewhere hs h hart (waiting_harts ws ps) (others-kept h kept runs) kept.waiting;
    apart = kept.apart;
    shared = kept.shared;
  }

  -- nor does one that slept
  pub kept-woken_up : (h : ℕ) (hart : Hart) → IsKept hs cap ws ps r m → is_sleeping_status (get_or hs h no_hart).status ≡ true → IsKept (set hs h hart) cap ws ps r m
  kept-woken_up h hart kept asleep = record {
    few = simp length-set kept.few;
    room = kept.room;
    waiting =
        waiting-elsewhere hs h hart (waiting_harts ws ps)
        (others-moving hs h (waiting_harts ws ps) (λ waits. let never : false ≡ true = ap is_sleeping_status (sym waits) ∙ asleep in cc) kept.waiting)
        kept.waiting;
    apart = kept.apart;
    shared = kept.shared;
  }

  -- a hart that ran waits
  pub kept-added : (h : ℕ) (hart : Hart) (more : List Waiter) (pmore : List PipeWaiter) → IsKept hs cap ws ps r m → runs_at hs h ≡ true → hart.status ≡ Waiting → IsAdded (waiting_harts ws ps) h (waiting_harts more pmore) → IsKept (set hs h hart) cap more pmore r m
  kept-added h hart more pmore kept runs waits added = record {
    few = simp length-set kept.few;
    room = kept.room;
    waiting = waiting-added hs h hart (waiting_harts ws ps) (waiting_harts more pmore) (made-running hs h runs) (running_is (get_or hs h no_hart).status runs) waits added kept.waiting;
    apart = added.apart;
    shared = kept.shared;
  }

  pub kept-with_waiter : (h a : ℕ) (hart : Hart) → IsKept hs cap ws ps r m → runs_at hs h ≡ true → hart.status ≡ Waiting → IsKept (set hs h hart) cap (with_waiter a h ws) ps r m
  kept-with_waiter h a hart kept runs waits = kept-added h hart (with_waiter a h ws) ps kept runs waits (address_added ws ps a h kept.apart (others-kept h kept runs))

  -- those that are woken run, whatever they waited for
  pub kept-roused : (woken : List ℕ) (left : List Waiter) (pleft : List PipeWaiter) (after : MemoryMap) → IsKept hs cap ws ps r m → IsWoken (waiting_harts ws ps) woken (waiting_harts left pleft) → AreShared r after → IsKept (with_running_each woken hs) cap left pleft r after
  kept-roused woken left pleft after kept w shared = record {
    few = let same = length_each woken hs in let few : length hs ≤ 256 = kept.few in omega (arith, same);
    room = kept.room;
    waiting = waiting_left (waiting_harts ws ps) woken (waiting_harts left pleft) hs w kept.waiting;
    apart = w.still;
    shared = shared;
  }

  pub kept-woken : (a n : ℕ) → IsKept hs cap ws ps r m → IsKept (with_running_each (woken_harts a ws n) hs) cap (waiters_left a ws n) ps r m
  kept-woken a n kept = kept-roused (woken_harts a ws n) (waiters_left a ws n) ps m kept (address_woken ws ps a n kept.apart) kept.shared

  pub kept-append : (hart : Hart) (more : ℕ) → IsKept hs cap ws ps r m → length hs < 256 → cap ≤ more → IsKept (hs ++ hart ∷ []) more ws ps r m
  kept-append hart more kept below grown = record {
    few = simp length-append (omega arith);
    room = let room : 256 ≤ cap = kept.room in omega arith;
    waiting = waiting-append hs hart (waiting_harts ws ps) kept.waiting;
    apart = kept.apart;
    shared = kept.shared;
  }

  -- each that is woken was made, and there is room for all
  pub roused-made : (woken left : List ℕ) → IsKept hs cap ws ps r m → IsWoken (waiting_harts ws ps) woken left → (k : ℕ) → k < length woken → get_or woken k 0 < length hs
  roused-made woken left kept w k below = woken_made (waiting_harts ws ps) woken left hs w kept.waiting (get_or woken k 0) (among_at woken k below)

  pub few-roused : (woken left : List ℕ) → IsKept hs cap ws ps r m → IsWoken (waiting_harts ws ps) woken left → length woken ≤ 256
  few-roused woken left kept w = let few : length hs ≤ 256 = kept.few in omega (arith, few_woken (waiting_harts ws ps) woken left hs w kept.waiting)

  pub woken-made : (a n : ℕ) → IsKept hs cap ws ps r m → (k : ℕ) → k < length (woken_harts a ws n) → get_or (woken_harts a ws n) k 0 < length hs
  woken-made a n kept = roused-made (woken_harts a ws n) (waiting_harts (waiters_left a ws n) ps) kept (address_woken ws ps a n kept.apart)

  pub few-woken : (a n : ℕ) → IsKept hs cap ws ps r m → length (woken_harts a ws n) ≤ 256
  few-woken a n kept = few-roused (woken_harts a ws n) (waiting_harts (waiters_left a ws n) ps) kept (address_woken ws ps a n kept.apart)
