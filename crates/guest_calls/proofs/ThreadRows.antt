-- The calls by which harts are made, wait, are woken and leave.
use Rattle.std.proofs.Common.{◌≡◌, ◌<◌, ℕ, ◌%◌, ◌^◌, ◌==◌, nat_le, Bool, true, false, not, ◌||◌, if◌then◌else◌, List, [], ◌∷◌, length, pos, refl, ap, ◌∙◌, arith, replicate, length-append, leb-false, ne_eqb, set, sym, subst, ◌≤◌}
use Rattle.std.specs.Int.{w32, to_le_bytes}
use Rattle.std.proofs.lemmas.List.{length-set}
use Rattle.coz_types.specs.declared.TheConstants.{HARTS}
use Rattle.coz_types.specs.declared.ending.Ending.{Ending}
use Rattle.coz_types.specs.declared.ending.Ending.TheVariants.{Exited, Trapped}
use Rattle.coz_types.specs.declared.ending.Trap.{Trap}
use Rattle.machines.specs.declared.Fate.{Fate}
use Rattle.machines.specs.declared.Fate.TheVariants.{Waits, Leaves, Ends}
use Rattle.machines.specs.Guest.{Retirement, goes_on, is_sleeper}
use Rattle.rv_decode.specs.Fields.{twos_complement}
use Rattle.guest_memory.specs.Memory.{is_readable, is_writable, number_at}
use Rattle.guest_areas.specs.Answers.{try_again, bad_address, invalid_argument}
use Rattle.guest_areas.specs.Space.{has_power}
use Rattle.guest_futex.specs.Waiters.{woken_harts}
use Rattle.guest_calls.specs.declared.hart.Hart.{Hart}
use Rattle.guest_calls.specs.declared.hart.HartStatus.{HartStatus}
use Rattle.guest_calls.specs.declared.hart.HartStatus.TheVariants.{Waiting}
use Rattle.guest_calls.specs.Guest.{Guest, making, sleepers_of, with_hart, with_stored, is_running, is_running_status, is_sleeping_status, is_over, memory_of, thread_id}
use Rattle.guest_calls.specs.Calls
use Rattle.guest_calls.specs.Calls.{retirement, with_answer, left_by, leave, unsupported, with_word, with_woken, clear_address, woken_at_exit, cleared, is_cleared, waiting_for, most_woken, woken_here, parent_set_tid, child_set_tid, child, with_child, with_parent_tid, with_child_tid, cloned, is_accepted, a0, a1, a2, a3, a4}
use Rattle.guest_calls.specs.Orderly.{IsOrderly, AreWaiting}
use Rattle.guest_calls.proofs.Waiting.{others-running, waiting-elsewhere, waiting-append, waiting-added, address_woken, address_added}
use Rattle.guest_calls.proofs.Among.{IsAdded}
use Rattle.machines.specs.Places.{is_among}
use Rattle.guest_calls.proofs.RunningHarts.{timed_at, is_timed_status, made_running, runs_here, runs_awake, timed_put, status_append, next_idle, asleep_put, asleep_append}
use Rattle.guest_calls.proofs.Started.{IsStarted, IsAsBefore, RunsBeside, waiting_of, roused_beside, running_low, either, same_harts, later, unchanged, still_orderly, none_beside, beside_then, beside_still, stops_started, replied_started, answer_started, stored_made, checked, unsupported_started}

-- waiters are woken
woken_beside : (g : Guest) (h address count : ℕ) → IsOrderly g → is_running g h ≡ true → RunsBeside g h (woken_harts address g.waiters count) (with_woken address count g)
woken_beside g h address count good runs =
    roused_beside g (with_woken address count g) h (woken_harts address g.waiters count) good runs (address_woken g.waiters g.pipes.waiters address count good.apart) refl refl

-- a running hart is no waiter, whatever becomes of it
pub set_orderly : (g : Guest) (h : ℕ) (hart : Hart) → IsOrderly g → is_running g h ≡ true → IsOrderly (with_hart h hart g)
set_orderly g h hart good runs = record {
  few = rw (length-set g.harts h hart) good.few;
  waiting = waiting-elsewhere g.harts h hart (waiting_of g) (others-running g.harts h (waiting_of g) (runs_here g.harts h runs) good.waiting) good.waiting;
  apart = good.apart;
}

runs_still : (g : Guest) (h : ℕ) (others : List ℕ) (after : Guest) → RunsBeside g h others after → is_running g h ≡ true → is_running after h ≡ true
runs_still g h others after beside runs = ap is_running_status (beside_still g h others after beside) ∙ runs

never_goes : (over : Bool) (e : Ending) → goes_on (if over then Ends e else Leaves) ≡ false
never_goes true e = refl
never_goes false e = refl

never_sleeps : (over : Bool) (e : Ending) → is_sleeper (if over then Ends e else Leaves) ≡ false
never_sleeps true e = refl
never_sleeps false e = refl

never_traps : (over : Bool) (code : ℕ) (t : Trap) → (if over then Ends (Exited code) else Leaves) ≡ Ends (Trapped t) → ⊥
never_traps true code t is = cc
never_traps false code t is = cc

leave_started : (g : Guest) (h : ℕ) (others : List ℕ) (after : Guest) → RunsBeside g h others after → is_running g h ≡ true → IsStarted g h (leave h others after)
leave_started g h others after beside runs =
    let still : is_running after h ≡ true = runs_still g h others after beside runs in
    stops_started g h others after (left_by h after) _ (never_goes (is_over (left_by h after)) _) (never_sleeps (is_over (left_by h after)) _) (λ t is. absurd (never_traps (is_over (left_by h after)) _ t is)) beside (set_orderly after h _ beside.orderly still) refl
    (λ k. timed_put after.harts h k _ (made_running after.harts h still)) (asleep_put after.harts h _ (runs_awake _ still) refl)

cleared_beside : (g : Guest) (h : ℕ) → IsOrderly g → is_running g h ≡ true → RunsBeside g h (woken_at_exit g h) (cleared g h)
cleared_beside g h good runs =
    let zeroed : Guest = with_stored (clear_address g h) (replicate 4 0) g in
    let told = stored_made (clear_address g h) (replicate 4 0) g in
    let beside = woken_beside zeroed h (clear_address g h) 1 (still_orderly g zeroed (same_harts g zeroed refl refl told) good) runs in
    record { orderly = beside.orderly; apart = beside.apart; status = beside.status; asleep = beside.asleep; idle = beside.idle; made = beside.made ∙ told }

pub exit_started : (g : Guest) (h : ℕ) → IsOrderly g → is_running g h ≡ true → IsStarted g h (Calls.exit g h)
unfolding Calls.exit
exit_started g h good runs =
    either (IsStarted g h) (is_cleared g h) (leave h (woken_at_exit g h) (cleared g h)) (leave h [] g)
    (leave_started g h (woken_at_exit g h) (cleared g h) (cleared_beside g h good runs) runs)
    (leave_started g h [] g (none_beside g h g (unchanged g) good) runs)

-- the hart waits, for an address or for a pipe
pub stopped_orderly : (g last : Guest) (h : ℕ) (hart : Hart) → IsOrderly g → is_running g h ≡ true → hart.status ≡ Waiting → last.harts ≡ set g.harts h hart → IsAdded (waiting_of g) h (waiting_of last) → IsOrderly last
stopped_orderly g last h hart good runs waits harts added = record {
  few = subst (λ (hs : List Hart). length hs ≤ 256) (sym harts) (subst (λ (n : ℕ). n ≤ 256) (sym (length-set g.harts h hart)) good.few);
  waiting = subst (λ (hs : List Hart). AreWaiting hs (waiting_of last)) (sym harts) (waiting-added g.harts h hart (waiting_of g) (waiting_of last) (running_low g h good runs).0 (runs_here g.harts h runs) waits added good.waiting);
  apart = added.apart;
}

pub waits_started : (g last : Guest) (h : ℕ) (hart : Hart) → IsOrderly g → is_running g h ≡ true → hart.status ≡ Waiting → last.harts ≡ set g.harts h hart → IsAdded (waiting_of g) h (waiting_of last) → making last ≡ making g → IsStarted g h (retirement last Waits [])
waits_started g last h hart good runs waits harts added made =
    stops_started g h [] g last Waits refl refl (λ t is. absurd (let no : ◌≡◌ {A = Fate} Waits (Ends (Trapped t)) = is in cc)) (none_beside g h g (unchanged g) good) (stopped_orderly g last h hart good runs waits harts added) made
    (λ k. ap (λ (hs : List Hart). timed_at hs k) harts ∙ timed_put g.harts h k hart (made_running g.harts h runs) ∙ ap (λ (s : HartStatus). if k == h then is_timed_status s else timed_at g.harts k) waits)
    (ap sleepers_of harts ∙ asleep_put g.harts h hart (runs_awake _ runs) (ap is_sleeping_status waits))

-- a running hart isn't among those that wait
pub not_waiting : (g : Guest) (h : ℕ) → IsOrderly g → is_running g h ≡ true → is_among h (waiting_of g) ≡ false
not_waiting g h good runs = others-running g.harts h (waiting_of g) (runs_here g.harts h runs) good.waiting

wait_started : (g : Guest) (h : ℕ) → IsOrderly g → is_running g h ≡ true → IsStarted g h (Calls.wait g h)
unfolding Calls.wait
wait_started g h good runs =
    either (IsStarted g h) (not (a3 g h == 0)) (unsupported g h) _ (unsupported_started g h good)
    (checked (not (a0 g h % 4 == 0)) invalid_argument h g _ good runs
    (checked (not (is_readable (memory_of g) (a0 g h) 4)) bad_address h g _ good runs
    (checked (not (number_at (memory_of g) (a0 g h) 4 == a2 g h % 2 ^ 32)) try_again h g _ good runs
    (waits_started g (waiting_for g h (a0 g h)) h _ good runs refl refl (address_added g.waiters g.pipes.waiters (a0 g h) h good.apart (not_waiting g h good runs)) refl))))

wake_started : (g : Guest) (h : ℕ) → IsOrderly g → is_running g h ≡ true → IsStarted g h (Calls.wake g h)
unfolding Calls.wake
wake_started g h good runs =
    checked (not (a0 g h % 4 == 0)) invalid_argument h g _ good runs
    (replied_started (twos_complement 64 (pos (length (woken_here g h)))) h g (woken_here g h) (with_woken (a0 g h) (most_woken g h) g) (woken_beside g h (a0 g h) (most_woken g h) good runs) runs)

pub futex_started : (g : Guest) (h : ℕ) → IsOrderly g → is_running g h ≡ true → IsStarted g h (Calls.futex g h)
unfolding Calls.futex
futex_started g h good runs =
    either (IsStarted g h) (a1 g h == 0 || a1 g h == 128) (Calls.wait g h) _ (wait_started g h good runs)
    (either (IsStarted g h) (a1 g h == 1 || a1 g h == 129) (Calls.wake g h) (unsupported g h) (wake_started g h good runs) (unsupported_started g h good))

-- a hart is made
word_kept : (address n : ℕ) (g : Guest) → IsAsBefore g (with_word address n g)
word_kept address n g =
    let stored : Guest = with_stored address (to_le_bytes w32 n) g in
    either (IsAsBefore g) (is_writable (memory_of g) address 4) stored g (same_harts g stored refl refl (stored_made address (to_le_bytes w32 n) g)) (unchanged g)

parent_kept : (g : Guest) (h : ℕ) (changed : Guest) → IsAsBefore changed (with_parent_tid g h changed)
parent_kept g h changed =
    either (IsAsBefore changed) (has_power (a0 g h) parent_set_tid) (with_word (a2 g h) (thread_id (child g h)) changed) changed (word_kept (a2 g h) (thread_id (child g h)) changed) (unchanged changed)

child_kept : (g : Guest) (h : ℕ) (changed : Guest) → IsAsBefore changed (with_child_tid g h changed)
child_kept g h changed =
    either (IsAsBefore changed) (has_power (a0 g h) child_set_tid) (with_word (a4 g h) (thread_id (child g h)) changed) changed (word_kept (a4 g h) (thread_id (child g h)) changed) (unchanged changed)

child_beside : (g : Guest) (h : ℕ) → IsOrderly g → is_running g h ≡ true → length g.harts < 256 → RunsBeside g h (child g h ∷ []) (with_child g h)
child_beside g h good runs room =
    let made : h < length g.harts = made_running g.harts h runs in
    record {
      orderly = record { few = rw length-append (omega arith); waiting = waiting-append g.harts _ (waiting_of g) good.waiting; apart = good.apart };
      apart = (rw (ne_eqb h (length g.harts) (omega arith)) refl, (refl, tt));
      status = λ k. status_append g.harts _ k;
      asleep = asleep_append g.harts _ refl;
      idle = λ k among. next_idle g.harts k among;
      made = refl;
    }

cloned_beside : (g : Guest) (h : ℕ) → IsOrderly g → is_running g h ≡ true → length g.harts < 256 → RunsBeside g h (child g h ∷ []) (cloned g h)
cloned_beside g h good runs room =
    let told : Guest = with_parent_tid g h (with_child g h) in
    beside_then g h (child g h ∷ []) (with_child g h) (cloned g h) (child_beside g h good runs room)
    (later (with_child g h) told (cloned g h) (parent_kept g h (with_child g h)) (child_kept g h told))

with_room : (full : Bool) (g : Guest) (h : ℕ) (r : Retirement Guest) → nat_le HARTS (length g.harts) ≡ full → IsOrderly g → is_running g h ≡ true → (length g.harts < 256 → IsStarted g h r)
    → IsStarted g h (if full then with_answer try_again h g else r)
with_room true g h r e good runs rest = answer_started try_again h g g refl refl refl good runs
with_room false g h r e good runs rest = rest (leb-false 256 (length g.harts) e)

pub clone_started : (g : Guest) (h : ℕ) → IsOrderly g → is_running g h ≡ true → IsStarted g h (Calls.clone g h)
unfolding Calls.clone
clone_started g h good runs =
    either (IsStarted g h) (not (is_accepted (a0 g h))) (unsupported g h) _ (unsupported_started g h good)
    (with_room (nat_le HARTS (length g.harts)) g h _ refl good runs
    (λ room. replied_started (twos_complement 64 (pos (thread_id (child g h)))) h g (child g h ∷ []) (cloned g h) (cloned_beside g h good runs room) runs))
