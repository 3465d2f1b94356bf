-- The calls by which pipes are made, read, written and closed.
use Rattle.std.proofs.Common.{◌≡◌, ℕ, ◌==◌, true, not, ◌||◌, [], take, pos, refl}
use Rattle.machines.specs.declared.Fate.TheVariants.{Waits}
use Rattle.machines.specs.Guest.{Retirement}
use Rattle.rv_decode.specs.Fields.{twos_complement}
use Rattle.guest_memory.specs.Memory.{is_readable, is_writable}
use Rattle.guest_areas.specs.Answers.{bad_file, bad_address, too_many_files, broken_pipe}
use Rattle.guest_pipes.specs.declared.ends.PipeEnd.TheVariants.{Reading, Writing}
use Rattle.guest_pipes.specs.declared.waiters.PipeWaiter.{PipeWaiter}
use Rattle.guest_pipes.specs.declared.Ready.{Ready}
use Rattle.guest_pipes.specs.declared.Ready.TheVariants.{Now, Closed, Wait}
use Rattle.guest_pipes.specs.Pipes.{end_of, this_end, held, can_make, made, made_numbers, readiness, woken_for, closed}
use Rattle.guest_calls.specs.Guest.{Guest, with_stored, is_running, memory_of}
use Rattle.guest_calls.specs.Calls
use Rattle.guest_calls.specs.Calls.{retirement, unsupported, a0, a1, a2, is_stream, is_end, read_length, number_bytes, waiting_for_pipe, with_taken, with_put, woken_at_close, with_pipes, read_now, write_now}
use Rattle.guest_calls.specs.Orderly.{IsOrderly}
use Rattle.guest_calls.proofs.Waiting.{end_woken, close_woken, end_added}
use Rattle.guest_calls.proofs.Started.{IsStarted, either, replied_started, answer_started, checked, stored_made, unsupported_started, roused_beside}
use Rattle.guest_calls.proofs.ThreadRows.{waits_started, not_waiting}

-- whatever a call finds
pub by_readiness : (P : Retirement Guest → Type 0) (r : Ready) (now : ℕ → Retirement Guest) (ended wait : Retirement Guest) → ((n : ℕ) → P (now n)) → P ended → P wait → P (elim r [ Now n ↦ now n | Closed ↦ ended | Wait ↦ wait ])
by_readiness P (Now n) now ended wait p q w = p n
by_readiness P Closed now ended wait p q w = q
by_readiness P Wait now ended wait p q w = w

waits : (g : Guest) (h : ℕ) → IsOrderly g → is_running g h ≡ true → IsStarted g h (retirement (waiting_for_pipe g h) Waits [])
waits g h good runs =
    let w : PipeWaiter = record { at = this_end (a0 g h) g.pipes; hart = record { 0 = h } } in
    waits_started g (waiting_for_pipe g h) h _ good runs refl refl (end_added g.waiters g.pipes.waiters w good.apart (not_waiting g h good runs)) refl

read_now_started : (g : Guest) (h n : ℕ) → IsOrderly g → is_running g h ≡ true → IsStarted g h (read_now g h n)
unfolding Calls.read_now
read_now_started g h n good runs =
    checked (not (is_writable (memory_of g) (a1 g h) n)) bad_address h g _ good runs
    (replied_started (twos_complement 64 (pos n)) h g (woken_for Writing (a0 g h) g.pipes) (with_taken g h n)
    (roused_beside g (with_taken g h n) h (woken_for Writing (a0 g h) g.pipes) good runs (end_woken g.waiters g.pipes.waiters (end_of (this_end (a0 g h) g.pipes).pipe Writing) good.apart) refl (stored_made (a1 g h) (take n (held (a0 g h) g.pipes)) g))
    runs)

pub read_pipe_started : (g : Guest) (h : ℕ) → IsOrderly g → is_running g h ≡ true → IsStarted g h (Calls.read_pipe g h)
unfolding Calls.read_pipe
read_pipe_started g h good runs =
    checked (a2 g h == 0) (pos 0) h g _ good runs
    (by_readiness (IsStarted g h) (readiness (a0 g h) (a2 g h) g.pipes) _ _ _ (λ n. read_now_started g h n good runs) (answer_started (pos 0) h g g refl refl refl good runs) (waits g h good runs))

write_now_started : (g : Guest) (h n : ℕ) → IsOrderly g → is_running g h ≡ true → IsStarted g h (write_now g h n)
unfolding Calls.write_now
write_now_started g h n good runs =
    replied_started (twos_complement 64 (pos n)) h g (woken_for Reading (a0 g h) g.pipes) (with_put g h n)
    (roused_beside g (with_put g h n) h (woken_for Reading (a0 g h) g.pipes) good runs (end_woken g.waiters g.pipes.waiters (end_of (this_end (a0 g h) g.pipes).pipe Reading) good.apart) refl refl)
    runs

pub write_pipe_started : (g : Guest) (h : ℕ) → IsOrderly g → is_running g h ≡ true → IsStarted g h (Calls.write_pipe g h)
unfolding Calls.write_pipe
write_pipe_started g h good runs =
    checked (a2 g h == 0) (pos 0) h g _ good runs
    (by_readiness (IsStarted g h) (readiness (a0 g h) (a2 g h) g.pipes) _ _ _
    (λ n. checked (not (is_readable (memory_of g) (a1 g h) (a2 g h))) bad_address h g _ good runs (write_now_started g h n good runs))
    (answer_started broken_pipe h g g refl refl refl good runs)
    (checked (not (is_readable (memory_of g) (a1 g h) (a2 g h))) bad_address h g _ good runs (waits g h good runs)))

pub close_started : (g : Guest) (h : ℕ) → IsOrderly g → is_running g h ≡ true → IsStarted g h (Calls.close g h)
unfolding Calls.close
close_started g h good runs =
    let after : Guest = with_pipes (closed (a0 g h) g.pipes) (woken_at_close g h) g in
    either (IsStarted g h) (is_stream (a0 g h)) (unsupported g h) _ (unsupported_started g h good)
    (checked (not (is_end (a0 g h) g)) bad_file h g _ good runs
    (replied_started (twos_complement 64 (pos 0)) h g (woken_at_close g h) after
    (roused_beside g after h (woken_at_close g h) good runs (close_woken g.waiters g.pipes.waiters (this_end (a0 g h) g.pipes).pipe good.apart) refl refl)
    runs))

pub pipe2_started : (g : Guest) (h : ℕ) → IsOrderly g → is_running g h ≡ true → IsStarted g h (Calls.pipe2 g h)
unfolding Calls.pipe2
pipe2_started g h good runs =
    let after : Guest = record g { pipes = made g.pipes } in
    either (IsStarted g h) (not (a1 g h == 0 || a1 g h == 0x80000)) (unsupported g h) _ (unsupported_started g h good)
    (checked (not (is_writable (memory_of g) (a0 g h) 8)) bad_address h g _ good runs
    (checked (not (can_make g.pipes)) too_many_files h g _ good runs
    (answer_started (pos 0) h g (with_stored (a0 g h) (number_bytes (made_numbers g.pipes)) after) refl refl (stored_made (a0 g h) (number_bytes (made_numbers g.pipes)) after) good runs)))
