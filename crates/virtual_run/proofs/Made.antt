-- The harts that a retirement of the guest makes or wakes are among those that were made by then, and each hart that it makes is one of them.
use Rattle.std.proofs.Common.{◌≡◌, ℕ, suc, ◌+◌, ◌%◌, ◌^◌, ◌==◌, max, nat_le, nat_lt, Bool, true, false, not, ◌||◌, if◌then◌else◌, List, [], ◌∷◌, length, get_or, set, pos, ℤ, Option, Some, None, refl, sym, ap, ◌∙◌, subst, arith, replicate, length-append}
use Rattle.std.specs.Int.{w32, to_le_bytes}
use Rattle.std.proofs.lemmas.List.{length-set}
use Rattle.coz_types.specs.declared.TheConstants.{HARTS}
use Rattle.coz_types.specs.declared.ending.Ending.TheVariants.{Clock}
use Rattle.coz_types.specs.Image.{ImageParts}
use Rattle.machines.specs.declared.Fate.TheVariants.{Sleeps, Ends}
use Rattle.machines.specs.Guest.{Retirement}
use Rattle.guest_memory.specs.declared.Layout.{Layout}
use Rattle.guest_memory.specs.Memory.{is_readable, is_writable, bytes_at, number_at}
use Rattle.guest_areas.specs.Answers.{bad_file, no_memory, bad_address, invalid_argument, no_terminal, no_seek, try_again, too_many_files, broken_pipe}
use Rattle.guest_areas.specs.Space.{Space, Answered, with_break, map, unmap, protect, has_power}
use Rattle.guest_futex.specs.Waiters.{woken_harts}
use Rattle.rv_execute.specs.declared.hart.Step.{Step}
use Rattle.rv_execute.specs.declared.hart.Step.TheVariants.{Next, Call, Fault}
use Rattle.guest_calls.specs.declared.hart.Hart.{Hart}
use Rattle.guest_calls.specs.declared.hart.HartStatus.TheVariants.{Running}
use Rattle.guest_calls.specs.declared.pieces.Piece.{Piece}
use Rattle.guest_calls.specs.declared.times.Span.{Span}
use Rattle.guest_calls.specs.Times.{span_at, span_bytes, wake_moment, last_moment, clock_at}
use Rattle.guest_calls.specs.Guest.{Guest, hart_at, no_hart, with_hart, with_stored, with_written, with_running_each, memory_of, thread_id, first_guest}
use Rattle.guest_calls.specs.Calls
use Rattle.guest_calls.specs.Calls.{retirement, with_answer, with_answer_and, is_file, is_end, is_reading_end, is_writing_end, number_bytes, with_taken, with_put, with_pipes, woken_at_close, of_space, unsupported, leave, with_word, with_woken, clear_address, woken_at_exit, cleared, is_cleared, asleep, sleep_until, most_woken, parent_set_tid, child_set_tid, child, with_child, with_parent_tid, cloned, is_accepted, a0, a1, a2, a3, a4, with_filled, with_read, filled_parts, total, is_each_writable, is_each_readable, bytes_of, pieces_at, are_few, is_named, read_length, is_stream, is_input, is_output, is_mapping, calls, call_of}
use Rattle.guest_calls.specs.Retire.{step_result, step, retirement_after, retire}
use Rattle.guest_calls.specs.Orderly.{IsOrderly}
use Rattle.guest_calls.proofs.Steps.{step-call, step-harts}
use Rattle.guest_calls.proofs.ByNumber.{AreRows, call_has}
use Rattle.guest_calls.proofs.Started.{either, waiting_of}
use Rattle.guest_calls.proofs.Among.{IsWoken}
use Rattle.guest_calls.proofs.Waiting.{address_woken, end_woken, close_woken}
use Rattle.guest_calls.proofs.RunningHarts.{woken_made}
use Rattle.guest_calls.proofs.PipeRows.{by_readiness}
use Rattle.guest_pipes.specs.declared.ends.PipeEnd.TheVariants.{Reading, Writing}
use Rattle.guest_pipes.specs.Pipes.{end_of, this_end, can_make, made, made_numbers, readiness, woken_for, closed}
use Rattle.virtual_run.proofs.CreditedPlaces.{places, places_kept}

-- n harts were made before
abbrev pub Grows : ℕ → Retirement Guest → Type 0
Grows n r = length r.guest.harts ≡ places r.others n

-- no hart is made
answer_grows : (z : ℤ) (h n : ℕ) (g : Guest) → length g.harts ≡ n → Grows n (with_answer z h g)
answer_grows z h n g same = length-set g.harts h _ ∙ same

checked : (b : Bool) (z : ℤ) (h : ℕ) (g : Guest) (r : Retirement Guest) → Grows (length g.harts) r → Grows (length g.harts) (if b then with_answer z h g else r)
checked true z h g r rest = answer_grows z h (length g.harts) g refl
checked false z h g r rest = rest

of_space_grows : (g : Guest) (h : ℕ) (a : Answered) → Grows (length g.harts) (of_space g h a)
of_space_grows g h a = answer_grows a.answer h (length g.harts) (record g { space = a.space }) refl

running_each : (hs : List ℕ) (harts : List Hart) → length (with_running_each hs harts) ≡ length harts
running_each [] harts = refl
running_each (h ∷ hs) harts =
    let run : Hart = record (get_or harts h no_hart) { status = Running } in
    running_each hs (set harts h run) ∙ length-set harts h run

-- waiters that are woken were made
roused_count : (g after : Guest) (woken : List ℕ) → IsOrderly g → IsWoken (waiting_of g) woken (waiting_of after) → after.harts ≡ with_running_each woken g.harts → length after.harts ≡ places woken (length g.harts)
roused_count g after woken good w harts =
    ap (λ (hs : List Hart). length hs) harts ∙ running_each woken g.harts
    ∙ sym (places_kept woken (length g.harts) (woken_made (waiting_of g) woken (waiting_of after) g.harts w good.waiting))

woken_count : (g : Guest) (address count : ℕ) → IsOrderly g → length (with_woken address count g).harts ≡ places (woken_harts address g.waiters count) (length g.harts)
woken_count g address count good = roused_count g (with_woken address count g) (woken_harts address g.waiters count) good (address_woken g.waiters g.pipes.waiters address count good.apart) refl

leave_grows : (h n : ℕ) (others : List ℕ) (g : Guest) → length g.harts ≡ places others n → Grows n (leave h others g)
leave_grows h n others g same = length-set g.harts h _ ∙ same

exit_grows : (g : Guest) (h : ℕ) → IsOrderly g → Grows (length g.harts) (Calls.exit g h)
unfolding Calls.exit
exit_grows g h good =
    either (Grows (length g.harts)) (is_cleared g h) (leave h (woken_at_exit g h) (cleared g h)) (leave h [] g)
    (leave_grows h (length g.harts) (woken_at_exit g h) (cleared g h) (woken_count (with_stored (clear_address g h) (replicate 4 0) g) (clear_address g h) 1 (record { few = good.few; waiting = good.waiting; apart = good.apart })))
    (leave_grows h (length g.harts) [] g refl)

wait_grows : (g : Guest) (h : ℕ) → Grows (length g.harts) (Calls.wait g h)
unfolding Calls.wait
wait_grows g h =
    either (Grows (length g.harts)) (not (a3 g h == 0)) (unsupported g h) _ refl
    (checked (not (a0 g h % 4 == 0)) invalid_argument h g _
    (checked (not (is_readable (memory_of g) (a0 g h) 4)) bad_address h g _
    (checked (not (number_at (memory_of g) (a0 g h) 4 == a2 g h % 2 ^ 32)) try_again h g _
    (length-set g.harts h _))))

wake_grows : (g : Guest) (h : ℕ) → IsOrderly g → Grows (length g.harts) (Calls.wake g h)
unfolding Calls.wake
wake_grows g h good =
    checked (not (a0 g h % 4 == 0)) invalid_argument h g _
    (length-set (with_woken (a0 g h) (most_woken g h) g).harts h _ ∙ woken_count g (a0 g h) (most_woken g h) good)

futex_grows : (g : Guest) (h : ℕ) → IsOrderly g → Grows (length g.harts) (Calls.futex g h)
unfolding Calls.futex
futex_grows g h good =
    either (Grows (length g.harts)) (a1 g h == 0 || a1 g h == 128) (Calls.wait g h) _ (wait_grows g h)
    (either (Grows (length g.harts)) (a1 g h == 1 || a1 g h == 129) (Calls.wake g h) (unsupported g h) (wake_grows g h good) refl)

-- a hart sleeps, or reads a clock
span_grows : (o : Option Span) (g : Guest) (h v : ℕ) → Grows (length g.harts) (elim o as (λ _. Retirement Guest) [ None ↦ with_answer invalid_argument h g | Some span ↦ sleep_until g h (wake_moment v span) ])
span_grows None g h v = answer_grows invalid_argument h (length g.harts) g refl
span_grows (Some span) g h v =
    either (Grows (length g.harts)) (nat_lt last_moment (wake_moment v span)) (retirement g (Ends Clock) []) (retirement (asleep g h) (Sleeps (wake_moment v span)) []) refl
    (length-set g.harts h _)

nanosleep_grows : (g : Guest) (h v : ℕ) → Grows (length g.harts) (Calls.nanosleep g h v)
unfolding Calls.nanosleep
nanosleep_grows g h v = checked (not (is_readable (memory_of g) (a0 g h) 16)) bad_address h g _ (span_grows (span_at (memory_of g) (a0 g h)) g h v)

clock_gettime_grows : (g : Guest) (h v : ℕ) → Grows (length g.harts) (Calls.clock_gettime g h v)
unfolding Calls.clock_gettime
clock_gettime_grows g h v =
    either (Grows (length g.harts)) (not (a0 g h == 0 || a0 g h == 1)) (unsupported g h) _ refl
    (checked (not (is_writable (memory_of g) (a1 g h) 16)) bad_address h g _
    (answer_grows (pos 0) h (length g.harts) (with_stored (a1 g h) (span_bytes (clock_at v)) g) refl))

word_count : (address n : ℕ) (g : Guest) → length (with_word address n g).harts ≡ length g.harts
word_count address n g = either (λ (after : Guest). length after.harts ≡ length g.harts) (is_writable (memory_of g) address 4) (with_stored address (to_le_bytes w32 n) g) g refl refl

told_count : (b : Bool) (address n : ℕ) (g : Guest) → length (if b then with_word address n g else g).harts ≡ length g.harts
told_count true address n g = word_count address n g
told_count false address n g = refl

cloned_count : (g : Guest) (h : ℕ) → length (cloned g h).harts ≡ suc (length g.harts)
cloned_count g h =
    told_count (has_power (a0 g h) child_set_tid) (a4 g h) (thread_id (child g h)) (with_parent_tid g h (with_child g h))
    ∙ told_count (has_power (a0 g h) parent_set_tid) (a2 g h) (thread_id (child g h)) (with_child g h)
    ∙ length-append g.harts _
    ∙ (let one : length g.harts + 1 ≡ suc (length g.harts) = omega arith in one)

clone_grows : (g : Guest) (h : ℕ) → Grows (length g.harts) (Calls.clone g h)
unfolding Calls.clone
clone_grows g h =
    let most : suc (length g.harts) ≡ max (length g.harts) (suc (length g.harts)) = omega arith in
    either (Grows (length g.harts)) (not (is_accepted (a0 g h))) (unsupported g h) _ refl
    (checked (nat_le HARTS (length g.harts)) try_again h g _
    (length-set (cloned g h).harts h _ ∙ cloned_count g h ∙ most))

-- each other call
ioctl_grows : (g : Guest) (h : ℕ) → Grows (length g.harts) (Calls.ioctl g h)
unfolding Calls.ioctl
ioctl_grows g h = checked (is_file (a0 g h) g) no_terminal h g _ (answer_grows bad_file h (length g.harts) g refl)

lseek_grows : (g : Guest) (h : ℕ) → Grows (length g.harts) (Calls.lseek g h)
unfolding Calls.lseek
lseek_grows g h = checked (is_file (a0 g h) g) no_seek h g _ (answer_grows bad_file h (length g.harts) g refl)

read_input_grows : (g : Guest) (h : ℕ) → Grows (length g.harts) (Calls.read_input g h)
unfolding Calls.read_input
read_input_grows g h =
    checked (not (is_writable (memory_of g) (a1 g h) (read_length g h))) bad_address h g _
    (answer_grows (pos (read_length g h)) h (length g.harts) (with_filled (a1 g h) (read_length g h) g) refl)

-- an answer beside harts that are woken
roused_grows : (z : ℤ) (h : ℕ) (g after : Guest) (woken : List ℕ) → IsOrderly g → IsWoken (waiting_of g) woken (waiting_of after) → after.harts ≡ with_running_each woken g.harts → Grows (length g.harts) (with_answer_and z h woken after)
roused_grows z h g after woken good w harts = length-set after.harts h _ ∙ roused_count g after woken good w harts

read_now_grows : (g : Guest) (h n : ℕ) → IsOrderly g → Grows (length g.harts) (Calls.read_now g h n)
unfolding Calls.read_now
read_now_grows g h n good =
    checked (not (is_writable (memory_of g) (a1 g h) n)) bad_address h g _
    (roused_grows (pos n) h g (with_taken g h n) (woken_for Writing (a0 g h) g.pipes) good (end_woken g.waiters g.pipes.waiters (end_of (this_end (a0 g h) g.pipes).pipe Writing) good.apart) refl)

read_pipe_grows : (g : Guest) (h : ℕ) → IsOrderly g → Grows (length g.harts) (Calls.read_pipe g h)
unfolding Calls.read_pipe
read_pipe_grows g h good =
    checked (a2 g h == 0) (pos 0) h g _
    (by_readiness (Grows (length g.harts)) (readiness (a0 g h) (a2 g h) g.pipes) _ _ _ (λ n. read_now_grows g h n good) (answer_grows (pos 0) h (length g.harts) g refl) (length-set g.harts h _))

read_grows : (g : Guest) (h : ℕ) → IsOrderly g → Grows (length g.harts) (Calls.read g h)
unfolding Calls.read
read_grows g h good =
    either (Grows (length g.harts)) (is_input (a0 g h)) (Calls.read_input g h) _ (read_input_grows g h)
    (either (Grows (length g.harts)) (is_reading_end (a0 g h) g) (Calls.read_pipe g h) _ (read_pipe_grows g h good) (answer_grows bad_file h (length g.harts) g refl))

write_output_grows : (g : Guest) (h : ℕ) → Grows (length g.harts) (Calls.write_output g h)
unfolding Calls.write_output
write_output_grows g h =
    checked (not (is_readable (memory_of g) (a1 g h) (a2 g h))) bad_address h g _
    (answer_grows (pos (a2 g h)) h (length g.harts) (with_written (bytes_at (memory_of g) (a1 g h) (a2 g h)) g) refl)

write_now_grows : (g : Guest) (h n : ℕ) → IsOrderly g → Grows (length g.harts) (Calls.write_now g h n)
unfolding Calls.write_now
write_now_grows g h n good =
    roused_grows (pos n) h g (with_put g h n) (woken_for Reading (a0 g h) g.pipes) good (end_woken g.waiters g.pipes.waiters (end_of (this_end (a0 g h) g.pipes).pipe Reading) good.apart) refl

write_pipe_grows : (g : Guest) (h : ℕ) → IsOrderly g → Grows (length g.harts) (Calls.write_pipe g h)
unfolding Calls.write_pipe
write_pipe_grows g h good =
    checked (a2 g h == 0) (pos 0) h g _
    (by_readiness (Grows (length g.harts)) (readiness (a0 g h) (a2 g h) g.pipes) _ _ _
    (λ n. checked (not (is_readable (memory_of g) (a1 g h) (a2 g h))) bad_address h g _ (write_now_grows g h n good))
    (answer_grows broken_pipe h (length g.harts) g refl)
    (checked (not (is_readable (memory_of g) (a1 g h) (a2 g h))) bad_address h g _ (length-set g.harts h _)))

write_grows : (g : Guest) (h : ℕ) → IsOrderly g → Grows (length g.harts) (Calls.write g h)
unfolding Calls.write
write_grows g h good =
    either (Grows (length g.harts)) (is_output (a0 g h)) (Calls.write_output g h) _ (write_output_grows g h)
    (either (Grows (length g.harts)) (is_writing_end (a0 g h) g) (Calls.write_pipe g h) _ (write_pipe_grows g h good) (answer_grows bad_file h (length g.harts) g refl))

close_grows : (g : Guest) (h : ℕ) → IsOrderly g → Grows (length g.harts) (Calls.close g h)
unfolding Calls.close
close_grows g h good =
    either (Grows (length g.harts)) (is_stream (a0 g h)) (unsupported g h) _ refl
    (checked (not (is_end (a0 g h) g)) bad_file h g _
    (roused_grows (pos 0) h g (with_pipes (closed (a0 g h) g.pipes) (woken_at_close g h) g) (woken_at_close g h) good (close_woken g.waiters g.pipes.waiters (this_end (a0 g h) g.pipes).pipe good.apart) refl))

pipe2_grows : (g : Guest) (h : ℕ) → Grows (length g.harts) (Calls.pipe2 g h)
unfolding Calls.pipe2
pipe2_grows g h =
    either (Grows (length g.harts)) (not (a1 g h == 0 || a1 g h == 0x80000)) (unsupported g h) _ refl
    (checked (not (is_writable (memory_of g) (a0 g h) 8)) bad_address h g _
    (checked (not (can_make g.pipes)) too_many_files h g _
    (answer_grows (pos 0) h (length g.harts) (with_stored (a0 g h) (number_bytes (made_numbers g.pipes)) (record g { pipes = made g.pipes })) refl)))

read_count : (ps : List Piece) (g : Guest) → length (with_read ps g).harts ≡ length g.harts
read_count [] g = refl
read_count (p ∷ ps) g = read_count ps (with_filled p.address p.length g)

read_pieces_grows : (g : Guest) (h : ℕ) (ps : List Piece) → Grows (length g.harts) (Calls.read_pieces g h ps)
unfolding Calls.read_pieces
read_pieces_grows g h ps =
    checked (not (is_each_writable (memory_of g) (filled_parts ps (length g.input)))) bad_address h g _
    (answer_grows (pos (total (filled_parts ps (length g.input)))) h (length g.harts) (with_read (filled_parts ps (length g.input)) g) (read_count (filled_parts ps (length g.input)) g))

readv_grows : (g : Guest) (h : ℕ) → Grows (length g.harts) (Calls.readv g h)
unfolding Calls.readv
readv_grows g h =
    either (Grows (length g.harts)) (is_end (a0 g h) g) (unsupported g h) _ refl
    (checked (not (is_input (a0 g h))) bad_file h g _
    (checked (not (are_few g h)) invalid_argument h g _
    (checked (not (is_named g h)) bad_address h g _
    (read_pieces_grows g h (pieces_at (memory_of g) (a1 g h) (a2 g h))))))

write_pieces_grows : (g : Guest) (h : ℕ) (ps : List Piece) → Grows (length g.harts) (Calls.write_pieces g h ps)
unfolding Calls.write_pieces
write_pieces_grows g h ps =
    checked (not (is_each_readable (memory_of g) ps)) bad_address h g _
    (answer_grows (pos (total ps)) h (length g.harts) (with_written (bytes_of (memory_of g) ps) g) refl)

writev_grows : (g : Guest) (h : ℕ) → Grows (length g.harts) (Calls.writev g h)
unfolding Calls.writev
writev_grows g h =
    either (Grows (length g.harts)) (is_end (a0 g h) g) (unsupported g h) _ refl
    (checked (not (is_output (a0 g h))) bad_file h g _
    (checked (not (are_few g h)) invalid_argument h g _
    (checked (not (is_named g h)) bad_address h g _
    (write_pieces_grows g h (pieces_at (memory_of g) (a1 g h) (a2 g h))))))

exit_group_grows : (g : Guest) (h : ℕ) → Grows (length g.harts) (Calls.exit_group g h)
unfolding Calls.exit_group
exit_group_grows g h = refl

set_tid_address_grows : (g : Guest) (h : ℕ) → Grows (length g.harts) (Calls.set_tid_address g h)
unfolding Calls.set_tid_address
set_tid_address_grows g h =
    let told : Hart = record (hart_at g h) { clear = a0 g h } in
    answer_grows (pos (thread_id h)) h (length g.harts) (with_hart h told g) (length-set g.harts h told)

sched_yield_grows : (g : Guest) (h : ℕ) → Grows (length g.harts) (Calls.sched_yield g h)
unfolding Calls.sched_yield
sched_yield_grows g h = answer_grows (pos 0) h (length g.harts) g refl

getpid_grows : (g : Guest) (h : ℕ) → Grows (length g.harts) (Calls.getpid g h)
unfolding Calls.getpid
getpid_grows g h = answer_grows (pos 1) h (length g.harts) g refl

gettid_grows : (g : Guest) (h : ℕ) → Grows (length g.harts) (Calls.gettid g h)
unfolding Calls.gettid
gettid_grows g h = answer_grows (pos (thread_id h)) h (length g.harts) g refl

rt_sigprocmask_grows : (g : Guest) (h : ℕ) → Grows (length g.harts) (Calls.rt_sigprocmask g h)
unfolding Calls.rt_sigprocmask
rt_sigprocmask_grows g h =
    checked (not (a3 g h == 8)) invalid_argument h g _
    (checked (a2 g h == 0) (pos 0) h g _
    (checked (not (is_writable (memory_of g) (a2 g h) 8)) bad_address h g _
    (answer_grows (pos 0) h (length g.harts) (with_stored (a2 g h) (replicate 8 0) g) refl)))

brk_grows : (g : Guest) (h : ℕ) → Grows (length g.harts) (Calls.brk g h)
unfolding Calls.brk
brk_grows g h = let space : Space = with_break (a0 g h) g.space in answer_grows (pos space.regions.break) h (length g.harts) (record g { space = space }) refl

munmap_grows : (g : Guest) (h : ℕ) → Grows (length g.harts) (Calls.munmap g h)
unfolding Calls.munmap
munmap_grows g h = of_space_grows g h (unmap (a0 g h) (a1 g h) g.space)

mremap_grows : (g : Guest) (h : ℕ) → Grows (length g.harts) (Calls.mremap g h)
unfolding Calls.mremap
mremap_grows g h = answer_grows no_memory h (length g.harts) g refl

mmap_grows : (g : Guest) (h : ℕ) → Grows (length g.harts) (Calls.mmap g h)
unfolding Calls.mmap
mmap_grows g h =
    either (Grows (length g.harts)) (is_mapping (a3 g h)) (of_space g h (map (a1 g h) (a2 g h) g.space)) (unsupported g h)
    (of_space_grows g h (map (a1 g h) (a2 g h) g.space)) refl

mprotect_grows : (g : Guest) (h : ℕ) → Grows (length g.harts) (Calls.mprotect g h)
unfolding Calls.mprotect
mprotect_grows g h = of_space_grows g h (protect (a0 g h) (a1 g h) (a2 g h) g.space)

madvise_grows : (g : Guest) (h : ℕ) → Grows (length g.harts) (Calls.madvise g h)
unfolding Calls.madvise
madvise_grows g h = answer_grows invalid_argument h (length g.harts) g refl

-- a call by its number
abbrev IsGrown : Guest → ℕ → ℕ → Retirement Guest → Type 0
IsGrown g h v r = IsOrderly g → Grows (length g.harts) r

all_rows : AreRows IsGrown calls
all_rows =
    ((λ g h v good. ioctl_grows g h), ((λ g h v good. close_grows g h good), ((λ g h v good. pipe2_grows g h), ((λ g h v good. lseek_grows g h), ((λ g h v good. read_grows g h good), ((λ g h v good. write_grows g h good), ((λ g h v good. readv_grows g h), ((λ g h v good. writev_grows g h), ((λ g h v good. exit_grows g h good), ((λ g h v good. exit_group_grows g h), ((λ g h v good. set_tid_address_grows g h), ((λ g h v good. futex_grows g h good), ((λ g h v good. nanosleep_grows g h v), ((λ g h v good. clock_gettime_grows g h v), ((λ g h v good. sched_yield_grows g h), ((λ g h v good. rt_sigprocmask_grows g h), ((λ g h v good. getpid_grows g h), ((λ g h v good. gettid_grows g h), ((λ g h v good. brk_grows g h), ((λ g h v good. munmap_grows g h), ((λ g h v good. mremap_grows g h), ((λ g h v good. clone_grows g h), ((λ g h v good. mmap_grows g h), ((λ g h v good. mprotect_grows g h), ((λ g h v good. madvise_grows g h), tt)))))))))))))))))))))))))

call_grows : (g : Guest) (h v : ℕ) → IsOrderly g → Grows (length g.harts) (call_of g h v)
call_grows g h v = call_has IsGrown all_rows g h v (λ good. refl)

-- a step
follows_grows : (g after : Guest) (h v : ℕ) (s : Step) → length after.harts ≡ length g.harts → (s ≡ Call → after ≡ g) → IsOrderly g → Grows (length g.harts) (retirement_after h v (step_result after s))
follows_grows g after h v Next same is good = same
follows_grows g after h v Call same is good = subst (λ (x : Guest). Grows (length g.harts) (call_of x h v)) (sym (is refl)) (call_grows g h v good)
follows_grows g after h v (Fault cause) same is good = same

pub retire_grows : (g : Guest) (h v : ℕ) → IsOrderly g → Grows (length g.harts) (retire g h v)
unfolding retire
retire_grows g h v good = follows_grows g (step g h).guest h v (step g h).step (step-harts g h) (λ is. (step-call g h is).same) good

pub first_count : (image : ImageParts) (input : List ℕ) (output_limit : ℕ) (layout : Layout) → length (first_guest image input output_limit layout).harts ≡ 1
unfolding first_guest
first_count image input output_limit layout = refl
