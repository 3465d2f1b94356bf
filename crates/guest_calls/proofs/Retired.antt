-- The retirement of a hart of an orderly guest, by what it does.
use Rattle.std.proofs.Common.{◌≡◌, ℕ, ◌==◌, true, not, List, [], ◌∷◌, length, take, drop, pos, refl, sym, ap, subst, replicate}
use Rattle.coz_types.specs.declared.ending.Ending.{Ending}
use Rattle.coz_types.specs.declared.ending.Ending.TheVariants.{Exited, Trapped}
use Rattle.coz_types.specs.declared.ending.Trap.{Trap}
use Rattle.coz_types.specs.declared.ending.TrapCause.{TrapCause}
use Rattle.machines.specs.Guest.{Retirement}
use Rattle.guest_memory.specs.Memory.{is_readable, is_writable, bytes_at}
use Rattle.guest_areas.specs.Answers.{bad_file, no_memory, bad_address, invalid_argument, no_terminal, no_seek}
use Rattle.guest_areas.specs.Space.{Space, with_break, map, unmap, protect}
use Rattle.guest_areas.proofs.Shares.{with_break-steady, map-steady, unmap-steady, protect-steady}
use Rattle.rv_execute.specs.declared.hart.Step.{Step}
use Rattle.rv_execute.specs.declared.hart.Step.TheVariants.{Next, Call, Fault}
use Rattle.rv_execute.specs.Execution.{Setting, execute}
use Rattle.guest_calls.specs.declared.pieces.Piece.{Piece}
use Rattle.guest_calls.specs.Guest.{Guest, making, hart_at, pc_of, with_hart, with_state, with_setting, with_stored, with_written, is_running, memory_of, setting_of, thread_id}
use Rattle.guest_calls.specs.Calls
use Rattle.guest_calls.specs.Calls.{of_space, unsupported, a0, a1, a2, a3, with_filled, with_read, filled_parts, total, is_each_writable, is_each_readable, bytes_of, pieces_at, are_few, is_named, read_length, is_file, is_end, is_input, is_output, is_reading_end, is_writing_end, is_mapping, at_any_time, calls, call_of}
use Rattle.guest_calls.specs.Retire.{step_result, step, retirement_after, retire}
use Rattle.guest_calls.specs.Orderly.{IsOrderly}
use Rattle.hart_steps.proofs.Steady.{regions-kept}
use Rattle.guest_calls.proofs.Steps.{step-call, step-guest}
use Rattle.guest_calls.proofs.ByNumber.{IsRow, AreRows, call_has}
use Rattle.guest_calls.proofs.Started.{IsStarted, IsStartedAt, at_any_net, IsAsBefore, either, memory_made, stored_made, space_made, same_harts, later, hart_kept, unchanged, none_beside, goes_started, ends_started, kept_started, answer_started, checked, of_space_started, unsupported_started}
use Rattle.guest_calls.proofs.ThreadRows.{exit_started, futex_started, clone_started}
use Rattle.guest_calls.proofs.PipeRows.{read_pipe_started, write_pipe_started, close_started, pipe2_started}
use Rattle.guest_calls.proofs.TimeRows.{nanosleep_started, clock_gettime_started}

-- each call
ioctl_started : (g : Guest) (h : ℕ) → IsOrderly g → is_running g h ≡ true → IsStarted g h (Calls.ioctl g h)
unfolding Calls.ioctl
ioctl_started g h good runs = checked (is_file (a0 g h) g) no_terminal h g _ good runs (answer_started bad_file h g g refl refl refl good runs)

lseek_started : (g : Guest) (h : ℕ) → IsOrderly g → is_running g h ≡ true → IsStarted g h (Calls.lseek g h)
unfolding Calls.lseek
lseek_started g h good runs = checked (is_file (a0 g h) g) no_seek h g _ good runs (answer_started bad_file h g g refl refl refl good runs)

filled_made : (address count : ℕ) (g : Guest) → making (with_filled address count g) ≡ making g
filled_made address count g = stored_made address (take count g.input) (record g { input = drop count g.input })

read_input_started : (g : Guest) (h : ℕ) → IsOrderly g → is_running g h ≡ true → IsStarted g h (Calls.read_input g h)
unfolding Calls.read_input
read_input_started g h good runs =
    checked (not (is_writable (memory_of g) (a1 g h) (read_length g h))) bad_address h g _ good runs
    (answer_started (pos (read_length g h)) h g (with_filled (a1 g h) (read_length g h) g) refl refl (filled_made (a1 g h) (read_length g h) g) good runs)

read_started : (g : Guest) (h : ℕ) → IsOrderly g → is_running g h ≡ true → IsStarted g h (Calls.read g h)
unfolding Calls.read
read_started g h good runs =
    either (IsStarted g h) (is_input (a0 g h)) (Calls.read_input g h) _ (read_input_started g h good runs)
    (either (IsStarted g h) (is_reading_end (a0 g h) g) (Calls.read_pipe g h) _ (read_pipe_started g h good runs) (answer_started bad_file h g g refl refl refl good runs))

write_output_started : (g : Guest) (h : ℕ) → IsOrderly g → is_running g h ≡ true → IsStarted g h (Calls.write_output g h)
unfolding Calls.write_output
write_output_started g h good runs =
    checked (not (is_readable (memory_of g) (a1 g h) (a2 g h))) bad_address h g _ good runs
    (answer_started (pos (a2 g h)) h g (with_written (bytes_at (memory_of g) (a1 g h) (a2 g h)) g) refl refl refl good runs)

write_started : (g : Guest) (h : ℕ) → IsOrderly g → is_running g h ≡ true → IsStarted g h (Calls.write g h)
unfolding Calls.write
write_started g h good runs =
    either (IsStarted g h) (is_output (a0 g h)) (Calls.write_output g h) _ (write_output_started g h good runs)
    (either (IsStarted g h) (is_writing_end (a0 g h) g) (Calls.write_pipe g h) _ (write_pipe_started g h good runs) (answer_started bad_file h g g refl refl refl good runs))

read_kept : (ps : List Piece) (g : Guest) → IsAsBefore g (with_read ps g)
read_kept [] g = unchanged g
read_kept (p ∷ ps) g =
    let next : Guest = with_filled p.address p.length g in
    later g next (with_read (p ∷ ps) g) (same_harts g next refl refl (filled_made p.address p.length g)) (read_kept ps next)

read_pieces_started : (g : Guest) (h : ℕ) (ps : List Piece) → IsOrderly g → is_running g h ≡ true → IsStarted g h (Calls.read_pieces g h ps)
unfolding Calls.read_pieces
read_pieces_started g h ps good runs =
    checked (not (is_each_writable (memory_of g) (filled_parts ps (length g.input)))) bad_address h g _ good runs
    (kept_started (pos (total (filled_parts ps (length g.input)))) h g (with_read (filled_parts ps (length g.input)) g) (read_kept (filled_parts ps (length g.input)) g) good runs)

readv_started : (g : Guest) (h : ℕ) → IsOrderly g → is_running g h ≡ true → IsStarted g h (Calls.readv g h)
unfolding Calls.readv
readv_started g h good runs =
    either (IsStarted g h) (is_end (a0 g h) g) (unsupported g h) _ (unsupported_started g h good)
    (checked (not (is_input (a0 g h))) bad_file h g _ good runs
    (checked (not (are_few g h)) invalid_argument h g _ good runs
    (checked (not (is_named g h)) bad_address h g _ good runs
    (read_pieces_started g h (pieces_at (memory_of g) (a1 g h) (a2 g h)) good runs))))

write_pieces_started : (g : Guest) (h : ℕ) (ps : List Piece) → IsOrderly g → is_running g h ≡ true → IsStarted g h (Calls.write_pieces g h ps)
unfolding Calls.write_pieces
write_pieces_started g h ps good runs =
    checked (not (is_each_readable (memory_of g) ps)) bad_address h g _ good runs
    (answer_started (pos (total ps)) h g (with_written (bytes_of (memory_of g) ps) g) refl refl refl good runs)

writev_started : (g : Guest) (h : ℕ) → IsOrderly g → is_running g h ≡ true → IsStarted g h (Calls.writev g h)
unfolding Calls.writev
writev_started g h good runs =
    either (IsStarted g h) (is_end (a0 g h) g) (unsupported g h) _ (unsupported_started g h good)
    (checked (not (is_output (a0 g h))) bad_file h g _ good runs
    (checked (not (are_few g h)) invalid_argument h g _ good runs
    (checked (not (is_named g h)) bad_address h g _ good runs
    (write_pieces_started g h (pieces_at (memory_of g) (a1 g h) (a2 g h)) good runs))))

exit_group_started : (g : Guest) (h : ℕ) → IsOrderly g → is_running g h ≡ true → IsStarted g h (Calls.exit_group g h)
unfolding Calls.exit_group
exit_group_started g h good runs = ends_started g h g _ (λ t is. absurd (let no : ◌≡◌ {A = Ending} (Exited _) (Trapped t) = is in cc)) (unchanged g) good

set_tid_address_started : (g : Guest) (h : ℕ) → IsOrderly g → is_running g h ≡ true → IsStarted g h (Calls.set_tid_address g h)
unfolding Calls.set_tid_address
set_tid_address_started g h good runs = kept_started (pos (thread_id h)) h g (with_hart h (record (hart_at g h) { clear = a0 g h }) g) (hart_kept g h _ refl) good runs

sched_yield_started : (g : Guest) (h : ℕ) → IsOrderly g → is_running g h ≡ true → IsStarted g h (Calls.sched_yield g h)
unfolding Calls.sched_yield
sched_yield_started g h good runs = answer_started (pos 0) h g g refl refl refl good runs

getpid_started : (g : Guest) (h : ℕ) → IsOrderly g → is_running g h ≡ true → IsStarted g h (Calls.getpid g h)
unfolding Calls.getpid
getpid_started g h good runs = answer_started (pos 1) h g g refl refl refl good runs

gettid_started : (g : Guest) (h : ℕ) → IsOrderly g → is_running g h ≡ true → IsStarted g h (Calls.gettid g h)
unfolding Calls.gettid
gettid_started g h good runs = answer_started (pos (thread_id h)) h g g refl refl refl good runs

rt_sigprocmask_started : (g : Guest) (h : ℕ) → IsOrderly g → is_running g h ≡ true → IsStarted g h (Calls.rt_sigprocmask g h)
unfolding Calls.rt_sigprocmask
rt_sigprocmask_started g h good runs =
    checked (not (a3 g h == 8)) invalid_argument h g _ good runs
    (checked (a2 g h == 0) (pos 0) h g _ good runs
    (checked (not (is_writable (memory_of g) (a2 g h) 8)) bad_address h g _ good runs
    (answer_started (pos 0) h g (with_stored (a2 g h) (replicate 8 0) g) refl refl (stored_made (a2 g h) (replicate 8 0) g) good runs)))

brk_started : (g : Guest) (h : ℕ) → IsOrderly g → is_running g h ≡ true → IsStarted g h (Calls.brk g h)
unfolding Calls.brk
brk_started g h good runs =
    let space : Space = with_break (a0 g h) g.space in answer_started (pos space.regions.break) h g (record g { space = space }) refl refl (space_made g space (with_break-steady (a0 g h) g.space)) good runs

munmap_started : (g : Guest) (h : ℕ) → IsOrderly g → is_running g h ≡ true → IsStarted g h (Calls.munmap g h)
unfolding Calls.munmap
munmap_started g h good runs = of_space_started g h (unmap (a0 g h) (a1 g h) g.space) (unmap-steady (a0 g h) (a1 g h) g.space) good runs

mremap_started : (g : Guest) (h : ℕ) → IsOrderly g → is_running g h ≡ true → IsStarted g h (Calls.mremap g h)
unfolding Calls.mremap
mremap_started g h good runs = answer_started no_memory h g g refl refl refl good runs

mmap_started : (g : Guest) (h : ℕ) → IsOrderly g → is_running g h ≡ true → IsStarted g h (Calls.mmap g h)
unfolding Calls.mmap
mmap_started g h good runs =
    either (IsStarted g h) (is_mapping (a3 g h)) (of_space g h (map (a1 g h) (a2 g h) g.space)) (unsupported g h)
    (of_space_started g h (map (a1 g h) (a2 g h) g.space) (map-steady (a1 g h) (a2 g h) g.space) good runs) (unsupported_started g h good)

mprotect_started : (g : Guest) (h : ℕ) → IsOrderly g → is_running g h ≡ true → IsStarted g h (Calls.mprotect g h)
unfolding Calls.mprotect
mprotect_started g h good runs = of_space_started g h (protect (a0 g h) (a1 g h) (a2 g h) g.space) (protect-steady (a0 g h) (a1 g h) (a2 g h) g.space) good runs

madvise_started : (g : Guest) (h : ℕ) → IsOrderly g → is_running g h ≡ true → IsStarted g h (Calls.madvise g h)
unfolding Calls.madvise
madvise_started g h good runs = answer_started invalid_argument h g g refl refl refl good runs

-- a call by its number
abbrev IsStartedBy : Guest → ℕ → ℕ → Retirement Guest → Type 0
IsStartedBy g h v r = IsOrderly g → is_running g h ≡ true → IsStartedAt v g h r

any_time : (call : Guest → ℕ → Retirement Guest) → ((g : Guest) (h : ℕ) → IsOrderly g → is_running g h ≡ true → IsStarted g h (call g h)) → IsRow IsStartedBy (at_any_time call)
any_time call row g h v good runs = at_any_net g h v (call g h) (row g h good runs)

all_rows : AreRows IsStartedBy calls
all_rows =
    (any_time Calls.ioctl (λ g h good runs. ioctl_started g h good runs), (any_time Calls.close (λ g h good runs. close_started g h good runs), (any_time Calls.pipe2 (λ g h good runs. pipe2_started g h good runs), (any_time Calls.lseek (λ g h good runs. lseek_started g h good runs), (any_time Calls.read (λ g h good runs. read_started g h good runs), (any_time Calls.write (λ g h good runs. write_started g h good runs), (any_time Calls.readv (λ g h good runs. readv_started g h good runs), (any_time Calls.writev (λ g h good runs. writev_started g h good runs), (any_time Calls.exit (λ g h good runs. exit_started g h good runs), (any_time Calls.exit_group (λ g h good runs. exit_group_started g h good runs), (any_time Calls.set_tid_address (λ g h good runs. set_tid_address_started g h good runs), (any_time Calls.futex (λ g h good runs. futex_started g h good runs), ((λ g h v good runs. nanosleep_started g h v good runs), ((λ g h v good runs. clock_gettime_started g h v good runs), (any_time Calls.sched_yield (λ g h good runs. sched_yield_started g h good runs), (any_time Calls.rt_sigprocmask (λ g h good runs. rt_sigprocmask_started g h good runs), (any_time Calls.getpid (λ g h good runs. getpid_started g h good runs), (any_time Calls.gettid (λ g h good runs. gettid_started g h good runs), (any_time Calls.brk (λ g h good runs. brk_started g h good runs), (any_time Calls.munmap (λ g h good runs. munmap_started g h good runs), (any_time Calls.mremap (λ g h good runs. mremap_started g h good runs), (any_time Calls.clone (λ g h good runs. clone_started g h good runs), (any_time Calls.mmap (λ g h good runs. mmap_started g h good runs), (any_time Calls.mprotect (λ g h good runs. mprotect_started g h good runs), (any_time Calls.madvise (λ g h good runs. madvise_started g h good runs), tt)))))))))))))))))))))))))

pub call_started : (g : Guest) (h v : ℕ) → IsOrderly g → is_running g h ≡ true → IsStartedAt v g h (call_of g h v)
call_started g h v = call_has IsStartedBy all_rows g h v (λ good runs. at_any_net g h v (unsupported g h) (unsupported_started g h good))

-- a step
executed_kept : (g : Guest) (h : ℕ) (s : Setting) → (s.memory.image ≡ (memory_of g).image) × (s.memory.layout ≡ (memory_of g).layout) → IsAsBefore g (with_setting h s g)
executed_kept g h s same =
    let between : Guest = with_state h s.hart g in
    later g between (with_setting h s g) (hart_kept g h _ refl) (same_harts between (with_setting h s g) refl refl (memory_made between s.memory same))

step_kept : (g : Guest) (h : ℕ) → IsAsBefore g (step g h).guest
step_kept g h = step-guest (IsAsBefore g) g h (unchanged g) (λ i. executed_kept g h (execute h i (setting_of g h)).setting (regions-kept h i (setting_of g h)))

own_trap : (cause : TrapCause) (h pc : ℕ) (t : Trap) → ◌≡◌ {A = Ending} (Trapped (record { cause = cause; hart = record { 0 = h }; pc = pc })) (Trapped t) → t.hart.0 ≡ h
own_trap cause h pc t is = let same : ◌≡◌ {A = Trap} (record { cause = cause; hart = record { 0 = h }; pc = pc }) t = cc in ap (λ (u : Trap). u.hart.0) (sym same)

-- what follows a step, which leaves the guest as it is at a call
follows_started : (g after : Guest) (h v : ℕ) (s : Step) → IsAsBefore g after → (s ≡ Call → after ≡ g) → IsOrderly g → is_running g h ≡ true → IsStartedAt v g h (retirement_after h v (step_result after s))
follows_started g after h v Next kept same good runs = at_any_net g h v _ (goes_started g h [] after (none_beside g h after kept good) runs)
follows_started g after h v Call kept same good runs = subst (λ (x : Guest). IsStartedAt v g h (call_of x h v)) (sym (same refl)) (call_started g h v good runs)
follows_started g after h v (Fault cause) kept same good runs = at_any_net g h v _ (ends_started g h after _ (λ t is. own_trap cause h (pc_of after h) t is) kept good)

pub retire_started : (g : Guest) (h v : ℕ) → IsOrderly g → is_running g h ≡ true → IsStartedAt v g h (retire g h v)
unfolding retire
retire_started g h v good runs = follows_started g (step g h).guest h v (step g h).step (step_kept g h) (λ is. (step-call g h is).same) good runs
