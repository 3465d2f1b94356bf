-- A hart retires in the same way if its guest has another image and other load areas of the same pages.
use Rattle.std.proofs.Common.{◌≡◌, ℕ, zero, suc, ◌+◌, ◌*◌, ◌%◌, ◌^◌, ◌==◌, Bool, true, false, not, ◌&&◌, List, [], ◌∷◌, ◌++◌, length, take, drop, replicate, Option, Some, None, if◌then◌else◌, refl, ap, ap₂, ◌∙◌}
use Rattle.std.proofs.Math.Path.{fun_ext}
use Rattle.std.specs.Prelude.{ℤ, pos, IfSome, option_and_then}
use Rattle.std.specs.Int.{w32, to_le_bytes}
use Rattle.std.specs.List.{AllByRecursion, list_all, list_any}
use Rattle.coz_types.specs.Image.{ImageParts}
use Rattle.coz_types.specs.Maps.{Map, value_at}
use Rattle.coz_types.specs.declared.image.Area.{Area}
use Rattle.coz_types.specs.declared.image.Rights.{Rights}
use Rattle.coz_types.specs.declared.ending.Ending.TheVariants.{Clock}
use Rattle.coz_types.specs.declared.ending.TrapCause.TheVariants.{Fetch, Illegal}
use Rattle.machines.specs.declared.Fate.TheVariants.{Ends, Waits, Sleeps}
use Rattle.machines.specs.Guest.{Retirement}
use Rattle.rv_decode.specs.declared.Instr.{Instr}
use Rattle.rv_decode.specs.Fields.{signed_bits}
use Rattle.rv_decode.specs.Instructions.{instruction_of}
use Rattle.rv_execute.specs.declared.hart.Step.{Step}
use Rattle.rv_execute.specs.declared.hart.Step.TheVariants.{Next, Call, Fault}
use Rattle.rv_execute.specs.Execution.{execute}
use Rattle.rv_execute.specs.Reservations.{without_touched}
use Rattle.guest_memory.specs.Memory.{MemoryMap, bytes_at, is_allowed, is_readable, is_writable}
use Rattle.guest_areas.specs.Answers.{bad_file, try_again, no_memory, bad_address, invalid_argument, too_many_files, no_terminal, no_seek, broken_pipe}
use Rattle.guest_areas.specs.Space.{Answered, Space, has_power, is_in_area, map, protect, unmap}
use Rattle.guest_pipes.specs.declared.Ready.{Ready}
use Rattle.guest_pipes.specs.declared.Ready.TheVariants as ready
use Rattle.guest_pipes.specs.Pipes.{held, made, made_numbers, readiness}
use Rattle.guest_calls.specs.declared.pieces.Piece.{Piece}
use Rattle.guest_calls.specs.declared.times.Span.{Span}
use Rattle.guest_calls.specs.Times.{clock_at, span_at, span_bytes, span_of, wake_moment}
use Rattle.guest_calls.specs.Guest.{Guest, memory_of, pc_of, setting_of, thread_id, with_memory, with_stored, with_written}
use Rattle.guest_calls.specs.Calls.{retirement, piece_at, pieces_at, filled_parts, is_each_readable, is_each_writable, bytes_of, with_filled, with_read, with_word, with_woken, with_pipes, number, number_bytes, argument, with_answer, with_answer_and, leave, a0, a1, a2, a3, a4, answer, unsupported, of_space, ioctl, lseek, read_length, read_input, waiting_for_pipe, with_taken, read_now, read_pipe, read, write_output, with_put, write_now, write_pipe, write, woken_at_close, close, pipe2, read_pieces, readv, write_pieces, writev, exit_group, clear_address, woken_at_exit, cleared, exit, set_tid_address, waiting_for, wait, woken_here, most_woken, wake, futex, asleep, sleep_until, nanosleep, clock_gettime, child, with_child, with_parent_tid, with_child_tid, cloned, clone, sched_yield, getpid, gettid, rt_sigprocmask, brk, munmap, mremap, mmap, mprotect, madvise, at_any_time, calls, call_of}
use Rattle.guest_calls.specs.Calls as specs
use Rattle.guest_pipes.specs.declared.ends.PipeEnd.TheVariants.{Reading, Writing}
use Rattle.guest_pipes.specs.Pipes.{closed, put, taken, woken_for}
use Rattle.guest_calls.specs.Retire.{Stepped, next_of, retire, retirement_after, step, step_result, stepped_by, word_at}
use Rattle.timing_laws.specs.Following.{retirement_through}
use Rattle.function_runs.proofs.Memory.{moved, moved_bytes, same_allowed, same_bytes, same_fetch, same_number}
use Rattle.function_runs.proofs.Executed.{executes}
use Rattle.function_runs.proofs.Spaces.{moved_space, breaks, maps, unmaps, protects}

module _ (image : ImageParts) (others : List Area → List Area) (pages : (areas : List Area) (page : ℕ) → list_any (is_in_area page) (others areas) ≡ list_any (is_in_area page) areas) where
  -- the guest with the image and the areas
  abbrev pub moved_guest : Guest → Guest
  moved_guest g = record g { space = moved_space image others pages g.space }

  abbrev pub moved_retirement : Retirement Guest → Retirement Guest
  moved_retirement r = retirement_through moved_guest r

  record IsMoved (given r : Retirement Guest) : Type 0 where
    is : given ≡ moved_retirement r

  -- ---- what a call reads and writes

  allowed : (right : Rights → Bool) (g : Guest) (a n : ℕ) → is_allowed right (moved image (memory_of g)) a n ≡ is_allowed right (memory_of g) a n
  allowed right g a n = same_allowed image right (memory_of g) a n

  stored : (a : ℕ) (bs : List ℕ) (g : Guest) → with_stored a bs (moved_guest g) ≡ moved_guest (with_stored a bs g)
  stored a bs g =
      ap (λ (m : MemoryMap). record (with_memory m (moved_guest g)) { reservations = without_touched a (length bs) g.reservations }) (moved_bytes image a bs (memory_of g))

  word : (a n : ℕ) (g : Guest) → with_word a n (moved_guest g) ≡ moved_guest (with_word a n g)
  word a n g =
      ap₂ (λ (t : Bool) (x : Guest). if t then x else moved_guest g) (allowed (λ r. r.write) g a 4) (stored a (to_le_bytes w32 n) g)
      ∙ by (is_writable (memory_of g) a 4)
    where
      by : (t : Bool) → (if t then moved_guest (with_stored a (to_le_bytes w32 n) g) else moved_guest g) ≡ moved_guest (if t then with_stored a (to_le_bytes w32 n) g else g)
      by true = refl
      by false = refl

  filled : (a n : ℕ) (g : Guest) → with_filled a n (moved_guest g) ≡ moved_guest (with_filled a n g)
  filled a n g = stored a (take n g.input) (record g { input = drop n g.input })

  reads : (ps : List Piece) (g : Guest) → with_read ps (moved_guest g) ≡ moved_guest (with_read ps g)
  reads [] g = refl
  reads (p ∷ ps) g = ap (with_read ps) (filled p.address p.length g) ∙ reads ps (with_filled p.address p.length g)

  same_piece : (m : MemoryMap) (a : ℕ) → piece_at (moved image m) a ≡ piece_at m a
  same_piece m a = ap₂ (λ (address length : ℕ). let p : Piece = record { address = address; length = length } in p) (same_number image m a 8) (same_number image m (a + 8) 8)

  same_pieces : (m : MemoryMap) (a n : ℕ) → pieces_at (moved image m) a n ≡ pieces_at m a n
  same_pieces m a zero = refl
  same_pieces m a (suc n) = ap₂ (λ (p : Piece) (ps : List Piece). p ∷ ps) (same_piece m a) (same_pieces m (a + 16) n)

  same_each : (right : Rights → Bool) (m : MemoryMap) (ps : List Piece) → list_all (λ (p : Piece). is_allowed right (moved image m) p.address p.length) ps ≡ list_all (λ (p : Piece). is_allowed right m p.address p.length) ps
  same_each right m ps = ap (λ (test : Piece → Bool). list_all test ps) (fun_ext (λ (p : Piece). same_allowed image right m p.address p.length))

  same_bytes_of : (m : MemoryMap) (ps : List Piece) → bytes_of (moved image m) ps ≡ bytes_of m ps
  same_bytes_of m [] = refl
  same_bytes_of m (p ∷ ps) = ap₂ (λ (xs ys : List ℕ). xs ++ ys) (same_bytes image m p.address p.length) (same_bytes_of m ps)

  same_span : (m : MemoryMap) (a : ℕ) → span_at (moved image m) a ≡ span_at m a
  same_span m a = ap₂ (λ (x y : ℕ). span_of (signed_bits 64 x) (signed_bits 64 y)) (same_number image m a 8) (same_number image m (a + 8) 8)

  -- ---- answers

  choose : {s t : Bool} {given other r q : Retirement Guest} → s ≡ t → IsMoved given r → IsMoved other q → IsMoved (if s then given else other) (if t then r else q)
  choose {s = s} {t = true} {given = given} {other = other} e p q = record { is = ap (λ (b : Bool). if b then given else other) e ∙ p.is }
  choose {s = s} {t = false} {given = given} {other = other} e p q = record { is = ap (λ (b : Bool). if b then given else other) e ∙ q.is }

  by_refl : (given r : Retirement Guest) → given ≡ moved_retirement r → IsMoved given r
  by_refl given r e = record { is = e }

  along : (f : Guest → Retirement Guest) (given g : Guest) → given ≡ moved_guest g → IsMoved (f (moved_guest g)) (f g) → IsMoved (f given) (f g)
  along f given g e is = record { is = ap f e ∙ is.is }

  answers : (z : ℤ) (h : ℕ) (given g : Guest) → given ≡ moved_guest g → IsMoved (with_answer z h given) (with_answer z h g)
  answers z h given g e = along (with_answer z h) given g e (record { is = refl })

  answers_and : (z : ℤ) (h : ℕ) (started : List ℕ) (given g : Guest) → given ≡ moved_guest g → IsMoved (with_answer_and z h started given) (with_answer_and z h started g)
  answers_and z h started given g e = along (with_answer_and z h started) given g e (record { is = refl })

  module _ (g : Guest) (h : ℕ) where
    abbrev g' : Guest
    g' = moved_guest g

    says : (z : ℤ) → IsMoved (answer g' h z) (answer g h z)
    says z = record { is = refl }

    stops : IsMoved (unsupported g' h) (unsupported g h)
    stops = record { is = refl }

    not_writable : (a n : ℕ) → not (is_writable (memory_of g') a n) ≡ not (is_writable (memory_of g) a n)
    not_writable a n = ap not (allowed (λ r. r.write) g a n)

    not_readable : (a n : ℕ) → not (is_readable (memory_of g') a n) ≡ not (is_readable (memory_of g) a n)
    not_readable a n = ap not (allowed (λ r. r.read) g a n)

    ioctls : IsMoved (ioctl g' h) (ioctl g h)
    unfolding ioctl
    ioctls = choose refl (says no_terminal) (says bad_file)

    lseeks : IsMoved (lseek g' h) (lseek g h)
    unfolding lseek
    lseeks = choose refl (says no_seek) (says bad_file)

    -- ---- files and pipes

    reads_input : IsMoved (read_input g' h) (read_input g h)
    unfolding read_input
    reads_input = choose (not_writable (a1 g h) (read_length g h)) (says bad_address) (answers (pos (read_length g h)) h (with_filled (a1 g h) (read_length g h) g') (with_filled (a1 g h) (read_length g h) g) (filled (a1 g h) (read_length g h) g))

    takes : (n : ℕ) → with_taken g' h n ≡ moved_guest (with_taken g h n)
    takes n = ap (with_pipes (taken (a0 g h) n g.pipes) (woken_for Writing (a0 g h) g.pipes)) (stored (a1 g h) (take n (held (a0 g h) g.pipes)) g)

    reads_now : (n : ℕ) → IsMoved (read_now g' h n) (read_now g h n)
    unfolding read_now
    reads_now n = choose (not_writable (a1 g h) n) (says bad_address) (answers_and (pos n) h (woken_for Writing (a0 g h) g.pipes) (with_taken g' h n) (with_taken g h n) (takes n))

    reads_pipe : IsMoved (read_pipe g' h) (read_pipe g h)
    unfolding read_pipe
    reads_pipe = choose refl (says (pos 0)) (by (readiness (a0 g h) (a2 g h) g.pipes))
      where
        by : (r : Ready) → IsMoved
            (elim r as (λ _. Retirement Guest) [ ready.Now n ↦ read_now g' h n | ready.Closed ↦ answer g' h (pos 0) | ready.Wait ↦ retirement (waiting_for_pipe g' h) Waits [] ])
            (elim r as (λ _. Retirement Guest) [ ready.Now n ↦ read_now g h n | ready.Closed ↦ answer g h (pos 0) | ready.Wait ↦ retirement (waiting_for_pipe g h) Waits [] ])
        by (ready.Now n) = reads_now n
        by ready.Closed = says (pos 0)
        by ready.Wait = record { is = refl }

    reads_file : IsMoved (read g' h) (read g h)
    unfolding read
    reads_file = choose refl reads_input (choose refl reads_pipe (says bad_file))

    writes_output : IsMoved (write_output g' h) (write_output g h)
    unfolding write_output
    writes_output = choose (not_readable (a1 g h) (a2 g h)) (says bad_address) (answers (pos (a2 g h)) h _ (with_written (bytes_at (memory_of g) (a1 g h) (a2 g h)) g) (ap (λ (bs : List ℕ). with_written bs g') (same_bytes image (memory_of g) (a1 g h) (a2 g h))))

    puts : (n : ℕ) → with_put g' h n ≡ moved_guest (with_put g h n)
    puts n = ap (λ (bs : List ℕ). with_pipes (put (a0 g h) bs g.pipes) (woken_for Reading (a0 g h) g.pipes) g') (same_bytes image (memory_of g) (a1 g h) n)

    writes_now : (n : ℕ) → IsMoved (write_now g' h n) (write_now g h n)
    unfolding write_now
    writes_now n = answers_and (pos n) h (woken_for Reading (a0 g h) g.pipes) (with_put g' h n) (with_put g h n) (puts n)

    writes_pipe : IsMoved (write_pipe g' h) (write_pipe g h)
    unfolding write_pipe
    writes_pipe = choose refl (says (pos 0)) (by (readiness (a0 g h) (a2 g h) g.pipes))
      where
        by : (r : Ready) → IsMoved
            (elim r as (λ _. Retirement Guest) [ ready.Now n ↦ if not (is_readable (memory_of g') (a1 g h) (a2 g h)) then answer g' h bad_address else write_now g' h n | ready.Closed ↦ answer g' h broken_pipe | ready.Wait ↦ if not (is_readable (memory_of g') (a1 g h) (a2 g h)) then answer g' h bad_address else retirement (waiting_for_pipe g' h) Waits [] ])
            (elim r as (λ _. Retirement Guest) [ ready.Now n ↦ if not (is_readable (memory_of g) (a1 g h) (a2 g h)) then answer g h bad_address else write_now g h n | ready.Closed ↦ answer g h broken_pipe | ready.Wait ↦ if not (is_readable (memory_of g) (a1 g h) (a2 g h)) then answer g h bad_address else retirement (waiting_for_pipe g h) Waits [] ])
        by (ready.Now n) = choose (not_readable (a1 g h) (a2 g h)) (says bad_address) (writes_now n)
        by ready.Closed = says broken_pipe
        by ready.Wait = choose (not_readable (a1 g h) (a2 g h)) (says bad_address) (record { is = refl })

    writes_file : IsMoved (write g' h) (write g h)
    unfolding write
    writes_file = choose refl writes_output (choose refl writes_pipe (says bad_file))

    closes : IsMoved (close g' h) (close g h)
    unfolding close
    closes = choose refl stops (choose refl (says bad_file) (answers_and (pos 0) h (woken_at_close g h) (with_pipes (closed (a0 g h) g.pipes) (woken_at_close g h) g') (with_pipes (closed (a0 g h) g.pipes) (woken_at_close g h) g) refl))

    makes_pipe : IsMoved (pipe2 g' h) (pipe2 g h)
    unfolding pipe2
    makes_pipe = choose refl stops (choose (not_writable (a0 g h) 8) (says bad_address) (choose refl (says too_many_files) (answers (pos 0) h (with_stored (a0 g h) (number_bytes (made_numbers g.pipes)) (record g' { pipes = made g.pipes })) (with_stored (a0 g h) (number_bytes (made_numbers g.pipes)) (record g { pipes = made g.pipes })) (stored (a0 g h) (number_bytes (made_numbers g.pipes)) (record g { pipes = made g.pipes })))))

    reads_pieces : (ps : List Piece) → IsMoved (read_pieces g' h ps) (read_pieces g h ps)
    unfolding read_pieces
    reads_pieces ps =
        let parts = filled_parts ps (length g.input) in
        choose (ap not (same_each (λ r. r.write) (memory_of g) parts)) (says bad_address) (answers (pos (specs.total parts)) h (with_read parts g') (with_read parts g) (reads parts g))

    names : not (is_readable (memory_of g') (a1 g h) (16 * a2 g h)) ≡ not (is_readable (memory_of g) (a1 g h) (16 * a2 g h))
    names = not_readable (a1 g h) (16 * a2 g h)

    readvs : IsMoved (readv g' h) (readv g h)
    unfolding readv
    readvs = choose refl stops (choose refl (says bad_file) (choose refl (says invalid_argument) (choose names (says bad_address) pieces)))
      where
        pieces : IsMoved (read_pieces g' h (pieces_at (memory_of g') (a1 g h) (a2 g h))) (read_pieces g h (pieces_at (memory_of g) (a1 g h) (a2 g h)))
        pieces = record { is = ap (read_pieces g' h) (same_pieces (memory_of g) (a1 g h) (a2 g h)) ∙ (reads_pieces (pieces_at (memory_of g) (a1 g h) (a2 g h))).is }

    writes_pieces : (ps : List Piece) → IsMoved (write_pieces g' h ps) (write_pieces g h ps)
    unfolding write_pieces
    writes_pieces ps =
        choose (ap not (same_each (λ r. r.read) (memory_of g) ps)) (says bad_address) (answers (pos (specs.total ps)) h (with_written (bytes_of (memory_of g') ps) g') (with_written (bytes_of (memory_of g) ps) g) (ap (λ (bs : List ℕ). with_written bs g') (same_bytes_of (memory_of g) ps)))

    writevs : IsMoved (writev g' h) (writev g h)
    unfolding writev
    writevs = choose refl stops (choose refl (says bad_file) (choose refl (says invalid_argument) (choose names (says bad_address) pieces)))
      where
        pieces : IsMoved (write_pieces g' h (pieces_at (memory_of g') (a1 g h) (a2 g h))) (write_pieces g h (pieces_at (memory_of g) (a1 g h) (a2 g h)))
        pieces = record { is = ap (write_pieces g' h) (same_pieces (memory_of g) (a1 g h) (a2 g h)) ∙ (writes_pieces (pieces_at (memory_of g) (a1 g h) (a2 g h))).is }

    -- ---- threads

    exits_all : IsMoved (exit_group g' h) (exit_group g h)
    unfolding exit_group
    exits_all = record { is = refl }

    clears : cleared g' h ≡ moved_guest (cleared g h)
    clears = ap (with_woken (clear_address g h) 1) (stored (clear_address g h) (replicate 4 0) g)

    exits : IsMoved (exit g' h) (exit g h)
    unfolding exit
    exits = choose (ap (λ (t : Bool). not (clear_address g h == 0) && t) (allowed (λ r. r.write) g (clear_address g h) 4))
        (along (leave h (woken_at_exit g h)) (cleared g' h) (cleared g h) clears (record { is = refl })) (record { is = refl })

    sets_address : IsMoved (set_tid_address g' h) (set_tid_address g h)
    unfolding set_tid_address
    sets_address = record { is = refl }

    waits : IsMoved (wait g' h) (wait g h)
    unfolding wait
    waits = choose refl stops (choose refl (says invalid_argument) (choose (not_readable (a0 g h) 4) (says bad_address)
        (choose (ap (λ (n : ℕ). not (n == a2 g h % 2 ^ 32)) (same_number image (memory_of g) (a0 g h) 4)) (says try_again) (record { is = refl }))))

    wakes : IsMoved (wake g' h) (wake g h)
    unfolding wake
    wakes = choose refl (says invalid_argument) (along (λ (x : Guest). record (with_answer (pos (length (woken_here g h))) h x) { others = woken_here g h }) (with_woken (a0 g h) (most_woken g h) g') (with_woken (a0 g h) (most_woken g h) g) refl (record { is = refl }))

    futexes : IsMoved (futex g' h) (futex g h)
    unfolding futex
    futexes = choose refl waits (choose refl wakes stops)

    child_words : (t : Bool) (a n : ℕ) (x : Guest) → (if t then with_word a n (moved_guest x) else moved_guest x) ≡ moved_guest (if t then with_word a n x else x)
    child_words true a n x = word a n x
    child_words false a n x = refl

    clones_guest : cloned g' h ≡ moved_guest (cloned g h)
    clones_guest =
        ap (with_child_tid g' h) (child_words (has_power (a0 g h) specs.parent_set_tid) (a2 g h) (thread_id (child g h)) (with_child g h))
        ∙ child_words (has_power (a0 g h) specs.child_set_tid) (a4 g h) (thread_id (child g h)) (with_parent_tid g h (with_child g h))

    clones : IsMoved (clone g' h) (clone g h)
    unfolding clone
    clones = choose refl stops (choose refl (says try_again)
        (along (λ (x : Guest). record (with_answer (pos (thread_id (child g h))) h x) { others = child g h ∷ [] }) (cloned g' h) (cloned g h) clones_guest (record { is = refl })))

    -- ---- time

    sleeps : (moment : ℕ) → IsMoved (sleep_until g' h moment) (sleep_until g h moment)
    sleeps moment = choose refl (by_refl (retirement g' (Ends Clock) []) (retirement g (Ends Clock) []) refl) (by_refl (retirement (asleep g' h) (Sleeps moment) []) (retirement (asleep g h) (Sleeps moment) []) refl)

    sleeps_span : (v : ℕ) → IsMoved (nanosleep g' h v) (nanosleep g h v)
    unfolding nanosleep
    sleeps_span v = choose (not_readable (a0 g h) 16) (says bad_address) (record { is = ap (λ (o : Option Span). elim o as (λ _. Retirement Guest) [ None ↦ answer g' h invalid_argument | Some span ↦ sleep_until g' h (wake_moment v span) ]) (same_span (memory_of g) (a0 g h)) ∙ (by (span_at (memory_of g) (a0 g h))).is })
      where
        by : (o : Option Span) → IsMoved
            (elim o as (λ _. Retirement Guest) [ None ↦ answer g' h invalid_argument | Some span ↦ sleep_until g' h (wake_moment v span) ])
            (elim o as (λ _. Retirement Guest) [ None ↦ answer g h invalid_argument | Some span ↦ sleep_until g h (wake_moment v span) ])
        by None = says invalid_argument
        by (Some span) = sleeps (wake_moment v span)

    shows_clock : (v : ℕ) → IsMoved (clock_gettime g' h v) (clock_gettime g h v)
    unfolding clock_gettime
    shows_clock v = choose refl stops (choose (not_writable (a1 g h) 16) (says bad_address) (answers (pos 0) h (with_stored (a1 g h) (span_bytes (clock_at v)) g') (with_stored (a1 g h) (span_bytes (clock_at v)) g) (stored (a1 g h) (span_bytes (clock_at v)) g)))

    -- ---- the others

    yields : IsMoved (sched_yield g' h) (sched_yield g h)
    unfolding sched_yield
    yields = says (pos 0)

    gets_process : IsMoved (getpid g' h) (getpid g h)
    unfolding getpid
    gets_process = says (pos 1)

    gets_thread : IsMoved (gettid g' h) (gettid g h)
    unfolding gettid
    gets_thread = says (pos (thread_id h))

    masks : IsMoved (rt_sigprocmask g' h) (rt_sigprocmask g h)
    unfolding rt_sigprocmask
    masks = choose refl (says invalid_argument) (choose refl (says (pos 0)) (choose (not_writable (a2 g h) 8) (says bad_address) (answers (pos 0) h (with_stored (a2 g h) (replicate 8 0) g') (with_stored (a2 g h) (replicate 8 0) g) (stored (a2 g h) (replicate 8 0) g))))

    moves_break : IsMoved (brk g' h) (brk g h)
    unfolding brk
    moves_break = record { is = ap (λ (x : Space). with_answer (pos x.regions.break) h (record g { space = x })) (breaks image others pages (a0 g h) g.space) }

    of_spaces : (given a : Answered) → given ≡ record a { space = moved_space image others pages a.space } → IsMoved (of_space g' h given) (of_space g h a)
    of_spaces given a e = record { is = ap (λ (x : Answered). with_answer x.answer h (record g { space = x.space })) e }

    unmaps_pages : IsMoved (munmap g' h) (munmap g h)
    unfolding munmap
    unmaps_pages = of_spaces (unmap (a0 g h) (a1 g h) g'.space) (unmap (a0 g h) (a1 g h) g.space) (unmaps image others pages (a0 g h) (a1 g h) g.space)

    remaps : IsMoved (mremap g' h) (mremap g h)
    unfolding mremap
    remaps = says no_memory

    maps_pages : IsMoved (mmap g' h) (mmap g h)
    unfolding mmap
    maps_pages = choose refl (of_spaces (map (a1 g h) (a2 g h) g'.space) (map (a1 g h) (a2 g h) g.space) (maps image others pages (a1 g h) (a2 g h) g.space)) stops

    protects_pages : IsMoved (mprotect g' h) (mprotect g h)
    unfolding mprotect
    protects_pages = of_spaces (protect (a0 g h) (a1 g h) (a2 g h) g'.space) (protect (a0 g h) (a1 g h) (a2 g h) g.space) (protects image others pages (a0 g h) (a1 g h) (a2 g h) g.space)

    advises : IsMoved (madvise g' h) (madvise g h)
    unfolding madvise
    advises = says invalid_argument

  -- ---- all calls

  abbrev Calling : Type 0
  Calling = Guest → ℕ → ℕ → Retirement Guest

  -- it gives the same with the image and the areas
  record Moves (call : Calling) : Type 0 where
    moves : (g : Guest) (h v : ℕ) → IsMoved (call (moved_guest g) h v) (call g h v)

  found : (table : Map Calling) → AllByRecursion (λ (e : ℕ × Calling). Moves e.1) table → (n : ℕ) → IfSome (value_at table n) Moves
  found [] all n = tt
  found (e ∷ es) all n = by (e.0 == n) (found es all.1 n)
    where
      by : (t : Bool) → IfSome (value_at es n) Moves → IfSome (elim t as (λ _. Option Calling) [ true ↦ Some e.1 | false ↦ value_at es n ]) Moves
      by true rest = all.0
      by false rest = rest

  all_calls : AllByRecursion (λ (e : ℕ × Calling). Moves e.1) calls
  all_calls = (
    record { moves = λ g h v. ioctls g h },
    (
      record { moves = λ g h v. closes g h },
      (
        record { moves = λ g h v. makes_pipe g h },
        (
          record { moves = λ g h v. lseeks g h },
          (
            record { moves = λ g h v. reads_file g h },
            (
              record { moves = λ g h v. writes_file g h },
              (
                record { moves = λ g h v. readvs g h },
                (
                  record { moves = λ g h v. writevs g h },
                  (
                    record { moves = λ g h v. exits g h },
                    (
                      record { moves = λ g h v. exits_all g h },
                      (
                        record { moves = λ g h v. sets_address g h },
                        (
                          record { moves = λ g h v. futexes g h },
                          (
                            record { moves = λ g h v. sleeps_span g h v },
                            (
                              record { moves = λ g h v. shows_clock g h v },
                              (
                                record { moves = λ g h v. yields g h },
                                (
                                  record { moves = λ g h v. masks g h },
                                  (
                                    record { moves = λ g h v. gets_process g h },
                                    (
                                      record { moves = λ g h v. gets_thread g h },
                                      (
                                        record { moves = λ g h v. moves_break g h },
                                        (
                                          record { moves = λ g h v. unmaps_pages g h },
                                          (
                                            record { moves = λ g h v. remaps g h },
                                            (
                                              record { moves = λ g h v. clones g h },
                                              (
                                                record { moves = λ g h v. maps_pages g h },
                                                (
                                                  record { moves = λ g h v. protects_pages g h },
                                                  (
                                                    record { moves = λ g h v. advises g h },
                                                    tt,
                                                  ),
                                                ),
                                              ),
                                            ),
                                          ),
                                        ),
                                      ),
                                    ),
                                  ),
                                ),
                              ),
                            ),
                          ),
                        ),
                      ),
                    ),
                  ),
                ),
              ),
            ),
          ),
        ),
      ),
    ),
  )

  calls_moved : (g : Guest) (h v : ℕ) → IsMoved (call_of (moved_guest g) h v) (call_of g h v)
  unfolding call_of
  calls_moved g h v = by (value_at calls (number g h)) (found calls all_calls (number g h))
    where
      by : (o : Option Calling) → IfSome o Moves → IsMoved
          (elim o as (λ _. Retirement Guest) [ None ↦ unsupported (moved_guest g) h | Some call ↦ call (moved_guest g) h v ])
          (elim o as (λ _. Retirement Guest) [ None ↦ unsupported g h | Some call ↦ call g h v ])
      by None is = stops g h
      by (Some call) is = is.moves g h v

  -- ---- a retirement

  same_word : (g : Guest) (h : ℕ) → word_at (moved_guest g) h ≡ word_at g h
  same_word g h = same_fetch image (memory_of g) (pc_of g h)

  pub same_next : (g : Guest) (h : ℕ) → next_of (moved_guest g) h ≡ next_of g h
  unfolding next_of
  same_next g h = ap (λ (o : Option ℕ). option_and_then instruction_of o) (same_word g h)

  abbrev moved_step : Stepped → Stepped
  moved_step s = step_result (moved_guest s.guest) s.step

  steps : (g : Guest) (h : ℕ) → step (moved_guest g) h ≡ moved_step (step g h)
  unfolding step
  steps g h = ap (of_word (moved_guest g)) (same_word g h) ∙ by (word_at g h)
    where
      of_instruction : Guest → Option Instr → Stepped
      of_instruction x o = elim o as (λ _. Stepped) [ None ↦ step_result x (Fault Illegal) | Some i ↦ stepped_by x h (execute h i (setting_of x h)) ]

      of_word : Guest → Option ℕ → Stepped
      of_word x o = elim o as (λ _. Stepped) [ None ↦ step_result x (Fault Fetch) | Some w ↦ of_instruction x (instruction_of w) ]

      by_instruction : (o : Option Instr) → of_instruction (moved_guest g) o ≡ moved_step (of_instruction g o)
      by_instruction None = refl
      by_instruction (Some i) = ap (stepped_by (moved_guest g) h) (executes image h i (setting_of g h))

      by : (o : Option ℕ) → of_word (moved_guest g) o ≡ moved_step (of_word g o)
      by None = refl
      by (Some w) = by_instruction (instruction_of w)

  retires_by : (g : Guest) (s : Step) (h v : ℕ) → retirement_after h v (step_result (moved_guest g) s) ≡ moved_retirement (retirement_after h v (step_result g s))
  retires_by g Next h v = refl
  retires_by g Call h v = (calls_moved g h v).is
  retires_by g (Fault cause) h v = refl

  pub retires : (g : Guest) (h v : ℕ) → retire (moved_guest g) h v ≡ moved_retirement (retire g h v)
  unfolding retire
  retires g h v = ap (retirement_after h v) (steps g h) ∙ retires_by (step g h).guest (step g h).step h v
