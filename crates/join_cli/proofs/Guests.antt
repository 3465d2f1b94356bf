-- The retirement of a hart leaves words in the registers, bytes in the memory, and an output within
-- its limit; and if it ends the run, the ending is within the ranges of endings.
use Rattle.std.proofs.Common.{◌≡◌, ℕ, zero, suc, ◌+◌, ◌-◌, ◌%◌, ◌^◌, ◌≤◌, ◌<◌, Bool, true, false, not, ◌&&◌, ◌||◌, cond, if◌then◌else◌, ◌==◌, nat_lt, nat_le, leb, ltb, eqb, ℤ, pos, List, [], ◌∷◌, ◌++◌, length, take, drop, replicate, fold, get_or, set, Option, Some, None, refl, sym, ap₂, subst, arith}
use Rattle.std.specs.Int.{w32, w64, to_le_bytes, bytes_low_first}
use Rattle.std.specs.List.{AllByRecursion}
use Rattle.std.proofs.lemmas.Bool.Decides.{nat_tests}
use Rattle.std.proofs.lemmas.Nat.{mod_below}
use Rattle.std.proofs.lemmas.List.{length-take}
use Rattle.coz_types.specs.Image.{ImageParts}
use Rattle.coz_types.specs.Ranges.{is_ending}
use Rattle.coz_types.specs.declared.image.Area.{Area}
use Rattle.coz_types.specs.declared.image.Rights.{Rights}
use Rattle.coz_types.specs.declared.TheConstants.{HARTS}
use Rattle.coz_types.specs.declared.ending.Ending.TheVariants.{Exited, Trapped, Clock}
use Rattle.coz_types.specs.declared.ending.TrapCause.{TrapCause}
use Rattle.machines.specs.declared.Fate.{Fate}
use Rattle.machines.specs.declared.Fate.TheVariants.{Goes, Waits, Leaves, Sleeps, Ends}
use Rattle.machines.specs.Guest.{Retirement}
use Rattle.rv_decode.specs.Fields.{twos_complement}
use Rattle.guest_memory.specs.declared.Layout.{Layout}
use Rattle.guest_memory.specs.Regions.{page_of, pages_for, stack_base, stack_top, brk_base, brk_end}
use Rattle.guest_memory.specs.Memory.{MemoryMap, no_rights, read_and_write, with_bytes, with_number, bytes_at, number_at, is_readable, is_writable, with_rights, with_rights_from, with_zeros, area_bytes, with_area, empty_memory, first_memory}
use Rattle.guest_areas.specs.Answers.{bad_file, try_again, no_memory, no_access, bad_address, invalid_argument, too_many_files, no_terminal, no_seek, broken_pipe}
use Rattle.guest_areas.specs.Space.{Space, space, Answered, refused_answer, has_power, rights_of, is_page_start, is_each, is_known, free_run, memory_between, with_break, map, is_in_map, without_run, unmap, protect}
use Rattle.guest_areas.specs.Entry.{with_numbers, stack_pointer, name, entry_numbers, with_entry}
use Rattle.guest_areas.proofs.Calls.{map_chosen}
use Rattle.guest_futex.specs.Waiters.{woken_harts}
use Rattle.guest_pipes.specs.declared.ends.PipeEnd.TheVariants.{Reading, Writing}
use Rattle.guest_pipes.specs.declared.ends.End.{End}
use Rattle.guest_pipes.specs.declared.TheConstants.{PIPES}
use Rattle.guest_pipes.specs.Pipes.{PipeMap, no_pipes, this_end, held, is_used, can_make, made, made_numbers, readiness, woken_for, taken, put, emptied, ends_without, closed}
use Rattle.rv_execute.specs.declared.hart.HartState.{HartState}
use Rattle.rv_execute.specs.declared.hart.Step.{Step}
use Rattle.rv_execute.specs.declared.hart.Step.TheVariants.{Next, Call, Fault}
use Rattle.rv_execute.specs.Execution.{Setting, execute, with_register}
use Rattle.guest_calls.specs.declared.hart.Hart.{Hart}
use Rattle.guest_calls.specs.declared.hart.HartStatus.TheVariants.{Running, Waiting, Sleeping, Gone}
use Rattle.guest_calls.specs.declared.times.Span.{Span}
use Rattle.guest_calls.specs.declared.pieces.Piece.{Piece}
use Rattle.guest_calls.specs.Answering.{after_call, with_result}
use Rattle.guest_calls.specs.Times.{span_at, span_bytes, wake_moment, last_moment, clock_at}
use Rattle.guest_calls.specs.Guest.{Guest, no_hart, hart_at, state_of, pc_of, with_hart, with_state, with_running_each, with_running, with_wake, with_memory, with_stored, with_written, setting_of, with_setting, memory_of, is_over, thread_id, first_guest}
use Rattle.guest_calls.specs.Calls
use Rattle.guest_calls.specs.Calls.{retirement, with_answer, with_reply, with_answer_and, left_by, leave, unsupported, of_space, number, argument, a0, a1, a2, a3, a4, with_filled, with_read, filled_parts, total, is_each_writable, is_each_readable, bytes_of, pieces_at, are_few, is_named, read_length, is_file, is_end, is_input, is_output, is_stream, is_reading_end, is_writing_end, is_mapping, is_accepted, is_pipe_flags, number_bytes, with_pipes, with_word, with_woken, waiting_for_pipe, with_taken, with_put, woken_at_close, clear_address, is_cleared, woken_at_exit, cleared, waiting_for, most_woken, woken_here, asleep, sleep_until, child, child_stack, child_tls, child_hart, with_child, with_parent_tid, with_child_tid, cloned, set_tls, parent_set_tid, child_set_tid, child_clear_tid, at_any_time, calls, call_of}
use Rattle.guest_calls.specs.Retire.{step_result, step, retirement_after, retire}
use Rattle.guest_calls.proofs.Steps.{step-guest}
use Rattle.guest_calls.proofs.ByNumber.{IsRow, AreRows, call_has}
use Rattle.guest_calls.proofs.PipeRows.{by_readiness}
use Rattle.join_cli.proofs.Tables.{AreBytes, both, dropped, taken as took}
use Rattle.join_cli.proofs.Words.{IsWord, twos_word}
use Rattle.join_cli.proofs.Executing.{either, set_all, get_all, HasOnlyBytes, without_all, bytes_put, low_bytes, read_low, IsFitState, register_put, moved_on, IsFitSetting, execute_fit}

-- ---- memory

read_bytes : (m : MemoryMap) (a n : ℕ) → HasOnlyBytes m → AreBytes (bytes_at m a n)
read_bytes m a zero all = tt
read_bytes m a (suc n) all = (read_low m a all, read_bytes m (a + 1) n all)

same_bytes : (page n : ℕ) (r : Rights) (m : MemoryMap) → (with_rights_from page n r m).bytes ≡ m.bytes
same_bytes page zero r m = refl
same_bytes page (suc n) r m = same_bytes (page + 1) n r (with_rights page r m)

rights_fit : (page n : ℕ) (r : Rights) (m : MemoryMap) → HasOnlyBytes m → HasOnlyBytes (with_rights_from page n r m)
rights_fit page n r m all = subst (AllByRecursion (λ (e : ℕ × ℕ). e.1 < 256)) (sym (same_bytes page n r m)) all

zeros_fit : (page n : ℕ) (m : MemoryMap) → HasOnlyBytes m → HasOnlyBytes (with_zeros page n m)
zeros_fit page n m all = without_all _ m.bytes all

between_fit : (old new : ℕ) (m : MemoryMap) → HasOnlyBytes m → HasOnlyBytes (memory_between old new m)
between_fit old new m all =
    either HasOnlyBytes (ltb old new) (with_zeros old (new - old) (with_rights_from old (new - old) read_and_write m)) (with_rights_from new (old - new) no_rights m)
    (zeros_fit old (new - old) (with_rights_from old (new - old) read_and_write m) (rights_fit old (new - old) read_and_write m all))
    (rights_fit new (old - new) no_rights m all)

-- the memory of a space
abbrev IsFitSpace : Space → Type 0
IsFitSpace s = HasOnlyBytes s.memory

abbrev IsFitAnswered : Answered → Type 0
IsFitAnswered a = IsFitSpace a.space

break_fit : (to : ℕ) (s : Space) → IsFitSpace s → IsFitSpace (with_break to s)
unfolding with_break
break_fit to s all =
    either IsFitSpace (leb brk_base to && leb to (brk_end s.regions.layout)) (space (record s.regions { break = to }) (memory_between (pages_for s.regions.break) (pages_for to) s.memory)) s
    (between_fit (pages_for s.regions.break) (pages_for to) s.memory all) all

chosen_fit : (length protection : ℕ) (s : Space) (o : Option ℕ) → IsFitSpace s → IsFitAnswered (map_chosen length protection s o)
chosen_fit length protection s None all = all
chosen_fit length protection s (Some first) all =
    zeros_fit first (pages_for length) (with_rights_from first (pages_for length) (rights_of protection) s.memory) (rights_fit first (pages_for length) (rights_of protection) s.memory all)

map_fit : (length protection : ℕ) (s : Space) → IsFitSpace s → IsFitAnswered (map length protection s)
unfolding map
map_fit length protection s all =
    either IsFitAnswered (eqb length 0) (refused_answer invalid_argument s) (cond (has_power protection 4) (refused_answer no_access s) (map_chosen length protection s (free_run s.regions (pages_for length)))) all
    (either IsFitAnswered (has_power protection 4) (refused_answer no_access s) (map_chosen length protection s (free_run s.regions (pages_for length))) all
    (chosen_fit length protection s (free_run s.regions (pages_for length)) all))

unmap_fit : (address length : ℕ) (s : Space) → IsFitSpace s → IsFitAnswered (unmap address length s)
unfolding unmap
unmap_fit address length s all =
    either IsFitAnswered (not (is_page_start address) || eqb length 0 || not (is_in_map s.regions.layout address length)) (refused_answer invalid_argument s)
    (record { answer = pos 0; space = without_run (page_of address) (pages_for length) s }) all (rights_fit (page_of address) (pages_for length) no_rights s.memory all)

protect_fit : (address length protection : ℕ) (s : Space) → IsFitSpace s → IsFitAnswered (protect address length protection s)
unfolding protect
protect_fit address length protection s all =
    let done : Answered = record { answer = pos 0; space = space s.regions (with_rights_from (page_of address) (pages_for length) (rights_of protection) s.memory) } in
    let unless_known : Answered = cond (not (is_each (is_known s.regions) (page_of address) (pages_for length))) (refused_answer no_memory s) done in
    let unless_execute : Answered = cond (has_power protection 4) (refused_answer no_access s) unless_known in
    either IsFitAnswered (not (is_page_start address)) (refused_answer invalid_argument s) (cond (eqb length 0) (refused_answer (pos 0) s) unless_execute) all
    (either IsFitAnswered (eqb length 0) (refused_answer (pos 0) s) unless_execute all
    (either IsFitAnswered (has_power protection 4) (refused_answer no_access s) unless_known all
    (either IsFitAnswered (not (is_each (is_known s.regions) (page_of address) (pages_for length))) (refused_answer no_memory s) done all
    (rights_fit (page_of address) (pages_for length) (rights_of protection) s.memory all))))

-- ---- guests

abbrev IsFitHart : Hart → Type 0
IsFitHart hart = IsFitState hart.state

pub record IsFit (most : ℕ) (g : Guest) : Type 0 where
  pub harts : AllByRecursion IsFitHart g.harts
  pub memory : HasOnlyBytes (memory_of g)
  pub input : AreBytes g.input
  pub pipes : AllByRecursion AreBytes g.pipes.bytes
  pub output : length g.output ≤ g.output_limit
  pub limit : g.output_limit ≡ most

no_hart_fit : IsFitHart no_hart
no_hart_fit = record { registers = tt; pc = omega arith }

abbrev pub IsFitFate : Fate → Type 0
IsFitFate Goes = Unit {0}
IsFitFate Waits = Unit {0}
IsFitFate Leaves = Unit {0}
IsFitFate (Sleeps moment) = Unit {0}
IsFitFate (Ends ending) = is_ending ending ≡ true

below_is : (m n : ℕ) → m ≤ n → nat_le m n ≡ true
below_is m n le = grind (arith, nat_tests, le)

module _ (most : ℕ) where
  abbrev Fit : Guest → Type 0
  Fit g = IsFit most g

  state_fit : (g : Guest) (h : ℕ) → Fit g → IsFitState (state_of g h)
  state_fit g h fit = get_all IsFitHart g.harts h no_hart fit.harts no_hart_fit

  hart_fit : (g : Guest) (h : ℕ) (hart : Hart) → Fit g → IsFitHart hart → Fit (with_hart h hart g)
  hart_fit g h hart fit is = record { harts = set_all IsFitHart g.harts h hart fit.harts is; memory = fit.memory; input = fit.input; pipes = fit.pipes; output = fit.output; limit = fit.limit }

  memory_fit : (g : Guest) (m : MemoryMap) → Fit g → HasOnlyBytes m → Fit (with_memory m g)
  memory_fit g m fit all = record { harts = fit.harts; memory = all; input = fit.input; pipes = fit.pipes; output = fit.output; limit = fit.limit }

  stored_fit : (a : ℕ) (bytes : List ℕ) (g : Guest) → Fit g → AreBytes bytes → Fit (with_stored a bytes g)
  stored_fit a bytes g fit are = record { harts = fit.harts; memory = bytes_put a bytes (memory_of g) fit.memory are; input = fit.input; pipes = fit.pipes; output = fit.output; limit = fit.limit }

  space_fit : (g : Guest) (s : Space) → Fit g → IsFitSpace s → Fit (record g { space = s })
  space_fit g s fit all = record { harts = fit.harts; memory = all; input = fit.input; pipes = fit.pipes; output = fit.output; limit = fit.limit }

  each_runs : (hs : List ℕ) (harts : List Hart) → AllByRecursion IsFitHart harts → AllByRecursion IsFitHart (with_running_each hs harts)
  each_runs [] harts all = all
  each_runs (h ∷ hs) harts all =
      each_runs hs (set harts h (record (get_or harts h no_hart) { status = Running })) (set_all IsFitHart harts h (record (get_or harts h no_hart) { status = Running }) all (get_all IsFitHart harts h no_hart all no_hart_fit))

  running_fit : (hs : List ℕ) (g : Guest) → Fit g → Fit (with_running hs g)
  running_fit hs g fit = record { harts = each_runs hs g.harts fit.harts; memory = fit.memory; input = fit.input; pipes = fit.pipes; output = fit.output; limit = fit.limit }

  pipes_fit : (p : PipeMap) (hs : List ℕ) (g : Guest) → Fit g → AllByRecursion AreBytes p.bytes → Fit (with_pipes p hs g)
  pipes_fit p hs g fit all = record { harts = each_runs hs g.harts fit.harts; memory = fit.memory; input = fit.input; pipes = all; output = fit.output; limit = fit.limit }

  woken_fit : (address count : ℕ) (g : Guest) → Fit g → Fit (with_woken address count g)
  woken_fit address count g fit = record { harts = each_runs (woken_harts address g.waiters count) g.harts fit.harts; memory = fit.memory; input = fit.input; pipes = fit.pipes; output = fit.output; limit = fit.limit }

  pub wake_fit : (g : Guest) (h : ℕ) → Fit g → Fit (with_wake h g)
  wake_fit g h fit = hart_fit g h (record (hart_at g h) { status = Running }) fit (state_fit g h fit)

  written_fit : (bytes : List ℕ) (g : Guest) → Fit g → Fit (with_written bytes g)
  written_fit bytes g fit = record { harts = fit.harts; memory = fit.memory; input = fit.input; pipes = fit.pipes; output = let e = length-take g.output_limit (g.output ++ bytes) in omega (arith, e); limit = fit.limit }

  filled_fit : (address count : ℕ) (g : Guest) → Fit g → Fit (with_filled address count g)
  filled_fit address count g fit =
      stored_fit address (take count g.input) (record g { input = drop count g.input })
      (record { harts = fit.harts; memory = fit.memory; input = dropped count g.input fit.input; pipes = fit.pipes; output = fit.output; limit = fit.limit })
      (took count g.input fit.input)

  result_fit : (n : ℕ) (s : HartState) → IsFitState s → IsWord n → IsFitState (with_result n s)
  result_fit n s fit word = register_put 10 n (after_call s) (moved_on s fit) word

  held_fit : (number : ℕ) (g : Guest) → Fit g → AreBytes (held number g.pipes)
  held_fit number g fit = get_all AreBytes g.pipes.bytes _ [] fit.pipes tt

  -- ---- what calls leave

  abbrev Has : Retirement Guest → Type 0
  Has r = Fit r.guest × IsFitFate r.fate

  replied : (n h : ℕ) (g : Guest) (others : List ℕ) → Fit g → IsWord n → Has (retirement (with_state h (with_result n (state_of g h)) g) Goes others)
  replied n h g others fit word = (hart_fit g h _ fit (result_fit n (state_of g h) (state_fit g h fit) word), tt)

  answered : (z : ℤ) (h : ℕ) (g : Guest) → Fit g → Has (with_answer z h g)
  answered z h g fit = replied (twos_complement 64 z) h g [] fit (twos_word z)

  answered_and : (z : ℤ) (h : ℕ) (others : List ℕ) (g : Guest) → Fit g → Has (with_answer_and z h others g)
  answered_and z h others g fit = replied (twos_complement 64 z) h g others fit (twos_word z)

  -- a call that is refused, or goes on
  checked : (b : Bool) (z : ℤ) (h : ℕ) (g : Guest) (r : Retirement Guest) → Fit g → Has r → Has (if b then with_answer z h g else r)
  checked true z h g r fit has = answered z h g fit
  checked false z h g r fit has = has

  word_of : (g : Guest) (h i : ℕ) → Fit g → IsWord (get_or (state_of g h).registers i 0)
  word_of g h i fit = get_all IsWord (state_of g h).registers i 0 (state_fit g h fit).registers (omega arith)

  unsupported_fit : (g : Guest) (h : ℕ) → Fit g → Has (unsupported g h)
  unsupported_fit g h fit = (fit, let small : number g h < 2 ^ 64 = word_of g h 17 fit in below_is (number g h) 18446744073709551615 (omega arith))

  -- ---- calls

  ioctl_fit : (g : Guest) (h : ℕ) → Fit g → Has (Calls.ioctl g h)
  unfolding Calls.ioctl
  ioctl_fit g h fit = checked (is_file (a0 g h) g) no_terminal h g _ fit (answered bad_file h g fit)

  lseek_fit : (g : Guest) (h : ℕ) → Fit g → Has (Calls.lseek g h)
  unfolding Calls.lseek
  lseek_fit g h fit = checked (is_file (a0 g h) g) no_seek h g _ fit (answered bad_file h g fit)

  read_input_fit : (g : Guest) (h : ℕ) → Fit g → Has (Calls.read_input g h)
  unfolding Calls.read_input
  read_input_fit g h fit =
      checked (not (is_writable (memory_of g) (a1 g h) (read_length g h))) bad_address h g _ fit
      (answered (pos (read_length g h)) h (with_filled (a1 g h) (read_length g h) g) (filled_fit (a1 g h) (read_length g h) g fit))

  -- a hart that waits for a pipe, at its ecall
  waits_for_pipe : (g : Guest) (h : ℕ) → Fit g → Has (retirement (waiting_for_pipe g h) Waits [])
  waits_for_pipe g h fit = (
    record {
      harts = set_all IsFitHart g.harts h (record (hart_at g h) { status = Waiting }) fit.harts (state_fit g h fit);
      memory = fit.memory;
      input = fit.input;
      pipes = fit.pipes;
      output = fit.output;
      limit = fit.limit;
    },
    tt,
  )

  taken_fit : (g : Guest) (h n : ℕ) → Fit g → Fit (with_taken g h n)
  taken_fit g h n fit =
      let bytes : AreBytes (held (a0 g h) g.pipes) = held_fit (a0 g h) g fit in
      pipes_fit (taken (a0 g h) n g.pipes) (woken_for Writing (a0 g h) g.pipes) (with_stored (a1 g h) (take n (held (a0 g h) g.pipes)) g)
      (stored_fit (a1 g h) (take n (held (a0 g h) g.pipes)) g fit (took n (held (a0 g h) g.pipes) bytes))
      (set_all AreBytes g.pipes.bytes (this_end (a0 g h) g.pipes).pipe (drop n (held (a0 g h) g.pipes)) fit.pipes (dropped n (held (a0 g h) g.pipes) bytes))

  put_fit : (g : Guest) (h n : ℕ) → Fit g → Fit (with_put g h n)
  put_fit g h n fit =
      let more : List ℕ = bytes_at (memory_of g) (a1 g h) n in
      pipes_fit (put (a0 g h) more g.pipes) (woken_for Reading (a0 g h) g.pipes) g fit
      (set_all AreBytes g.pipes.bytes (this_end (a0 g h) g.pipes).pipe (held (a0 g h) g.pipes ++ more) fit.pipes
      (both (λ b. b < 256) (held (a0 g h) g.pipes) more (held_fit (a0 g h) g fit) (read_bytes (memory_of g) (a1 g h) n fit.memory)))

  read_now_fit : (g : Guest) (h n : ℕ) → Fit g → Has (Calls.read_now g h n)
  unfolding Calls.read_now
  read_now_fit g h n fit =
      checked (not (is_writable (memory_of g) (a1 g h) n)) bad_address h g _ fit
      (answered_and (pos n) h (woken_for Writing (a0 g h) g.pipes) (with_taken g h n) (taken_fit g h n fit))

  read_pipe_fit : (g : Guest) (h : ℕ) → Fit g → Has (Calls.read_pipe g h)
  unfolding Calls.read_pipe
  read_pipe_fit g h fit =
      checked (a2 g h == 0) (pos 0) h g _ fit
      (by_readiness Has (readiness (a0 g h) (a2 g h) g.pipes) _ _ _ (λ n. read_now_fit g h n fit) (answered (pos 0) h g fit) (waits_for_pipe g h fit))

  read_fit : (g : Guest) (h : ℕ) → Fit g → Has (Calls.read g h)
  unfolding Calls.read
  read_fit g h fit =
      either Has (is_input (a0 g h)) (Calls.read_input g h) _ (read_input_fit g h fit)
      (either Has (is_reading_end (a0 g h) g) (Calls.read_pipe g h) _ (read_pipe_fit g h fit) (answered bad_file h g fit))

  write_output_fit : (g : Guest) (h : ℕ) → Fit g → Has (Calls.write_output g h)
  unfolding Calls.write_output
  write_output_fit g h fit =
      checked (not (is_readable (memory_of g) (a1 g h) (a2 g h))) bad_address h g _ fit
      (answered (pos (a2 g h)) h (with_written (bytes_at (memory_of g) (a1 g h) (a2 g h)) g) (written_fit (bytes_at (memory_of g) (a1 g h) (a2 g h)) g fit))

  write_now_fit : (g : Guest) (h n : ℕ) → Fit g → Has (Calls.write_now g h n)
  unfolding Calls.write_now
  write_now_fit g h n fit = answered_and (pos n) h (woken_for Reading (a0 g h) g.pipes) (with_put g h n) (put_fit g h n fit)

  write_pipe_fit : (g : Guest) (h : ℕ) → Fit g → Has (Calls.write_pipe g h)
  unfolding Calls.write_pipe
  write_pipe_fit g h fit =
      checked (a2 g h == 0) (pos 0) h g _ fit
      (by_readiness Has (readiness (a0 g h) (a2 g h) g.pipes) _ _ _
      (λ n. checked (not (is_readable (memory_of g) (a1 g h) (a2 g h))) bad_address h g _ fit (write_now_fit g h n fit))
      (answered broken_pipe h g fit)
      (checked (not (is_readable (memory_of g) (a1 g h) (a2 g h))) bad_address h g _ fit (waits_for_pipe g h fit)))

  write_fit : (g : Guest) (h : ℕ) → Fit g → Has (Calls.write g h)
  unfolding Calls.write
  write_fit g h fit =
      either Has (is_output (a0 g h)) (Calls.write_output g h) _ (write_output_fit g h fit)
      (either Has (is_writing_end (a0 g h) g) (Calls.write_pipe g h) _ (write_pipe_fit g h fit) (answered bad_file h g fit))

  emptied_fit : (ends : List (Option End)) (pipe : ℕ) (all : List (List ℕ)) → AllByRecursion AreBytes all → AllByRecursion AreBytes (emptied ends pipe all)
  emptied_fit ends pipe all are = either (AllByRecursion AreBytes) (is_used ends pipe) all (set all pipe []) are (set_all AreBytes all pipe [] are tt)

  close_fit : (g : Guest) (h : ℕ) → Fit g → Has (Calls.close g h)
  unfolding Calls.close
  close_fit g h fit =
      either Has (is_stream (a0 g h)) (unsupported g h) _ (unsupported_fit g h fit)
      (checked (not (is_end (a0 g h) g)) bad_file h g _ fit
      (answered_and (pos 0) h (woken_at_close g h) (with_pipes (closed (a0 g h) g.pipes) (woken_at_close g h) g)
      (pipes_fit (closed (a0 g h) g.pipes) (woken_at_close g h) g fit (emptied_fit (ends_without (a0 g h) g.pipes) (this_end (a0 g h) g.pipes).pipe g.pipes.bytes fit.pipes))))

  numbers_low : (numbers : ℕ × ℕ) → AreBytes (number_bytes numbers)
  numbers_low numbers = both (λ b. b < 256) (to_le_bytes w32 numbers.0) (to_le_bytes w32 numbers.1) (low_bytes 0 4 numbers.0) (low_bytes 0 4 numbers.1)

  pipe2_fit : (g : Guest) (h : ℕ) → Fit g → Has (Calls.pipe2 g h)
  unfolding Calls.pipe2
  pipe2_fit g h fit =
      either Has (not (is_pipe_flags (a1 g h))) (unsupported g h) _ (unsupported_fit g h fit)
      (checked (not (is_writable (memory_of g) (a0 g h) 8)) bad_address h g _ fit
      (checked (not (can_make g.pipes)) too_many_files h g _ fit
      (answered (pos 0) h (with_stored (a0 g h) (number_bytes (made_numbers g.pipes)) (record g { pipes = made g.pipes }))
      (stored_fit (a0 g h) (number_bytes (made_numbers g.pipes)) (record g { pipes = made g.pipes })
      (record { harts = fit.harts; memory = fit.memory; input = fit.input; pipes = fit.pipes; output = fit.output; limit = fit.limit })
      (numbers_low (made_numbers g.pipes))))))

  filled_each : (ps : List Piece) (g : Guest) → Fit g → Fit (with_read ps g)
  filled_each [] g fit = fit
  filled_each (p ∷ ps) g fit = filled_each ps (with_filled p.address p.length g) (filled_fit p.address p.length g fit)

  read_pieces_fit : (g : Guest) (h : ℕ) (ps : List Piece) → Fit g → Has (Calls.read_pieces g h ps)
  unfolding Calls.read_pieces
  read_pieces_fit g h ps fit =
      checked (not (is_each_writable (memory_of g) (filled_parts ps (length g.input)))) bad_address h g _ fit
      (answered (pos (total (filled_parts ps (length g.input)))) h (with_read (filled_parts ps (length g.input)) g) (filled_each (filled_parts ps (length g.input)) g fit))

  readv_fit : (g : Guest) (h : ℕ) → Fit g → Has (Calls.readv g h)
  unfolding Calls.readv
  readv_fit g h fit =
      either Has (is_end (a0 g h) g) (unsupported g h) _ (unsupported_fit g h fit)
      (checked (not (is_input (a0 g h))) bad_file h g _ fit
      (checked (not (are_few g h)) invalid_argument h g _ fit
      (checked (not (is_named g h)) bad_address h g _ fit
      (read_pieces_fit g h (pieces_at (memory_of g) (a1 g h) (a2 g h)) fit))))

  write_pieces_fit : (g : Guest) (h : ℕ) (ps : List Piece) → Fit g → Has (Calls.write_pieces g h ps)
  unfolding Calls.write_pieces
  write_pieces_fit g h ps fit =
      checked (not (is_each_readable (memory_of g) ps)) bad_address h g _ fit
      (answered (pos (total ps)) h (with_written (bytes_of (memory_of g) ps) g) (written_fit (bytes_of (memory_of g) ps) g fit))

  writev_fit : (g : Guest) (h : ℕ) → Fit g → Has (Calls.writev g h)
  unfolding Calls.writev
  writev_fit g h fit =
      either Has (is_end (a0 g h) g) (unsupported g h) _ (unsupported_fit g h fit)
      (checked (not (is_output (a0 g h))) bad_file h g _ fit
      (checked (not (are_few g h)) invalid_argument h g _ fit
      (checked (not (is_named g h)) bad_address h g _ fit
      (write_pieces_fit g h (pieces_at (memory_of g) (a1 g h) (a2 g h)) fit))))

  code_low : (n : ℕ) → is_ending (Exited (n % 256)) ≡ true
  code_low n = let low : n % 256 < 256 = mod_below n 256 (omega arith) in below_is (n % 256) 255 (omega arith)

  exit_group_fit : (g : Guest) (h : ℕ) → Fit g → Has (Calls.exit_group g h)
  unfolding Calls.exit_group
  exit_group_fit g h fit = (fit, code_low (a0 g h))

  left_fate : (over : Bool) (n : ℕ) → IsFitFate (if over then Ends (Exited (n % 256)) else Leaves)
  left_fate true n = code_low n
  left_fate false n = tt

  leave_fit : (h : ℕ) (others : List ℕ) (g : Guest) → Fit g → Has (leave h others g)
  leave_fit h others g fit = (hart_fit g h (record (hart_at g h) { state = after_call (state_of g h); status = Gone }) fit (moved_on (state_of g h) (state_fit g h fit)), left_fate (is_over (left_by h g)) (argument g h 0))

  zeros_low : (n : ℕ) → AreBytes (replicate n 0)
  zeros_low zero = tt
  zeros_low (suc n) = (omega arith, zeros_low n)

  exit_fit : (g : Guest) (h : ℕ) → Fit g → Has (Calls.exit g h)
  unfolding Calls.exit
  exit_fit g h fit =
      either Has (is_cleared g h) (leave h (woken_at_exit g h) (cleared g h)) (leave h [] g)
      (leave_fit h (woken_at_exit g h) (cleared g h) (woken_fit (clear_address g h) 1 (with_stored (clear_address g h) (replicate 4 0) g) (stored_fit (clear_address g h) (replicate 4 0) g fit (zeros_low 4))))
      (leave_fit h [] g fit)

  set_tid_address_fit : (g : Guest) (h : ℕ) → Fit g → Has (Calls.set_tid_address g h)
  unfolding Calls.set_tid_address
  set_tid_address_fit g h fit = answered (pos (thread_id h)) h (with_hart h (record (hart_at g h) { clear = a0 g h }) g) (hart_fit g h (record (hart_at g h) { clear = a0 g h }) fit (state_fit g h fit))

  waits_for : (g : Guest) (h address : ℕ) → Fit g → Has (retirement (waiting_for g h address) Waits [])
  waits_for g h address fit = (
    record {
      harts = set_all IsFitHart g.harts h (record (hart_at g h) { state = with_result 0 (state_of g h); status = Waiting }) fit.harts (result_fit 0 (state_of g h) (state_fit g h fit) (omega arith));
      memory = fit.memory;
      input = fit.input;
      pipes = fit.pipes;
      output = fit.output;
      limit = fit.limit;
    },
    tt,
  )

  wait_fit : (g : Guest) (h : ℕ) → Fit g → Has (Calls.wait g h)
  unfolding Calls.wait
  wait_fit g h fit =
      either Has (not (a3 g h == 0)) (unsupported g h) _ (unsupported_fit g h fit)
      (checked (not (a0 g h % 4 == 0)) invalid_argument h g _ fit
      (checked (not (is_readable (memory_of g) (a0 g h) 4)) bad_address h g _ fit
      (checked (not (number_at (memory_of g) (a0 g h) 4 == a2 g h % 2 ^ 32)) try_again h g _ fit
      (waits_for g h (a0 g h) fit))))

  rouse_fit : (g : Guest) (h : ℕ) → Fit g → Has (Calls.wake g h)
  unfolding Calls.wake
  rouse_fit g h fit =
      checked (not (a0 g h % 4 == 0)) invalid_argument h g _ fit
      (answered_and (pos (length (woken_here g h))) h (woken_here g h) (with_woken (a0 g h) (most_woken g h) g) (woken_fit (a0 g h) (most_woken g h) g fit))

  futex_fit : (g : Guest) (h : ℕ) → Fit g → Has (Calls.futex g h)
  unfolding Calls.futex
  futex_fit g h fit =
      either Has (a1 g h == 0 || a1 g h == 128) (Calls.wait g h) _ (wait_fit g h fit)
      (either Has (a1 g h == 1 || a1 g h == 129) (Calls.wake g h) (unsupported g h) (rouse_fit g h fit) (unsupported_fit g h fit))

  sleeps : (late : Bool) (g : Guest) (h moment : ℕ) → Fit g → Has (if late then retirement g (Ends Clock) [] else retirement (asleep g h) (Sleeps moment) [])
  sleeps true g h moment fit = (fit, refl)
  sleeps false g h moment fit = (hart_fit g h (record (hart_at g h) { state = with_result 0 (state_of g h); status = Sleeping }) fit (result_fit 0 (state_of g h) (state_fit g h fit) (omega arith)), tt)

  span_fit : (o : Option Span) (g : Guest) (h v : ℕ) → Fit g → Has (elim o as (λ _. Retirement Guest) [ None ↦ with_answer invalid_argument h g | Some span ↦ sleep_until g h (wake_moment v span) ])
  span_fit None g h v fit = answered invalid_argument h g fit
  span_fit (Some span) g h v fit = sleeps (nat_lt last_moment (wake_moment v span)) g h (wake_moment v span) fit

  nanosleep_fit : (g : Guest) (h v : ℕ) → Fit g → Has (Calls.nanosleep g h v)
  unfolding Calls.nanosleep
  nanosleep_fit g h v fit =
      checked (not (is_readable (memory_of g) (a0 g h) 16)) bad_address h g _ fit (span_fit (span_at (memory_of g) (a0 g h)) g h v fit)

  span_low : (span : Span) → AreBytes (span_bytes span)
  span_low span = both (λ b. b < 256) (to_le_bytes w64 span.seconds) (to_le_bytes w64 span.nanoseconds) (low_bytes 0 8 span.seconds) (low_bytes 0 8 span.nanoseconds)

  clock_gettime_fit : (g : Guest) (h v : ℕ) → Fit g → Has (Calls.clock_gettime g h v)
  unfolding Calls.clock_gettime
  clock_gettime_fit g h v fit =
      either Has (not (a0 g h == 0 || a0 g h == 1)) (unsupported g h) _ (unsupported_fit g h fit)
      (checked (not (is_writable (memory_of g) (a1 g h) 16)) bad_address h g _ fit
      (answered (pos 0) h (with_stored (a1 g h) (span_bytes (clock_at v)) g) (stored_fit (a1 g h) (span_bytes (clock_at v)) g fit (span_low (clock_at v)))))

  stack_put : (g : Guest) (h : ℕ) (s : HartState) → Fit g → IsFitState s → IsFitState (child_stack g h s)
  stack_put g h s fit is = either IsFitState (a1 g h == 0) s (with_register 2 (a1 g h) s) is (register_put 2 (a1 g h) s is (word_of g h 11 fit))

  tls_put : (g : Guest) (h : ℕ) (s : HartState) → Fit g → IsFitState s → IsFitState (child_tls g h s)
  tls_put g h s fit is = either IsFitState (has_power (a0 g h) set_tls) (with_register 4 (a3 g h) s) s (register_put 4 (a3 g h) s is (word_of g h 13 fit)) is

  added : {X : Type 0} (P : X → Type 0) (xs : List X) (x : X) → AllByRecursion P xs → P x → AllByRecursion P (xs ++ x ∷ [])
  added P xs x all one = both P xs (x ∷ []) all (one, tt)

  child_fit : (g : Guest) (h : ℕ) → Fit g → Fit (with_child g h)
  child_fit g h fit = record {
    harts =
        added IsFitHart g.harts (child_hart g h) fit.harts
        (tls_put g h (child_stack g h (with_result 0 (state_of g h))) fit (stack_put g h (with_result 0 (state_of g h)) fit (result_fit 0 (state_of g h) (state_fit g h fit) (omega arith))));
    memory = fit.memory;
    input = fit.input;
    pipes = fit.pipes;
    output = fit.output;
    limit = fit.limit;
  }

  word_fit : (address n : ℕ) (g : Guest) → Fit g → Fit (with_word address n g)
  word_fit address n g fit = either Fit (is_writable (memory_of g) address 4) (with_stored address (to_le_bytes w32 n) g) g (stored_fit address (to_le_bytes w32 n) g fit (low_bytes 0 4 n)) fit

  parent_fit : (g : Guest) (h : ℕ) (changed : Guest) → Fit changed → Fit (with_parent_tid g h changed)
  parent_fit g h changed fit = either Fit (has_power (a0 g h) parent_set_tid) (with_word (a2 g h) (thread_id (child g h)) changed) changed (word_fit (a2 g h) (thread_id (child g h)) changed fit) fit

  own_tid_fit : (g : Guest) (h : ℕ) (changed : Guest) → Fit changed → Fit (with_child_tid g h changed)
  own_tid_fit g h changed fit = either Fit (has_power (a0 g h) child_set_tid) (with_word (a4 g h) (thread_id (child g h)) changed) changed (word_fit (a4 g h) (thread_id (child g h)) changed fit) fit

  clone_fit : (g : Guest) (h : ℕ) → Fit g → Has (Calls.clone g h)
  unfolding Calls.clone
  clone_fit g h fit =
      either Has (not (is_accepted (a0 g h))) (unsupported g h) _ (unsupported_fit g h fit)
      (checked (nat_le HARTS (length g.harts)) try_again h g _ fit
      (answered_and (pos (thread_id (child g h))) h (child g h ∷ []) (cloned g h) (own_tid_fit g h (with_parent_tid g h (with_child g h)) (parent_fit g h (with_child g h) (child_fit g h fit)))))

  sched_yield_fit : (g : Guest) (h : ℕ) → Fit g → Has (Calls.sched_yield g h)
  unfolding Calls.sched_yield
  sched_yield_fit g h fit = answered (pos 0) h g fit

  getpid_fit : (g : Guest) (h : ℕ) → Fit g → Has (Calls.getpid g h)
  unfolding Calls.getpid
  getpid_fit g h fit = answered (pos 1) h g fit

  gettid_fit : (g : Guest) (h : ℕ) → Fit g → Has (Calls.gettid g h)
  unfolding Calls.gettid
  gettid_fit g h fit = answered (pos (thread_id h)) h g fit

  rt_sigprocmask_fit : (g : Guest) (h : ℕ) → Fit g → Has (Calls.rt_sigprocmask g h)
  unfolding Calls.rt_sigprocmask
  rt_sigprocmask_fit g h fit =
      checked (not (a3 g h == 8)) invalid_argument h g _ fit
      (checked (a2 g h == 0) (pos 0) h g _ fit
      (checked (not (is_writable (memory_of g) (a2 g h) 8)) bad_address h g _ fit
      (answered (pos 0) h (with_stored (a2 g h) (replicate 8 0) g) (stored_fit (a2 g h) (replicate 8 0) g fit (zeros_low 8)))))

  brk_fit : (g : Guest) (h : ℕ) → Fit g → Has (Calls.brk g h)
  unfolding Calls.brk
  brk_fit g h fit = let s : Space = with_break (a0 g h) g.space in answered (pos s.regions.break) h (record g { space = s }) (space_fit g s fit (break_fit (a0 g h) g.space fit.memory))

  of_space_fit : (g : Guest) (h : ℕ) (a : Answered) → Fit g → IsFitAnswered a → Has (of_space g h a)
  of_space_fit g h a fit all = answered a.answer h (record g { space = a.space }) (space_fit g a.space fit all)

  munmap_fit : (g : Guest) (h : ℕ) → Fit g → Has (Calls.munmap g h)
  unfolding Calls.munmap
  munmap_fit g h fit = of_space_fit g h (unmap (a0 g h) (a1 g h) g.space) fit (unmap_fit (a0 g h) (a1 g h) g.space fit.memory)

  mremap_fit : (g : Guest) (h : ℕ) → Fit g → Has (Calls.mremap g h)
  unfolding Calls.mremap
  mremap_fit g h fit = answered no_memory h g fit

  mmap_fit : (g : Guest) (h : ℕ) → Fit g → Has (Calls.mmap g h)
  unfolding Calls.mmap
  mmap_fit g h fit =
      either Has (is_mapping (a3 g h)) (of_space g h (map (a1 g h) (a2 g h) g.space)) (unsupported g h)
      (of_space_fit g h (map (a1 g h) (a2 g h) g.space) fit (map_fit (a1 g h) (a2 g h) g.space fit.memory)) (unsupported_fit g h fit)

  mprotect_fit : (g : Guest) (h : ℕ) → Fit g → Has (Calls.mprotect g h)
  unfolding Calls.mprotect
  mprotect_fit g h fit = of_space_fit g h (protect (a0 g h) (a1 g h) (a2 g h) g.space) fit (protect_fit (a0 g h) (a1 g h) (a2 g h) g.space fit.memory)

  madvise_fit : (g : Guest) (h : ℕ) → Fit g → Has (Calls.madvise g h)
  unfolding Calls.madvise
  madvise_fit g h fit = answered invalid_argument h g fit

  -- a call by its number
  abbrev HasIf : Guest → ℕ → ℕ → Retirement Guest → Type 0
  HasIf g h v r = Fit g → Has r

  any_time : (call : Guest → ℕ → Retirement Guest) → ((g : Guest) (h : ℕ) → Fit g → Has (call g h)) → IsRow HasIf (at_any_time call)
  any_time call row g h v fit = row g h fit

  all_rows : AreRows HasIf calls
  all_rows =
      (any_time Calls.ioctl ioctl_fit, (any_time Calls.close close_fit, (any_time Calls.pipe2 pipe2_fit, (any_time Calls.lseek lseek_fit, (any_time Calls.read read_fit, (any_time Calls.write write_fit, (any_time Calls.readv readv_fit, (any_time Calls.writev writev_fit, (any_time Calls.exit exit_fit, (any_time Calls.exit_group exit_group_fit, (any_time Calls.set_tid_address set_tid_address_fit, (any_time Calls.futex futex_fit, ((λ g h v fit. nanosleep_fit g h v fit), ((λ g h v fit. clock_gettime_fit g h v fit), (any_time Calls.sched_yield sched_yield_fit, (any_time Calls.rt_sigprocmask rt_sigprocmask_fit, (any_time Calls.getpid getpid_fit, (any_time Calls.gettid gettid_fit, (any_time Calls.brk brk_fit, (any_time Calls.munmap munmap_fit, (any_time Calls.mremap mremap_fit, (any_time Calls.clone clone_fit, (any_time Calls.mmap mmap_fit, (any_time Calls.mprotect mprotect_fit, (any_time Calls.madvise madvise_fit, tt)))))))))))))))))))))))))

  call_fit : (g : Guest) (h v : ℕ) → Fit g → Has (call_of g h v)
  call_fit g h v fit = call_has HasIf all_rows g h v (λ here. unsupported_fit g h here) fit

  -- ---- retirements

  executed_fit : (g : Guest) (h : ℕ) (s : Setting) → Fit g → IsFitSetting s → Fit (with_setting h s g)
  executed_fit g h s fit is = record { harts = set_all IsFitHart g.harts h (record (hart_at g h) { state = s.hart }) fit.harts is.hart; memory = is.memory; input = fit.input; pipes = fit.pipes; output = fit.output; limit = fit.limit }

  step_fit : (g : Guest) (h : ℕ) → Fit g → Fit (step g h).guest
  step_fit g h fit = step-guest Fit g h fit (λ i. executed_fit g h (execute h i (setting_of g h)).setting fit (execute_fit h i (setting_of g h) (record { hart = state_fit g h fit; memory = fit.memory })))

  and_true : (p q : Bool) → p ≡ true → q ≡ true → (p && q) ≡ true
  and_true p q e f = ap₂ (λ a b. a && b) e f

  trap_low : (cause : TrapCause) (h : ℕ) (g : Guest) → h < 256 → Fit g → is_ending (Trapped (record { cause = cause; hart = record { 0 = h }; pc = pc_of g h })) ≡ true
  trap_low cause h g low fit =
      let word : pc_of g h < 2 ^ 64 = (state_fit g h fit).pc in
      and_true (nat_le h 255) (nat_le (pc_of g h) 18446744073709551615) (below_is h 255 (omega arith)) (below_is (pc_of g h) 18446744073709551615 (omega arith))

  follows_fit : (after : Guest) (h v : ℕ) (s : Step) → h < 256 → Fit after → Has (retirement_after h v (step_result after s))
  follows_fit after h v Next low fit = (fit, tt)
  follows_fit after h v Call low fit = call_fit after h v fit
  follows_fit after h v (Fault cause) low fit = (fit, trap_low cause h after low fit)

  pub retire_fit : (g : Guest) (h v : ℕ) → h < 256 → Fit g → Has (retire g h v)
  unfolding retire
  retire_fit g h v low fit = follows_fit (step g h).guest h v (step g h).step low (step_fit g h fit)

-- ---- the first guest

numbers_fit : (address : ℕ) (ns : List ℕ) (m : MemoryMap) → HasOnlyBytes m → HasOnlyBytes (with_numbers address ns m)
unfolding with_numbers
numbers_fit address [] m all = all
numbers_fit address (n ∷ ns) m all = numbers_fit (address + 8) ns (with_number address 8 n m) (bytes_put address (bytes_low_first 0 8 n) m all (low_bytes 0 8 n))

entry_fit : (image : ImageParts) (m : MemoryMap) → HasOnlyBytes m → HasOnlyBytes (with_entry image m)
unfolding with_entry
entry_fit image m all = numbers_fit stack_pointer (entry_numbers image) (with_bytes (stack_top - 32) name m) (bytes_put (stack_top - 32) name m all (omega arith, (omega arith, (omega arith, (omega arith, tt)))))

areas_fit : (image : ImageParts) (areas : List Area) (m : MemoryMap) → AreBytes image.file → HasOnlyBytes m → HasOnlyBytes (fold (with_area image) m areas)
areas_fit image [] m are all = all
areas_fit image (area ∷ areas) m are all =
    areas_fit image areas (with_area image m area) are
    (bytes_put area.vaddr (area_bytes image area) (with_rights_from (page_of area.start) (page_of area.size) area.rights m)
    (rights_fit (page_of area.start) (page_of area.size) area.rights m all) (took area.filled (drop area.offset image.file) (dropped area.offset image.file are)))

memory_first : (image : ImageParts) (layout : Layout) → AreBytes image.file → HasOnlyBytes (first_memory image layout)
memory_first image layout are = rights_fit (page_of (stack_base layout)) (page_of layout.stack) read_and_write (fold (with_area image) (empty_memory image layout) image.areas) (areas_fit image image.areas (empty_memory image layout) are tt)

words_of_zeros : (n : ℕ) → AllByRecursion IsWord (replicate n 0)
words_of_zeros zero = tt
words_of_zeros (suc n) = (omega arith, words_of_zeros n)

none_held : (n : ℕ) → AllByRecursion AreBytes (replicate n [])
none_held zero = tt
none_held (suc n) = (tt, none_held n)

pub first_fit : (image : ImageParts) (input : List ℕ) (most : ℕ) (layout : Layout) → AreBytes image.file → IsWord image.entry → AreBytes input → IsFit most (first_guest image input most layout)
unfolding first_guest no_pipes
first_fit image input most layout are entry bytes = record {
  harts = (record { registers = set_all IsWord (replicate 32 0) 2 stack_pointer (words_of_zeros 32) (omega arith); pc = entry }, tt);
  memory = entry_fit image (first_memory image layout) (memory_first image layout are);
  input = bytes;
  pipes = none_held PIPES;
  output = omega arith;
  limit = refl;
}
