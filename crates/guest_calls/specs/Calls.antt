-- The system calls of a guest (Linux on riscv64): each by its number in a7, with its arguments
-- in a0 to a5 and its answer in a0. The checks of each are in the order in which they are made.
use Rattle.std.specs.Prelude.{ℕ, zero, suc, ◌+◌, ◌-◌, ◌*◌, ◌%◌, ◌^◌, Bool, not, ◌&&◌, ◌||◌, if◌then◌else◌, nat_le, nat_lt, ◌==◌, min, max, List, [], ◌∷◌, ◌++◌, length, take, drop, replicate, Some, None, is_some, ℤ, pos, negsuc, slice_index}
use Rattle.std.specs.Int.{w32, to_le_bytes}
use Rattle.std.specs.Int.RustNames.{bit_and, bit_or}
use Rattle.std.specs.List.{list_all}
use Rattle.coz_types.specs.declared.TheConstants.{HARTS}
use Rattle.coz_types.specs.declared.ending.Ending.TheVariants.{Exited, Unsupported, Clock}
use Rattle.coz_types.specs.Maps.{Map, value_at}
use Rattle.machines.specs.declared.Fate.{Fate}
use Rattle.machines.specs.declared.Fate.TheVariants.{Goes, Waits, Leaves, Sleeps, Ends}
use Rattle.machines.specs.Guest.{Retirement}
use Rattle.rv_decode.specs.Fields.{twos_complement, signed_bits}
use Rattle.guest_memory.specs.Memory.{MemoryMap, is_readable, is_writable, number_at, bytes_at}
use Rattle.guest_areas.specs.Answers.{bad_file, try_again, no_memory, bad_address, invalid_argument, too_many_files, no_terminal, no_seek, broken_pipe}
use Rattle.guest_areas.specs.Space.{Space, Answered, has_power, with_break, map, unmap, protect}
use Rattle.guest_futex.specs.Waiters.{with_waiter, woken_harts, waiters_left}
use Rattle.guest_pipes.specs.declared.ends.PipeEnd.TheVariants.{Reading, Writing}
use Rattle.guest_pipes.specs.declared.Ready.TheVariants.{Now, Closed, Wait}
use Rattle.guest_pipes.specs.Pipes.{PipeMap, kind_at, can_make, made, made_numbers, readiness, held, woken_for, taken, put, waiting, closed}
use Rattle.guest_pipes.specs.Pipes as pipes
use Rattle.rv_execute.specs.declared.hart.HartState.{HartState}
use Rattle.rv_execute.specs.Execution.{with_register}
use Rattle.guest_calls.specs.declared.hart.Hart.{Hart}
use Rattle.guest_calls.specs.declared.hart.HartStatus.TheVariants.{Waiting, Sleeping, Gone}
use Rattle.guest_calls.specs.declared.pieces.TheConstants.{PIECES}
use Rattle.guest_calls.specs.declared.pieces.Piece.{Piece}
use Rattle.guest_calls.specs.Answering.{after_call, with_result}
use Rattle.guest_calls.specs.Times.{span_at, span_bytes, wake_moment, last_moment, clock_at}
use Rattle.guest_calls.specs.Guest.{Guest, hart_from, hart_at, state_of, with_hart, with_state, with_running, is_over, thread_id, memory_of, with_stored, with_written}

abbrev pub retirement : Guest → Fate → List ℕ → Retirement Guest
retirement guest fate others = record { guest = guest; fate = fate; others = others }

-- the piece that the pair of numbers at an address names
abbrev pub piece_at : MemoryMap → ℕ → Piece
piece_at m address = record {
  address = number_at m address 8;
  length = number_at m (address + 8) 8;
}

abbrev pub pieces_at : MemoryMap → ℕ → ℕ → List Piece
pieces_at m address zero = []
pieces_at m address (suc count) = piece_at m address ∷ pieces_at m (address + 16) count

-- the part of each piece that n bytes fill, in order
abbrev pub filled_parts : List Piece → ℕ → List Piece
filled_parts [] n = []
filled_parts (p ∷ ps) n =
    record { address = p.address; length = min p.length n } ∷ filled_parts ps (n - p.length)

abbrev pub total : List Piece → ℕ
total [] = 0
total (p ∷ ps) = p.length + total ps

abbrev pub is_each_writable : MemoryMap → List Piece → Bool
is_each_writable m ps = list_all (λ p. is_writable m p.address p.length) ps

abbrev pub is_each_readable : MemoryMap → List Piece → Bool
is_each_readable m ps = list_all (λ p. is_readable m p.address p.length) ps

abbrev pub bytes_of : MemoryMap → List Piece → List ℕ
bytes_of m [] = []
bytes_of m (p ∷ ps) = bytes_at m p.address p.length ++ bytes_of m ps

-- the next `count` bytes of the input are stored from an address on
abbrev pub with_filled : ℕ → ℕ → Guest → Guest
with_filled address count g =
    with_stored address (take count g.input) (record g { input = drop count g.input })

-- the input fills the pieces
abbrev pub with_read : List Piece → Guest → Guest
with_read [] g = g
with_read (p ∷ ps) g = with_read ps (with_filled p.address p.length g)

-- the file number of the input, or of an output
abbrev pub is_stream : ℕ → Bool
is_stream number = nat_lt number 3

abbrev pub is_input : ℕ → Bool
is_input number = number == 0

abbrev pub is_output : ℕ → Bool
is_output number = number == 1 || number == 2

-- the file number of an end of a pipe
abbrev pub is_reading_end : ℕ → Guest → Bool
is_reading_end number g = pipes.is_end_kind Reading (kind_at number g.pipes)

abbrev pub is_writing_end : ℕ → Guest → Bool
is_writing_end number g = pipes.is_end_kind Writing (kind_at number g.pipes)

abbrev pub is_end : ℕ → Guest → Bool
is_end number g = is_some (kind_at number g.pipes)

-- a file number that is open
abbrev pub is_file : ℕ → Guest → Bool
is_file number g = is_stream number || is_end number g

-- private and anonymous, or shared and anonymous, at no fixed address
abbrev pub is_mapping : ℕ → Bool
is_mapping flags =
    has_power flags 0x20 && not (has_power flags 0x10) && (flags % 4 == 1 || flags % 4 == 2)

-- the flags that a clone must have: memory, files and handlers are shared,
-- and the child is a thread
abbrev pub required_flags : ℕ
required_flags = 0x10F00

abbrev pub set_tls : ℕ
set_tls = 0x80000

abbrev pub parent_set_tid : ℕ
parent_set_tid = 0x100000

abbrev pub child_clear_tid : ℕ
child_clear_tid = 0x200000

abbrev pub child_set_tid : ℕ
child_set_tid = 0x1000000

-- those that it may have: a signal in the low 8 bits, SYSVSEM and DETACHED,
-- which change nothing, and those above
abbrev pub accepted_flags : ℕ
accepted_flags =
    0xFF + required_flags + 0x40000 + 0x400000 + set_tls + parent_set_tid
    + child_clear_tid + child_set_tid

abbrev pub is_accepted : ℕ → Bool
is_accepted flags =
    bit_and flags required_flags == required_flags && bit_or flags accepted_flags == accepted_flags

-- a word is stored, if its 4 bytes may be written
abbrev pub with_word : ℕ → ℕ → Guest → Guest
with_word address n g =
    if is_writable (memory_of g) address 4 then with_stored address (to_le_bytes w32 n) g else g

-- the oldest harts that wait for an address run, at most `count`
abbrev pub with_woken : ℕ → ℕ → Guest → Guest
with_woken address count g =
    with_running (woken_harts address g.waiters count)
    (record g { waiters = waiters_left address g.waiters count })

-- O_CLOEXEC, or none
abbrev pub is_pipe_flags : ℕ → Bool
is_pipe_flags flags = flags == 0 || flags == 0x80000

-- the numbers of a pipe's ends, 4 bytes each
abbrev pub number_bytes : ℕ × ℕ → List ℕ
number_bytes numbers = to_le_bytes w32 numbers.0 ++ to_le_bytes w32 numbers.1

-- the pipes change, and those that waited for them run
abbrev pub with_pipes : PipeMap → List ℕ → Guest → Guest
with_pipes pipes woken g = with_running woken (record g { pipes = pipes })

-- how many a wake takes at most
abbrev pub wake_count : ℤ → ℕ
wake_count (pos n) = max n 1
wake_count (negsuc n) = 1

-- a7, which is x17
abbrev pub number : Guest → ℕ → ℕ
number g h = slice_index (state_of g h).registers 17

-- a0 is x10
abbrev pub argument : Guest → ℕ → ℕ → ℕ
argument g h i = slice_index (state_of g h).registers (10 + i)

-- the hart has these 64 bits as its answer, and goes on
abbrev pub with_reply : ℕ → ℕ → Guest → Retirement Guest
with_reply n h g = retirement (with_state h (with_result n (state_of g h)) g) Goes []

abbrev pub with_answer : ℤ → ℕ → Guest → Retirement Guest
with_answer z h g = with_reply (twos_complement 64 z) h g

-- the same, and it starts these others
abbrev pub with_answer_and : ℤ → ℕ → List ℕ → Guest → Retirement Guest
with_answer_and z h others g = record (with_answer z h g) { others = others }

-- the guest after a hart has left
abbrev pub left_by : ℕ → Guest → Guest
left_by h g =
    with_hart h (record (hart_at g h) { state = after_call (state_of g h); status = Gone }) g

-- a hart leaves; if it is the last, the run ends
abbrev pub leave : ℕ → List ℕ → Guest → Retirement Guest
leave h others g =
    retirement (left_by h g)
    (if is_over (left_by h g) then Ends (Exited (argument g h 0 % 256)) else Leaves) others

-- a call of hart h
module _ (g : Guest) (h : ℕ) where
  abbrev pub a0 : ℕ
  a0 = argument g h 0

  abbrev pub a1 : ℕ
  a1 = argument g h 1

  abbrev pub a2 : ℕ
  a2 = argument g h 2

  abbrev pub a3 : ℕ
  a3 = argument g h 3

  abbrev pub a4 : ℕ
  a4 = argument g h 4

  abbrev pub answer : ℤ → Retirement Guest
  answer z = with_answer z h g

  -- the run ends
  abbrev pub unsupported : Retirement Guest
  unsupported = retirement g (Ends (Unsupported (number g h))) []

  abbrev pub of_space : Answered → Retirement Guest
  of_space a = with_answer a.answer h (record g { space = a.space })

  unfoldable pub ioctl : Retirement Guest
  ioctl = if is_file a0 g then answer no_terminal else answer bad_file

  unfoldable pub lseek : Retirement Guest
  lseek = if is_file a0 g then answer no_seek else answer bad_file

  -- the bytes that a read takes
  abbrev pub read_length : ℕ
  read_length = min a2 (length g.input)

  unfoldable pub read_input : Retirement Guest
  read_input =
      if not (is_writable (memory_of g) a1 read_length) then answer bad_address
      else with_answer (pos read_length) h (with_filled a1 read_length g)

  -- the hart waits at the end that a0 is, at its ecall and with all registers as they were
  abbrev pub waiting_for_pipe : Guest
  waiting_for_pipe =
      with_hart h (record (hart_at g h) { status = Waiting })
      (record g { pipes = waiting a0 h g.pipes })

  -- n bytes are taken from the pipe, and all that wait for its room are woken
  abbrev pub with_taken : ℕ → Guest
  with_taken n =
      with_pipes (taken a0 n g.pipes) (woken_for Writing a0 g.pipes)
      (with_stored a1 (take n (held a0 g.pipes)) g)

  unfoldable pub read_now : ℕ → Retirement Guest
  read_now n =
      if not (is_writable (memory_of g) a1 n) then answer bad_address
      else with_answer_and (pos n) h (woken_for Writing a0 g.pipes) (with_taken n)

  unfoldable pub read_pipe : Retirement Guest
  read_pipe =
      if a2 == 0 then answer (pos 0)
      else elim (readiness a0 a2 g.pipes) [
        | Now n ↦ read_now n
        | Closed ↦ answer (pos 0)
        | Wait ↦ retirement waiting_for_pipe Waits []
      ]

  unfoldable pub read : Retirement Guest
  read =
      if is_input a0 then read_input
      else if is_reading_end a0 g then read_pipe
      else answer bad_file

  unfoldable pub write_output : Retirement Guest
  write_output =
      if not (is_readable (memory_of g) a1 a2) then answer bad_address
      else with_answer (pos a2) h (with_written (bytes_at (memory_of g) a1 a2) g)

  -- n bytes are put into the pipe, and all that wait for its bytes are woken
  abbrev pub with_put : ℕ → Guest
  with_put n =
      with_pipes (put a0 (bytes_at (memory_of g) a1 n) g.pipes) (woken_for Reading a0 g.pipes) g

  unfoldable pub write_now : ℕ → Retirement Guest
  write_now n = with_answer_and (pos n) h (woken_for Reading a0 g.pipes) (with_put n)

  unfoldable pub write_pipe : Retirement Guest
  write_pipe =
      if a2 == 0 then answer (pos 0)
      else elim (readiness a0 a2 g.pipes) [
        | Now n ↦ if not (is_readable (memory_of g) a1 a2) then answer bad_address else write_now n
        | Closed ↦ answer broken_pipe
        | Wait ↦
            if not (is_readable (memory_of g) a1 a2) then answer bad_address
            else retirement waiting_for_pipe Waits []
      ]

  unfoldable pub write : Retirement Guest
  write =
      if is_output a0 then write_output
      else if is_writing_end a0 g then write_pipe
      else answer bad_file

  -- those that wait for the bytes of the pipe, and then those that wait for its room
  abbrev pub woken_at_close : List ℕ
  woken_at_close = woken_for Reading a0 g.pipes ++ woken_for Writing a0 g.pipes

  unfoldable pub close : Retirement Guest
  close =
      if is_stream a0 then unsupported
      else if not (is_end a0 g) then answer bad_file
      else with_answer_and (pos 0) h woken_at_close (with_pipes (closed a0 g.pipes) woken_at_close g)

  unfoldable pub pipe2 : Retirement Guest
  pipe2 =
      if not (is_pipe_flags a1) then unsupported
      else if not (is_writable (memory_of g) a0 8) then answer bad_address
      else if not (can_make g.pipes) then answer too_many_files
      else with_answer (pos 0) h
      (with_stored a0 (number_bytes (made_numbers g.pipes)) (record g { pipes = made g.pipes }))

  -- no more pieces than these are named
  abbrev pub are_few : Bool
  are_few = nat_le a2 PIECES

  -- a2 pairs at a1 name the pieces
  abbrev pub is_named : Bool
  is_named = is_readable (memory_of g) a1 (16 * a2)

  unfoldable pub read_pieces : List Piece → Retirement Guest
  read_pieces ps =
      if not (is_each_writable (memory_of g) (filled_parts ps (length g.input)))
      then answer bad_address
      else with_answer (pos (total (filled_parts ps (length g.input)))) h
      (with_read (filled_parts ps (length g.input)) g)

  unfoldable pub readv : Retirement Guest
  readv =
      if is_end a0 g then unsupported
      else if not (is_input a0) then answer bad_file
      else if not are_few then answer invalid_argument
      else if not is_named then answer bad_address
      else read_pieces (pieces_at (memory_of g) a1 a2)

  unfoldable pub write_pieces : List Piece → Retirement Guest
  write_pieces ps =
      if not (is_each_readable (memory_of g) ps) then answer bad_address
      else with_answer (pos (total ps)) h (with_written (bytes_of (memory_of g) ps) g)

  unfoldable pub writev : Retirement Guest
  writev =
      if is_end a0 g then unsupported
      else if not (is_output a0) then answer bad_file
      else if not are_few then answer invalid_argument
      else if not is_named then answer bad_address
      else write_pieces (pieces_at (memory_of g) a1 a2)

  unfoldable pub exit_group : Retirement Guest
  exit_group = retirement g (Ends (Exited (a0 % 256))) []

  abbrev pub clear_address : ℕ
  clear_address = (hart_at g h).clear

  abbrev pub is_cleared : Bool
  is_cleared = not (clear_address == 0) && is_writable (memory_of g) clear_address 4

  -- the oldest hart that waits for the clear address
  abbrev pub woken_at_exit : List ℕ
  woken_at_exit = woken_harts clear_address g.waiters 1

  -- the clear address has 0, and its oldest waiter is woken
  abbrev pub cleared : Guest
  cleared = with_woken clear_address 1 (with_stored clear_address (replicate 4 0) g)

  unfoldable pub exit : Retirement Guest
  exit = if is_cleared then leave h woken_at_exit cleared else leave h [] g

  unfoldable pub set_tid_address : Retirement Guest
  set_tid_address =
      with_answer (pos (thread_id h)) h (with_hart h (record (hart_at g h) { clear = a0 }) g)

  -- the hart waits for an address, and has 0 as its answer once it is woken
  abbrev pub waiting_for : ℕ → Guest
  waiting_for address =
      with_hart h (record (hart_at g h) { state = with_result 0 (state_of g h); status = Waiting })
      (record g { waiters = with_waiter address h g.waiters })

  unfoldable pub wait : Retirement Guest
  wait =
      if not (a3 == 0) then unsupported
      else if not (a0 % 4 == 0) then answer invalid_argument
      else if not (is_readable (memory_of g) a0 4) then answer bad_address
      else if not (number_at (memory_of g) a0 4 == a2 % 2 ^ 32) then answer try_again
      else retirement (waiting_for a0) Waits []

  abbrev pub most_woken : ℕ
  most_woken = wake_count (signed_bits 32 (a2 % 2 ^ 32))

  -- the harts that a wake on a0 wakes
  abbrev pub woken_here : List ℕ
  woken_here = woken_harts a0 g.waiters most_woken

  unfoldable pub wake : Retirement Guest
  wake =
      if not (a0 % 4 == 0) then answer invalid_argument
      else record (with_answer (pos (length woken_here)) h (with_woken a0 most_woken g)) {
        others = woken_here;
      }

  -- 0 waits and 1 wakes; the flag 128 says that the waiters are threads of one program
  unfoldable pub futex : Retirement Guest
  futex = if a1 == 0 || a1 == 128 then wait else if a1 == 1 || a1 == 129 then wake else unsupported

  -- the hart sleeps, and has 0 as its answer
  abbrev pub asleep : Guest
  asleep =
      with_hart h (record (hart_at g h) { state = with_result 0 (state_of g h); status = Sleeping })
      g

  abbrev pub sleep_until : ℕ → Retirement Guest
  sleep_until moment =
      if nat_lt last_moment moment then retirement g (Ends Clock) []
      else retirement asleep (Sleeps moment) []

  -- at net time v
  unfoldable pub nanosleep : ℕ → Retirement Guest
  nanosleep v =
      if not (is_readable (memory_of g) a0 16) then answer bad_address
      else elim (span_at (memory_of g) a0) [
        | None ↦ answer invalid_argument
        | Some span ↦ sleep_until (wake_moment v span)
      ]

  -- at net time v
  unfoldable pub clock_gettime : ℕ → Retirement Guest
  clock_gettime v =
      if not (a0 == 0 || a0 == 1) then unsupported
      else if not (is_writable (memory_of g) a1 16) then answer bad_address
      else with_answer (pos 0) h (with_stored a1 (span_bytes (clock_at v)) g)

  -- the number of the hart that is made next
  abbrev pub child : ℕ
  child = length g.harts

  abbrev pub child_stack : HartState → HartState
  child_stack state = if a1 == 0 then state else with_register 2 a1 state

  abbrev pub child_tls : HartState → HartState
  child_tls state = if has_power a0 set_tls then with_register 4 a3 state else state

  -- it goes on after the call, whose result is 0
  abbrev pub child_hart : Hart
  child_hart =
      hart_from (child_tls (child_stack (with_result 0 (state_of g h))))
      (if has_power a0 child_clear_tid then a4 else 0)

  abbrev pub with_child : Guest
  with_child = record g { harts = g.harts ++ child_hart ∷ [] }

  abbrev pub with_parent_tid : Guest → Guest
  with_parent_tid changed =
      if has_power a0 parent_set_tid then with_word a2 (thread_id child) changed else changed

  abbrev pub with_child_tid : Guest → Guest
  with_child_tid changed =
      if has_power a0 child_set_tid then with_word a4 (thread_id child) changed else changed

  -- the guest with the child, whose thread id is stored if the flags ask for it
  abbrev pub cloned : Guest
  cloned = with_child_tid (with_parent_tid with_child)

  unfoldable pub clone : Retirement Guest
  clone =
      if not (is_accepted a0) then unsupported
      else if nat_le HARTS (length g.harts) then answer try_again
      else record (with_answer (pos (thread_id child)) h cloned) { others = child ∷ [] }

  unfoldable pub sched_yield : Retirement Guest
  sched_yield = answer (pos 0)

  unfoldable pub getpid : Retirement Guest
  getpid = answer (pos 1)

  unfoldable pub gettid : Retirement Guest
  gettid = answer (pos (thread_id h))

  unfoldable pub rt_sigprocmask : Retirement Guest
  rt_sigprocmask =
      if not (a3 == 8) then answer invalid_argument
      else if a2 == 0 then answer (pos 0)
      else if not (is_writable (memory_of g) a2 8) then answer bad_address
      else with_answer (pos 0) h (with_stored a2 (replicate 8 0) g)

  unfoldable pub brk : Retirement Guest
  brk = let space : Space = with_break a0 g.space in
      with_answer (pos space.regions.break) h (record g { space = space })

  unfoldable pub munmap : Retirement Guest
  munmap = of_space (unmap a0 a1 g.space)

  unfoldable pub mremap : Retirement Guest
  mremap = answer no_memory

  unfoldable pub mmap : Retirement Guest
  mmap = if is_mapping a3 then of_space (map a1 a2 g.space) else unsupported

  unfoldable pub mprotect : Retirement Guest
  mprotect = of_space (protect a0 a1 a2 g.space)

  unfoldable pub madvise : Retirement Guest
  madvise = answer invalid_argument

-- a call that doesn't read the net time
abbrev pub at_any_time : (Guest → ℕ → Retirement Guest) → Guest → ℕ → ℕ → Retirement Guest
at_any_time call g h v = call g h

-- each call by its number
abbrev pub calls : Map (Guest → ℕ → ℕ → Retirement Guest)
calls =
    (29, at_any_time ioctl)
    ∷ (57, at_any_time close)
    ∷ (59, at_any_time pipe2)
    ∷ (62, at_any_time lseek)
    ∷ (63, at_any_time read)
    ∷ (64, at_any_time write)
    ∷ (65, at_any_time readv)
    ∷ (66, at_any_time writev)
    ∷ (93, at_any_time exit)
    ∷ (94, at_any_time exit_group)
    ∷ (96, at_any_time set_tid_address)
    ∷ (98, at_any_time futex)
    ∷ (101, nanosleep)
    ∷ (113, clock_gettime)
    ∷ (124, at_any_time sched_yield)
    ∷ (135, at_any_time rt_sigprocmask)
    ∷ (172, at_any_time getpid)
    ∷ (178, at_any_time gettid)
    ∷ (214, at_any_time brk)
    ∷ (215, at_any_time munmap)
    ∷ (216, at_any_time mremap)
    ∷ (220, at_any_time clone)
    ∷ (222, at_any_time mmap)
    ∷ (226, at_any_time mprotect)
    ∷ (233, at_any_time madvise)
    ∷ []

-- the retirement of a hart at an ecall, at a net time
unfoldable pub call_of : Guest → ℕ → ℕ → Retirement Guest
call_of g h v = elim (value_at calls (number g h)) [
  | None ↦ unsupported g h
  | Some call ↦ call g h v
]
