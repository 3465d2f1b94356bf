-- A guest: its harts, its address space, and what it reads and writes.
use Rattle.std.specs.Prelude.{ℕ, ◌+◌, ◌<◌, Bool, true, false, ◌||◌, if◌then◌else◌, List, [], ◌∷◌, ◌++◌, get_or, set, replicate, length, take}
use Rattle.std.specs.List.{list_all}
use Rattle.coz_types.specs.Image.{ImageParts}
use Rattle.guest_memory.specs.declared.Layout.{Layout}
use Rattle.guest_memory.specs.Memory.{MemoryMap, with_bytes}
use Rattle.guest_areas.specs.Space.{Space, space}
use Rattle.guest_areas.specs.Entry.{stack_pointer, first_space}
use Rattle.guest_futex.specs.Waiters.{Waiter}
use Rattle.guest_pipes.specs.Pipes.{PipeMap, no_pipes}
use Rattle.rv_execute.specs.declared.hart.HartState.{HartState}
use Rattle.rv_execute.specs.Reservations.{Reservations, without_touched}
use Rattle.rv_execute.specs.Execution.{Setting, setting}
use Rattle.guest_calls.specs.declared.hart.Hart.{Hart}
use Rattle.guest_calls.specs.declared.hart.HartStatus.{HartStatus}
use Rattle.guest_calls.specs.declared.hart.HartStatus.TheVariants.{Running, Sleeping, Gone}

pub record Guest : Type 0 where
  -- by number
  pub harts : List Hart
  pub space : Space
  pub reservations : Reservations
  -- the oldest first
  pub waiters : List Waiter
  pub pipes : PipeMap
  -- the input that is left, and all of it
  pub input : List ℕ
  pub whole_input : List ℕ
  pub output : List ℕ
  pub output_limit : ℕ

-- what a guest was made with
pub record Making : Type 0 where
  pub image : ImageParts
  pub layout : Layout
  pub input : List ℕ
  pub output_limit : ℕ

abbrev pub is_running_status : HartStatus → Bool
is_running_status Running = true
is_running_status _ = false

abbrev pub is_sleeping_status : HartStatus → Bool
is_sleeping_status Sleeping = true
is_sleeping_status _ = false

abbrev pub is_gone_status : HartStatus → Bool
is_gone_status Gone = true
is_gone_status _ = false

-- a hart that runs with these registers from a pc on
abbrev pub hart_from : HartState → ℕ → Hart
hart_from state clear = record { state = state; status = Running; clear = clear }

abbrev pub no_hart : Hart
no_hart = record { state = record { registers = []; pc = 0 }; status = Gone; clear = 0 }

abbrev pub hart_at : Guest → ℕ → Hart
hart_at g h = get_or g.harts h no_hart

-- a hart of this number was made
abbrev pub IsMade : Guest → ℕ → Type 0
IsMade g h = h < length g.harts

abbrev pub with_hart : ℕ → Hart → Guest → Guest
with_hart h hart g = record g { harts = set g.harts h hart }

abbrev pub state_of : Guest → ℕ → HartState
state_of g h = (hart_at g h).state

abbrev pub pc_of : Guest → ℕ → ℕ
pc_of g h = (state_of g h).pc

abbrev pub with_state : ℕ → HartState → Guest → Guest
with_state h state g = with_hart h (record (hart_at g h) { state = state }) g

-- these harts run
abbrev pub with_running_each : List ℕ → List Hart → List Hart
with_running_each [] harts = harts
with_running_each (h ∷ hs) harts =
    with_running_each hs (set harts h (record (get_or harts h no_hart) { status = Running }))

abbrev pub with_running : List ℕ → Guest → Guest
with_running hs g = record g { harts = with_running_each hs g.harts }

abbrev pub is_running : Guest → ℕ → Bool
is_running g h = is_running_status (hart_at g h).status

abbrev pub is_sleeping : Guest → ℕ → Bool
is_sleeping g h = is_sleeping_status (hart_at g h).status

-- it has a moment at which its turn comes
abbrev pub is_timed : Guest → ℕ → Bool
is_timed g h = is_sleeping g h || is_running g h

-- how many of these harts sleep
abbrev pub sleepers_of : List Hart → ℕ
sleepers_of [] = 0
sleepers_of (hart ∷ harts) = sleepers_of harts + (if is_sleeping_status hart.status then 1 else 0)

abbrev pub sleepers : Guest → ℕ
sleepers g = sleepers_of g.harts

-- a hart that slept runs
abbrev pub with_wake : ℕ → Guest → Guest
with_wake h g = with_hart h (record (hart_at g h) { status = Running }) g

-- each hart is gone
abbrev pub is_over : Guest → Bool
is_over g = list_all (λ hart. is_gone_status hart.status) g.harts

abbrev pub thread_id : ℕ → ℕ
thread_id h = h + 1

abbrev pub memory_of : Guest → MemoryMap
memory_of g = g.space.memory

abbrev pub making : Guest → Making
making g = record {
  image = (memory_of g).image;
  layout = (memory_of g).layout;
  input = g.whole_input;
  output_limit = g.output_limit;
}

abbrev pub with_memory : MemoryMap → Guest → Guest
with_memory memory g = record g { space = space g.space.regions memory }

-- bytes are stored from an address on
abbrev pub with_stored : ℕ → List ℕ → Guest → Guest
with_stored address bytes g =
    record (with_memory (with_bytes address bytes (memory_of g)) g) {
      reservations = without_touched address (length bytes) g.reservations;
    }

-- bytes are written, up to the limit
abbrev pub with_written : List ℕ → Guest → Guest
with_written bytes g = record g { output = take g.output_limit (g.output ++ bytes) }

abbrev pub setting_of : Guest → ℕ → Setting
setting_of g h = setting (state_of g h) (memory_of g) g.reservations

abbrev pub with_setting : ℕ → Setting → Guest → Guest
with_setting h s g = record (with_memory s.memory (with_state h s.hart g)) {
  reservations = s.reservations;
}

-- the first hart of a program: its stack pointer is x2
abbrev pub first_hart : ImageParts → Hart
first_hart image =
    hart_from (record { registers = set (replicate 32 0) 2 stack_pointer; pc = image.entry }) 0

unfoldable pub first_guest : ImageParts → List ℕ → ℕ → Layout → Guest
first_guest image input output_limit layout = record {
  harts = first_hart image ∷ [];
  space = first_space image layout;
  reservations = [];
  waiters = [];
  pipes = no_pipes;
  input = input;
  whole_input = input;
  output = [];
  output_limit = output_limit;
}
