-- What the fields of `Guest` hold, and what is true of them.
use Rattle.std.specs.Prelude.{ℕ, ◌≤◌, List, length}
use Rattle.coz_types.specs.declared.TheConstants.{HARTS}
use Rattle.machines.specs.Places.{AllApart}
use Rattle.guest_memory.specs.Memory.{MemoryMap}
use Rattle.guest_areas.specs.Space.{RegionMap, space, SharesRegions}
use Rattle.hart_steps.specs.Code.{CodeMap, IsCodeOf}
use Rattle.guest_futex.specs.Waiters.{Waiter}
use Rattle.guest_pipes.specs.Pipes.{PipeMap}
use Rattle.guest_pipes.specs.declared.waiters.PipeWaiter.{PipeWaiter}
use Rattle.rv_execute.specs.Reservations.{Reservations}
use Rattle.guest_calls.specs.declared.hart.Hart.{Hart}
use Rattle.guest_calls.specs.Output.{Written}
use Rattle.guest_calls.specs.Guest.{Guest}
use Rattle.guest_calls.specs.Orderly.{waiting_harts, AreWaiting}

abbrev pub guest_of : List Hart → RegionMap → MemoryMap → Reservations → List Waiter → PipeMap
    → List ℕ → List ℕ → Written → Guest
guest_of harts regions memory reservations waiters pipes input whole_input written = record {
  harts = harts;
  space = space regions memory;
  reservations = reservations;
  waiters = waiters;
  pipes = pipes;
  input = input;
  whole_input = whole_input;
  output = written.bytes;
  output_limit = written.limit;
}

-- what was made of the image and the layout of the memory
pub record Parts : Type 0 where
  pub regions : RegionMap
  pub code : CodeMap

pub record AreShared (parts : Parts) (memory : MemoryMap) : Type 0 where
  pub regions : SharesRegions parts.regions memory
  pub code : IsCodeOf parts.code memory

pub record IsKept (harts : List Hart) (capacity : ℕ) (waiters : List Waiter)
    (pipe_waiters : List PipeWaiter) (parts : Parts) (memory : MemoryMap) : Type 0 where
  pub few : length harts ≤ HARTS
  -- no call takes memory
  pub room : HARTS ≤ capacity
  pub waiting : AreWaiting harts (waiting_harts waiters pipe_waiters)
  -- no hart waits twice
  pub apart : AllApart (waiting_harts waiters pipe_waiters)
  pub shared : AreShared parts memory
