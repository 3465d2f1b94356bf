-- Coz's guest on a machine of the timing model: beside it stands what the machine keeps.
use Rattle.std.specs.Prelude.{ℕ, Bool, not, ◌&&◌, ◌||◌, List, Option}
use Rattle.coz_types.specs.Image.{ImageParts}
use Rattle.line_index.specs.Index.{Index, position_at}
use Rattle.machines.specs.Places.{is_among}
use Rattle.guest_memory.specs.declared.Layout.{Layout}
use Rattle.guest_calls.specs.Guest as guests
use Rattle.timing_model.specs.declared.timing.Timing.{Timing}
use Rattle.timing_steps.specs.State.{State, first_state, after_wake}

-- The timing and the index stay the same in a run.
pub record Timed : Type 0 where
  pub guest : guests.Guest
  -- the timing, the notes of each hart, and who has a core
  pub beside : State
  -- the lines of its addresses
  pub index : Index

-- what it was made with
pub record Making : Type 0 where
  pub guest : guests.Making
  pub timing : Timing
  pub index : Index

abbrev pub making : Timed → Making
making t = record {
  guest = guests.making t.guest;
  timing = t.beside.timing;
  index = t.index;
}

-- a hart of this number was made
abbrev pub IsMade : Timed → ℕ → Type 0
IsMade t h = guests.IsMade t.guest h

abbrev pub pc_of : Timed → ℕ → ℕ
pc_of t h = guests.pc_of t.guest h

-- the line of an address
abbrev pub line_at : Timed → ℕ → Option ℕ
line_at t a = position_at t.index a

-- a hart stands in line for a core
abbrev pub is_in_line : Timed → ℕ → Bool
is_in_line t h = is_among h t.beside.seats.ready

-- it runs, and has a core
abbrev pub is_running : Timed → ℕ → Bool
is_running t h = guests.is_running t.guest h && not (is_in_line t h)

abbrev pub is_sleeping : Timed → ℕ → Bool
is_sleeping t h = guests.is_sleeping t.guest h && not (is_in_line t h)

-- it has a moment at which its turn comes
abbrev pub is_timed : Timed → ℕ → Bool
is_timed t h = is_sleeping t h || is_running t h

-- how many harts sleep
abbrev pub sleepers : Timed → ℕ
sleepers t = guests.sleepers t.guest

-- a hart that slept runs, and has a core at once
abbrev pub with_wake : ℕ → Timed → Timed
with_wake h t = record t {
  guest = guests.with_wake h t.guest;
  beside = after_wake t.beside;
}

unfoldable pub first_guest : ImageParts → List ℕ → ℕ → Layout → Timing → Index → Timed
first_guest image input output_limit layout timing index = record {
  guest = guests.first_guest image input output_limit layout;
  beside = first_state timing;
  index = index;
}
