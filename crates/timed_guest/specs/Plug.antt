-- The guest on a machine of the timing model, as the machines see it.
use Rattle.std.specs.Prelude.{ℕ, Option}
use Rattle.machines.specs.Guest as machines
use Rattle.timed_guest.specs.Guest.{Timed, pc_of, is_running, is_sleeping, with_wake, sleepers}
use Rattle.timed_guest.specs.Retire.{retire, cycles_of_next, is_selected_by}

-- a line is selected or none, and some addresses are entries of progress points
abbrev pub plug : Option ℕ → (ℕ → Option ℕ) → machines.Guest Timed
plug selected point_at = record {
  retire = retire;
  is_running = is_running;
  is_sleeping = is_sleeping;
  wake = λ t h. with_wake h t;
  sleepers = sleepers;
  cycles = cycles_of_next;
  is_selected = is_selected_by selected;
  point = λ t h. point_at (pc_of t h);
  output = λ t. t.guest.output;
}
