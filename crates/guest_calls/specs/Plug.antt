-- The guest, as the machines see it.
use Rattle.std.specs.Prelude.{ℕ, Bool, Option}
use Rattle.machines.specs.Guest as machines
use Rattle.cost_table.specs.Costs.{cycles_of}
use Rattle.guest_calls.specs.Guest.{Guest, pc_of, is_running, is_sleeping, with_wake, sleepers}
use Rattle.guest_calls.specs.Retire.{next_of, retire}

-- some addresses have the selected line, and some are entries of progress points
abbrev pub plug : (ℕ → Bool) → (ℕ → Option ℕ) → machines.Guest Guest
plug has_selected point_at = record {
  retire = retire;
  is_running = is_running;
  is_sleeping = is_sleeping;
  wake = λ g h. with_wake h g;
  sleepers = sleepers;
  cycles = λ g h. cycles_of (next_of g h);
  is_selected = λ g h. has_selected (pc_of g h);
  point = λ g h. point_at (pc_of g h);
  output = λ g. g.output;
}
