-- The seats that are held, as the laws write them.
use Rattle.std.specs.Prelude.{◌≡◌, ℕ, ◌+◌, List, ◌∷◌}
use Rattle.machines.specs.Places.{change}
use Rattle.machines.specs.declared.Fate.{Fate}
use Rattle.timing_laws.specs.Cores.{Seats, Turned}
use Rattle.timing_state.specs.declared.seats.Seats.{Seats as HeldSeats}

abbrev pub seats_of : HeldSeats → Seats
seats_of s = record { ready = s.ready; on = s.on; slice_ends = s.slice_ends }

-- what a retirement came to
abbrev pub turned : HeldSeats → Fate → List ℕ → Turned
turned s fate others = record { seats = seats_of s; fate = fate; others = others }

-- these seats are those, with the first in line on a core
pub record Starts (moment h : ℕ) (s t : Seats) : Type 0 where
  pub ready : s.ready ≡ h ∷ t.ready
  pub on : t.on ≡ s.on + 1
  pub slice_ends : t.slice_ends ≡ change 0 h (λ _. moment) s.slice_ends
