-- What holds between retirements on a machine of the timing model.
use Rattle.std.specs.Prelude.{◌≡◌, ℕ, true, false}
use Rattle.machines.specs.Places.{AllApart}
use Rattle.guest_calls.specs.Guest as guests
use Rattle.guest_calls.specs.Orderly as own
use Rattle.timing_steps.specs.State.{keeps}
use Rattle.timed_guest.specs.Guest.{Timed, is_in_line}

pub record IsOrderly (t : Timed) : Type 0 where
  pub guest : own.IsOrderly t.guest
  -- each hart in line is there once, and the guest times it
  pub apart : AllApart t.beside.seats.ready
  pub timed : (h : ℕ) → is_in_line t h ≡ true → guests.is_timed t.guest h ≡ true
  -- nobody stands in line on a machine that keeps nothing
  pub nobody : keeps t.beside.timing ≡ false → (h : ℕ) → is_in_line t h ≡ false
