-- How large the numbers grow that a machine of the timing model keeps.
use Rattle.std.specs.Prelude.{ℕ, ◌+◌, ◌≤◌}
use Rattle.timing_laws.specs.Noted.{note_of}
use Rattle.timed_guest.specs.Guest.{Timed}

-- no hart has retired more than n instructions, and no more than 256 + n harts have a core
pub record CountsWithin (n : ℕ) (t : Timed) : Type 0 where
  pub retired : (h : ℕ) → (note_of t.beside.notes h).count ≤ n
  pub on : t.beside.seats.on ≤ 256 + n
