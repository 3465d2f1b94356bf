-- The delays of harts, by their seats.
use Rattle.std.specs.Prelude.{◌≡◌, ℕ, ◌+◌, ◌-◌, ◌≤◌, ◌<◌, ◌==◌, if◌then◌else◌, min, List, length, slice_index_or, Option, Some, None}
use Rattle.coz_types.specs.declared.record.Account.{Account as GivenAccount}
use Rattle.machines.specs.Delayed.{Hart}
use Rattle.delay_credits.specs.declared.seat.Raises.{Raises}
use Rattle.delay_credits.specs.declared.seat.Running.{Running}
use Rattle.delay_credits.specs.declared.seat.Seat.{Seat}
use Rattle.delay_credits.specs.Delays.{account_as}

-- the ticks of the latest raises for which a running hart has no pause
abbrev pub free_of : Raises → Running → ℕ
free_of raises r = if r.at == raises.at then r.free else 0

-- the pause that it has before it at a moment: of the other ticks, those that have not passed
abbrev pub pause_left : Raises → ℕ → Running → ℕ
pause_left raises now r = raises.sum - free_of raises r - (now - raises.at)

abbrev pub pause_of_seat : Raises → ℕ → Seat → ℕ
pause_of_seat raises now seat = elim (seat.running) [ None ↦ 0 | Some r ↦ pause_left raises now r ]

-- the account at a moment: a running hart has paused for what has no other part in it
abbrev pub account_of_seat : ℕ → Raises → ℕ → Seat → GivenAccount
account_of_seat raised raises now seat =
    elim (seat.running) [
      | None ↦ seat.account
      | Some r ↦ record seat.account {
        paused = raised - (seat.account.own + seat.account.credited + r.lacks + pause_left raises now r);
      }
    ]

-- a hart at a moment
abbrev pub hart_of_seat : ℕ → Raises → ℕ → Seat → Hart
hart_of_seat raised raises now seat = record {
  account = account_as (account_of_seat raised raises now seat);
  load = elim (seat.running) [
    | None ↦ None
    | Some r ↦ Some (record { work = 0; pause = pause_left raises now r })
  ];
}

-- what of all that was raised has another part in a hart than the ticks that it paused as it ran
abbrev pub parts_of : Raises → Seat → ℕ
parts_of raises seat =
    elim (seat.running) [
      | None ↦ seat.account.own + seat.account.credited + seat.account.paused
      | Some r ↦ seat.account.own + seat.account.credited + r.lacks + (raises.sum - free_of raises r)
    ]

-- what a running hart is free of belongs to the latest raises or earlier ones
abbrev pub IsFree : Raises → Option Running → Type 0
IsFree raises None = Unit {0}
IsFree raises (Some r) = (r.at ≤ raises.at) × (free_of raises r ≤ raises.sum)

-- no hart has more parts than what was raised
pub record IsSound (raised : ℕ) (raises : Raises) (seat : Seat) : Type 0 where
  pub within : parts_of raises seat ≤ raised
  pub free : IsFree raises seat.running

-- the hart runs, and has no pause before it at a moment
abbrev pub IsUnpaused : Raises → ℕ → Seat → Type 0
IsUnpaused raises now seat = (seat.running ≡ None → ⊥) × (pause_of_seat raises now seat ≡ 0)

-- the hart runs from a moment on with no pause
abbrev pub started_seat : ℕ → Raises → ℕ → Seat → Seat
started_seat raised raises now seat = record {
  account = account_of_seat raised raises now seat;
  running = Some (record {
    lacks = raised - ((account_of_seat raised raises now seat).own + (account_of_seat raised raises now seat).credited + (account_of_seat raised raises now seat).paused);
    free = raises.sum;
    at = raises.at;
  });
}

-- a running hart raises the delay at the moment of the latest raises
abbrev pub raised_seat : Raises → ℕ → Seat → Seat
raised_seat raises ticks seat =
    elim (seat.running) [
      | None ↦ seat
      | Some r ↦ record {
        account = record seat.account { own = seat.account.own + ticks };
        running = Some (record { lacks = r.lacks; free = free_of raises r + ticks; at = raises.at });
      }
    ]

-- the seat of the same hart beside the raises as they are at another moment
abbrev pub later_seat : Raises → Raises → Seat → Seat
later_seat raises new seat =
    elim (seat.running) [
      | None ↦ seat
      | Some r ↦ record {
        account = seat.account;
        running = Some (record { lacks = r.lacks; free = min (free_of raises r) new.sum; at = new.at });
      }
    ]

-- each hart stays as it is at a moment and later, and sound
pub record IsLater (now : ℕ) (old new : Raises) (seat seat' : Seat) : Type 0 where
  pub same : (raised moment : ℕ) → now ≤ moment → IsSound raised old seat
      → hart_of_seat raised new moment seat' ≡ hart_of_seat raised old moment seat
  pub sound : (raised : ℕ) → IsSound raised old seat → IsSound raised new seat'

abbrev pub AreLater : ℕ → Raises → Raises → List Seat → List Seat → Type 0
AreLater now old new seats seats' =
    (index : ℕ) → index < length seats → (d : Seat)
    → IsLater now old new (slice_index_or seats index d) (slice_index_or seats' index d)
