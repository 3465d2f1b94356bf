-- What a machine of the timing model keeps beside its guest, and its steps.
use Rattle.std.specs.Prelude.{◌≡◌, ℕ, ◌+◌, ◌*◌, ◌<◌, Bool, not, ◌&&◌, ◌||◌, List, [], ◌∷◌, length, get_or, if◌then◌else◌, ◌==◌, nat_le, nat_lt, true, false, Some, None, Option, map, option_map}
use Rattle.machines.specs.declared.Fate.{Fate}
use Rattle.machines.specs.Places.{is_among, AllApart}
use Rattle.machines.specs.Guest.{Experiment, Guest, is_timed}
use Rattle.timing_laws.specs.Noted.{Note, Noted, Noting, first_note, note_of, notes_after, noting, noted_guest, is_doubled, is_charged}
use Rattle.timing_laws.specs.Cores.{Cores, Seats, Slicing, Turned, turned_by, cores_guest, on_cores}
use Rattle.timing_model.specs.declared.timing.Timing.{Timing}
use Rattle.timing_model.specs.Timing.{charges}
use Rattle.coz_types.specs.declared.LineId.{LineId}
use Rattle.timing_steps.specs.declared.retirement.Retirement.{Retirement}

-- the number of a line
abbrev pub number_of : Option LineId → Option ℕ
number_of line = option_map (λ (l : LineId). l.0) line

-- at first hart 0 has a core, and a slice of this many ticks
abbrev pub first_seats : ℕ → Seats
first_seats slice = record { ready = []; on = 1; slice_ends = slice ∷ [] }

pub record State : Type 0 where
  pub timing : Timing
  pub notes : List (Option Note)
  pub seats : Seats

-- at first hart 0 is made, and has a core
abbrev pub first_state : Timing → State
first_state t = record {
  timing = t;
  notes = Some first_note ∷ [];
  seats = first_seats (100 * t.slice);
}

-- A machine with a core for each hart, no jitter and no charged lines needs none of this, so it
-- is left as it was at first.
abbrev pub keeps : Timing → Bool
keeps t = nat_lt t.cores 256 || charges t.charge || not (t.seed == 0)

-- whether the slice of a hart is over as it retires at a net time, or it gives its slice up
abbrev pub is_over_at : Seats → ℕ → ℕ → Bool → Bool
is_over_at s h v gives_up = nat_le (get_or s.slice_ends h 0) v || gives_up

-- the result of a retirement on this number of cores, with slices of this many cycles, of a guest
-- that made or woke these others
abbrev pub turn_on : ℕ → ℕ → Retirement → List ℕ → Seats → Turned
turn_on cores slice r others s =
    turned_by cores (r.moment + 100 * slice) r.hart.0 (is_over_at s r.hart.0 r.moment r.gives_up)
    others r.fate s

-- the result of a retirement in a state
abbrev pub turn_in : State → Retirement → List ℕ → Turned
turn_in s r others =
    if keeps s.timing then turn_on s.timing.cores s.timing.slice r others s.seats
    else record { seats = s.seats; fate = r.fate; others = others }

abbrev pub notes_in : State → Retirement → List ℕ → List (Option Note)
notes_in s r others =
    if keeps s.timing then notes_after (number_of r.line) r.hart.0 others s.notes else s.notes

-- the state after it
abbrev pub after_retirement : State → Retirement → List ℕ → State
after_retirement s r others =
    record s { notes = notes_in s r others; seats = (turn_in s r others).seats }

-- the state after a sleeping hart was woken
abbrev pub after_wake : State → State
after_wake s =
    if keeps s.timing then record s { seats = record (s.seats) { on = s.seats.on + 1 } } else s

-- a guest with this state beside it
abbrev pub beside : {G : Type 0} → List (Option Note) → Seats → G → Cores (Noted G)
beside notes seats g = record { guest = record { guest = g; notes = notes }; seats = seats }

module _ {G : Type 0} (guest : Guest G) (n : Noting G) (w : Slicing (Noted G)) (g : G)
    (notes : List (Option Note)) (s : Seats) where
  -- what the guest's own retirement of a hart at a net time comes to on the cores
  abbrev pub turn_of_guest : ℕ → ℕ → Turned
  turn_of_guest h v =
      turned_by w.cores (v + 100 * w.slice) h
      (is_over_at s h v (w.gives_up (record { guest = g; notes = notes }) h))
      (guest.retire g h v).others (guest.retire g h v).fate s

-- A step of the guest with notes, on cores, is a step of the guest and one of what stands beside it.
pub record AreSteps {G : Type 0} (guest : Guest G) (n : Noting G) (w : Slicing (Noted G)) (g : G)
    (notes : List (Option Note)) (s : Seats) : Type 0 where
  pub retires : (h v : ℕ)
      → (cores_guest w (noted_guest n guest)).retire (beside notes s g) h v
      ≡ record {
        guest = beside (notes_after (n.line g h) h (guest.retire g h v).others notes)
            (turn_of_guest guest n w g notes s h v).seats (guest.retire g h v).guest;
        fate = (turn_of_guest guest n w g notes s h v).fate;
        others = (turn_of_guest guest n w g notes s h v).others;
      }
  pub wakes : (h : ℕ)
      → (cores_guest w (noted_guest n guest)).wake (beside notes s g) h
      ≡ beside notes (record s { on = s.on + 1 }) (guest.wake g h)
  pub cycles : (h : ℕ)
      → (cores_guest w (noted_guest n guest)).cycles (beside notes s g) h
      ≡ (if is_doubled n.seed h (note_of notes h).count then 2 * guest.cycles g h
      else guest.cycles g h)
  pub selected : (h : ℕ)
      → (cores_guest w (noted_guest n guest)).is_selected (beside notes s g) h
      ≡ (if n.charges then guest.is_selected g h
      || is_charged (n.line g h) (note_of notes h).last n.selected
      else guest.is_selected g h)

-- the first state, and each step, of an experiment with notes, on cores
pub record IsBeside {G : Type 0} (x : Experiment G) (n : Noting G) (w : Slicing (Noted G)) : Type 0 where
  pub first : (on_cores w (noting n x)).first
      ≡ beside (Some first_note ∷ []) (first_seats (100 * w.slice)) x.first
  pub steps : (g : G) (notes : List (Option Note)) (s : Seats) → AreSteps x.guest n w g notes s

abbrev pub StepsAreTheGuests : {G : Type 0} → Experiment G → Type 0
StepsAreTheGuests {G} x = (n : Noting G) (w : Slicing (Noted G)) → IsBeside x n w

-- Fewer than `limit` harts are in line after a retirement, if the guest has at most `limit` harts,
-- each hart in line is there once and could run or sleeps, and the retiring hart has a core.
abbrev pub LineHasRoom : {G : Type 0} → Guest G → (G → Type 0) → ℕ → Type 0
LineHasRoom {G} guest Good limit =
    (g : G) (ready : List ℕ) (h v : ℕ) → Good g → AllApart ready
    → ((k : ℕ) → is_among k ready ≡ true → is_timed guest g k ≡ true)
    → guest.is_running g h ≡ true → is_among h ready ≡ false
    → ((k : ℕ) → is_among k (guest.retire g h v).others ≡ true → k < limit)
    → length ready + length (guest.retire g h v).others < limit
