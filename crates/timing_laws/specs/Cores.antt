-- A guest on cores: of the harts that run only as many have their turns as there are cores, slice
-- by slice, and the others stand in line.
use Rattle.std.specs.Prelude.{◌≡◌, ◌<◌, ◌≤◌, None, ℕ, zero, suc, ◌+◌, ◌-◌, ◌*◌, Bool, true, false, not, ◌&&◌, ◌||◌, List, [], ◌∷◌, ◌++◌, length, take, drop, get_or, if◌then◌else◌, nat_le}
use Rattle.machines.specs.declared.Fate.{Fate}
use Rattle.machines.specs.declared.Fate.TheVariants.{Goes, Waits, Leaves, Sleeps, Ends}
use Rattle.machines.specs.Places.{change, change_each, is_among, AllApart}
use Rattle.machines.specs.Guest.{Experiment, Guest, Retirement, is_timed, own_ending, goes_on}

-- who has a core
pub record Seats : Type 0 where
  -- the harts that stand in line, the eldest first
  pub ready : List ℕ
  -- how many have a core
  pub on : ℕ
  -- when the slice of each hart ends
  pub slice_ends : List ℕ

pub record Cores (G : Type 0) : Type 0 where
  pub guest : G
  pub seats : Seats

-- how many cores, the cycles of a slice, and whether a hart's next instruction gives its slice up
pub record Slicing (G : Type 0) : Type 0 where
  pub cores : ℕ
  pub slice : ℕ
  pub gives_up : G → ℕ → Bool

-- what a retirement comes to on cores
pub record Turned : Type 0 where
  pub seats : Seats
  pub fate : Fate
  pub others : List ℕ

-- the first in line start while cores are free
abbrev pub starting : ℕ → Seats → List ℕ
starting cores s = take (cores - s.on) s.ready

-- they have slices up to this moment
abbrev pub fill : ℕ → ℕ → Seats → Seats
fill cores moment s = record {
  ready = drop (cores - s.on) s.ready;
  on = s.on + length (starting cores s);
  slice_ends = change_each 0 (starting cores s) (λ _ _. moment) s.slice_ends;
}

-- a hart that stops leaves its core, and its slice ends with its sleep
abbrev pub freed : Fate → ℕ → Seats → Seats
freed Goes h s = s
freed Waits h s = record s { on = s.on - 1 }
freed Leaves h s = record s { on = s.on - 1 }
freed (Sleeps moment) h s = record s {
  on = s.on - 1;
  slice_ends = change 0 h (λ _. moment) s.slice_ends;
}
freed (Ends ending) h s = s

abbrev pub in_line : List ℕ → Seats → Seats
in_line others s = record s { ready = s.ready ++ others }

-- a hart gives its core up, and stands in line
abbrev pub given_up : ℕ → Seats → Seats
given_up h s = record s { ready = s.ready ++ h ∷ []; on = s.on - 1 }

abbrev pub is_none_in : List ℕ → Bool
is_none_in [] = true
is_none_in (h ∷ hs) = false

-- nobody waits for the core
abbrev pub is_free : ℕ → Seats → Bool
is_free cores s = is_none_in s.ready && nat_le s.on cores

-- of a hart whose slice is over, once the cores are filled and these have started
abbrev pub sliced : ℕ → ℕ → ℕ → List ℕ → Seats → Turned
sliced cores moment h first s =
    if is_free cores s
    then record {
      seats = record s { slice_ends = change 0 h (λ _. moment) s.slice_ends };
      fate = Goes;
      others = first;
    }
    else record {
      seats = fill cores moment (given_up h s);
      fate = Waits;
      others = first ++ starting cores (given_up h s);
    }

abbrev pub unsliced : Fate → List ℕ → Seats → Turned
unsliced fate first s = record { seats = s; fate = fate; others = first }

-- how a hart goes on
abbrev pub going : ℕ → ℕ → ℕ → Bool → List ℕ → Seats → Turned
going cores moment h is_over first s =
    if is_over then sliced cores moment h first s else unsliced Goes first s

-- with the harts in line, by the fate that the guest gives
abbrev pub turned_by : ℕ → ℕ → ℕ → Bool → List ℕ → Fate → Seats → Turned
turned_by cores moment h is_over others Goes s =
    going cores moment h is_over (starting cores (in_line others s))
    (fill cores moment (in_line others s))
turned_by cores moment h is_over others Waits s =
    unsliced Waits (starting cores (in_line others (freed Waits h s)))
    (fill cores moment (in_line others (freed Waits h s)))
turned_by cores moment h is_over others Leaves s =
    unsliced Leaves (starting cores (in_line others (freed Leaves h s)))
    (fill cores moment (in_line others (freed Leaves h s)))
turned_by cores moment h is_over others (Sleeps wake) s =
    unsliced (Sleeps wake) (starting cores (in_line others (freed (Sleeps wake) h s)))
    (fill cores moment (in_line others (freed (Sleeps wake) h s)))
turned_by cores moment h is_over others (Ends ending) s =
    unsliced (Ends ending) others (record s { ready = [] })

module _ {G : Type 0} (w : Slicing G) (guest : Guest G) where
  -- the slice of a hart is over as it retires at net time v
  abbrev pub is_over : Cores G → ℕ → ℕ → Bool
  is_over c h v = nat_le (get_or c.seats.slice_ends h 0) v || w.gives_up c.guest h

  abbrev pub turned : Cores G → ℕ → ℕ → Turned
  turned c h v =
      turned_by w.cores (v + 100 * w.slice) h (is_over c h v) (guest.retire c.guest h v).others
      (guest.retire c.guest h v).fate c.seats

  abbrev pub cores_retire : Cores G → ℕ → ℕ → Retirement (Cores G)
  cores_retire c h v = record {
    guest = record { guest = (guest.retire c.guest h v).guest; seats = (turned c h v).seats };
    fate = (turned c h v).fate;
    others = (turned c h v).others;
  }

  abbrev pub cores_guest : Guest (Cores G)
  cores_guest = record {
    retire = cores_retire;
    is_running = λ c h. guest.is_running c.guest h && not (is_among h c.seats.ready);
    is_sleeping = λ c h. guest.is_sleeping c.guest h && not (is_among h c.seats.ready);
    wake = λ c h. record {
      guest = guest.wake c.guest h;
      seats = record (c.seats) { on = c.seats.on + 1 };
    };
    sleepers = λ c. guest.sleepers c.guest;
    cycles = λ c h. guest.cycles c.guest h;
    is_selected = λ c h. guest.is_selected c.guest h;
    point = λ c h. guest.point c.guest h;
    output = λ c. guest.output c.guest;
  }

-- at first hart 0 has a core
abbrev pub on_cores : {G : Type 0} → Slicing G → Experiment G → Experiment (Cores G)
on_cores w x = record {
  guest = cores_guest w x.guest;
  first = record {
    guest = x.first;
    seats = record { ready = []; on = 1; slice_ends = 100 * w.slice ∷ [] };
  };
  speedup = x.speedup;
  budget = x.budget;
  visit_limit = x.visit_limit;
  output_limit = x.output_limit;
}

-- whom a retirement makes or wakes neither ran nor slept before it
abbrev pub IsFresh : {G : Type 0} → Guest G → (G → Type 0) → Type 0
IsFresh {G} guest Good =
    (g : G) (h v k : ℕ) → Good g → guest.is_running g h ≡ true
    → is_among k (guest.retire g h v).others ≡ true → is_timed guest g k ≡ false

-- what holds of a guest on cores: each hart in line is there once, and the guest times it
pub record IsInLine {G : Type 0} (guest : Guest G) (Good : G → Type 0)
    (c : Cores G) : Type 0 where
  pub good : Good c.guest
  pub apart : AllApart c.seats.ready
  pub timed : (k : ℕ) → is_among k c.seats.ready ≡ true → is_timed guest c.guest k ≡ true

-- a count of the harts that have a core, were each to have one: it is at most the limit
pub record IsCounted {G : Type 0} (x : Experiment G) (Good : G → Type 0) (count : G → ℕ)
    (limit : ℕ) : Type 0 where
  pub first_one : count x.first ≡ 1
  pub retires : (g : G) (h v : ℕ) → Good g → x.guest.is_running g h ≡ true
      → own_ending (x.guest.retire g h v).fate ≡ None
      → count (x.guest.retire g h v).guest
      + (if goes_on (x.guest.retire g h v).fate then 0 else 1)
      ≡ count g + length (x.guest.retire g h v).others
  pub wakes : (g : G) (h : ℕ) → Good g → x.guest.is_sleeping g h ≡ true
      → count (x.guest.wake g h) ≡ count g + 1
  pub some : (g : G) (h : ℕ) → Good g → x.guest.is_running g h ≡ true → 1 ≤ count g
  pub within : (g : G) → Good g → count g ≤ limit

-- nobody stands in line, and each that runs has a core
pub record HasRoom {G : Type 0} (count : G → ℕ) (c : Cores G) : Type 0 where
  pub none_ready : c.seats.ready ≡ []
  pub on_is : c.seats.on ≡ count c.guest

-- while someone stands in line no core is free
abbrev pub AreBusy : ℕ → Seats → Type 0
AreBusy cores s = 0 < length s.ready → cores ≤ s.on

-- the harts on cores and those in line are together those that are counted
pub record IsTallied {G : Type 0} (cores : ℕ) (count : G → ℕ) (c : Cores G) : Type 0 where
  pub busy : AreBusy cores c.seats
  pub all : c.seats.on + length c.seats.ready ≡ count c.guest

-- how many of the harts below n pass
abbrev pub count_below : ℕ → (ℕ → Bool) → ℕ
count_below zero p = 0
count_below (suc n) p = count_below n p + (if p n then 1 else 0)

-- what holds of each good state: those that run or sleep have low numbers, none does both, and the
-- sleepers are those that sleep. Of such a guest the running harts are counted.
pub record IsNumbered {G : Type 0} (guest : Guest G) (Good : G → Type 0)
    (limit : ℕ) : Type 0 where
  pub some_limit : 1 ≤ limit
  pub low : (g : G) (k : ℕ) → Good g → is_timed guest g k ≡ true → k < limit
  pub awake : (g : G) (k : ℕ) → Good g → guest.is_running g k ≡ true
      → guest.is_sleeping g k ≡ false
  pub sleepers_are : (g : G) → Good g
      → guest.sleepers g ≡ count_below limit (guest.is_sleeping g)
