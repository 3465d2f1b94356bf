-- A guest that follows another one, step by step: its runs are the other's, with each state mapped.
use Rattle.std.specs.Prelude.{◌≡◌, ℕ, true, None}
use Rattle.machines.specs.Guest.{Experiment, Retirement, own_ending}
use Rattle.machines.specs.Delayed.{Delayed}
use Rattle.machines.specs.Shortened.{Shortened}

-- a retirement, with the guest after it mapped
abbrev pub retirement_through : {G H : Type 0} → (G → H) → Retirement G → Retirement H
retirement_through f r = record { guest = f r.guest; fate = r.fate; others = r.others }

-- a state of the delayed machine, with the guest mapped
abbrev pub delayed_through : {G H : Type 0} → (G → H) → Delayed G → Delayed H
delayed_through f d = record {
  now = d.now;
  delay = d.delay;
  guest = f d.guest;
  harts = d.harts;
  visits = d.visits;
  retired = d.retired;
  wakes = d.wakes;
  starts = d.starts;
  ending = d.ending;
}

-- a state of the shortened machine, with the guest mapped
abbrev pub shortened_through : {G H : Type 0} → (G → H) → Shortened G → Shortened H
shortened_through f s = record {
  time = s.time;
  guest = f s.guest;
  dues = s.dues;
  visits = s.visits;
  retired = s.retired;
  wakes = s.wakes;
  starts = s.starts;
  ending = s.ending;
}

-- what a machine asks of a state of a run that goes on is the same of the state that it is mapped to
pub record IsAlike {G H : Type 0} (x : Experiment G) (y : Experiment H) (f : G → H)
    (g : G) : Type 0 where
  pub cycles : (h : ℕ) → y.guest.cycles (f g) h ≡ x.guest.cycles g h
  pub is_selected : (h : ℕ) → y.guest.is_selected (f g) h ≡ x.guest.is_selected g h
  pub is_sleeping : (h : ℕ) → y.guest.is_sleeping (f g) h ≡ x.guest.is_sleeping g h
  pub point : (h : ℕ) → y.guest.point (f g) h ≡ x.guest.point g h

-- y follows x through f: from each state that is Good and Kept the same comes of the retirement of a
-- running hart and of the wake of a sleeping one. Good is what x is lawful with; Kept is what else
-- holds while the run goes on.
pub record Follows {G H : Type 0} (x : Experiment G) (y : Experiment H) (f : G → H)
    (Good Kept : G → Type 0) : Type 0 where
  pub first : y.first ≡ f x.first
  pub speedup : y.speedup ≡ x.speedup
  pub budget : y.budget ≡ x.budget
  pub visit_limit : y.visit_limit ≡ x.visit_limit
  pub output_limit : y.output_limit ≡ x.output_limit
  pub output : (g : G) → y.guest.output (f g) ≡ x.guest.output g
  pub alike : (g : G) → Good g → Kept g → IsAlike x y f g
  pub retires : (g : G) (h v : ℕ) → Good g → Kept g → x.guest.is_running g h ≡ true
      → y.guest.retire (f g) h v ≡ retirement_through f (x.guest.retire g h v)
  pub wakes : (g : G) (h : ℕ) → Good g → Kept g → x.guest.is_sleeping g h ≡ true
      → y.guest.wake (f g) h ≡ f (x.guest.wake g h)
  pub first_kept : Kept x.first
  pub stays_kept : (g : G) (h v : ℕ) → Good g → Kept g → x.guest.is_running g h ≡ true
      → own_ending (x.guest.retire g h v).fate ≡ None → Kept (x.guest.retire g h v).guest
  pub wakes_kept : (g : G) (h : ℕ) → Good g → Kept g → x.guest.is_sleeping g h ≡ true
      → Kept (x.guest.wake g h)
