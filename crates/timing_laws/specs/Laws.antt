-- The laws of the timing model.
use Rattle.std.specs.Prelude.{◌≡◌, ◌↔◌, ◌≤◌, ℕ, false, None}
use Rattle.machines.specs.Guest.{Experiment, IsLawful}
use Rattle.machines.specs.Delayed.{delayed}
use Rattle.machines.specs.Shortened.{shortened}
use Rattle.machines.specs.Records.{Record, NetRecord, IsDelayed, IsShortened, shortened_record}
use Rattle.machines.specs.Standing.{delayed_record}
use Rattle.timing_laws.specs.Following.{Follows, delayed_through, shortened_through}
use Rattle.timing_laws.specs.Noted.{Noted, Noting, noting, noted_guest}
use Rattle.timing_laws.specs.Cores.{Slicing, on_cores, IsInLine, IsTallied, IsCounted, count_below}

abbrev pub NotesAreLawful : {G : Type 0} → Experiment G → (G → Type 0) → Type 0
NotesAreLawful {G} x Good = (n : Noting G) → IsLawful (noting n x) (λ m. Good m.guest)

abbrev pub CoresAreLawful : {G : Type 0} → Experiment G → (G → Type 0) → Type 0
CoresAreLawful {G} x Good =
    (n : Noting G) (w : Slicing (Noted G))
    → IsLawful (on_cores w (noting n x)) (IsInLine (noted_guest n x.guest) (λ m. Good m.guest))

abbrev pub UsualChangesNothing : {G : Type 0} → Experiment G → ℕ → Type 0
UsualChangesNothing {G} x limit =
    (n : Noting G) (w : Slicing (Noted G)) → n.seed ≡ 0 → n.charges ≡ false → limit ≤ w.cores
    → (delayed_record (on_cores w (noting n x)) ≡ delayed_record x)
    × (shortened_record (on_cores w (noting n x)) ≡ shortened_record x)

-- the runs and the records of a guest that follows x
pub record AreAlike {G H : Type 0} (x : Experiment G) (y : Experiment H)
    (f : G → H) : Type 0 where
  pub delayed_run : (n : ℕ) → delayed y n ≡ delayed_through f (delayed x n)
  pub shortened_run : (n : ℕ) → shortened y n ≡ shortened_through f (shortened x n)
  pub delayed_ends : (r : Record) → IsDelayed x r ↔ IsDelayed y r
  pub shortened_ends : (r : NetRecord) → IsShortened x r ↔ IsShortened y r
  pub record_is : delayed_record y ≡ delayed_record x
  pub net_is : shortened_record y ≡ shortened_record x

abbrev pub FollowersAreAlike : {G : Type 0} (H : Type 0) → Experiment G → (G → Type 0)
    → (G → Type 0) → Type 0
FollowersAreAlike {G} H x Good Kept =
    (y : Experiment H) (f : G → H) → Follows x y f Good Kept → AreAlike x y f

-- while the run goes on, no core is free if someone stands in line, and each hart that is counted
-- has a core or stands in line
abbrev pub CoresAreTallied : {G : Type 0} → Experiment G → (G → ℕ) → Type 0
CoresAreTallied {G} x count =
    (n : Noting G) (w : Slicing (Noted G)) → 1 ≤ w.cores → (moves : ℕ)
    → (delayed (on_cores w (noting n x)) moves).ending ≡ None
    → IsTallied w.cores (λ m. count m.guest) (delayed (on_cores w (noting n x)) moves).guest

abbrev pub RunningAreCounted : {G : Type 0} → Experiment G → (G → Type 0) → ℕ → Type 0
RunningAreCounted x Good limit =
    IsCounted x Good (λ g. count_below limit (x.guest.is_running g)) limit
