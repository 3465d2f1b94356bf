-- What the guest of a run on a machine keeps: its machine, its lines, and small counts.
use Rattle.std.proofs.Common.{◌≡◌, ℕ, zero, suc, ◌+◌, ◌≤◌, Bool, true, false, if◌then◌else◌, List, Option, Some, None, refl, sym, subst, ◌∙◌, arith}
use Rattle.coz_types.specs.Image.{ImageParts}
use Rattle.coz_types.specs.declared.ending.Ending.{Ending}
use Rattle.line_index.specs.Index.{Index}
use Rattle.machines.specs.Guest.{Experiment, started_harts}
use Rattle.machines.specs.Shortened.{Shortened, Turn, next_turn, over_or, retirement, leave, ending, begin, retire, wake, come, move, move_by, unbegun, shortened}
use Rattle.guest_memory.specs.declared.Layout.{Layout}
use Rattle.timing_laws.specs.Noted.{note_of}
use Rattle.timing_model.specs.declared.timing.Timing.{Timing}
use Rattle.timing_steps.specs.State.{State, keeps, after_wake}
use Rattle.timed_guest.specs.Guest.{Timed, with_wake, first_guest}
use Rattle.timed_guest.specs.Retire as timed
use Rattle.timed_guest.specs.Counts.{CountsWithin}
use Rattle.timed_guest.specs.Runs.{Run}
use Rattle.timed_guest.specs.Laws.{with_guest}
use Rattle.guest_calls.specs.Guest as guests
use Rattle.timed_guest.proofs.Growing.{first_within, retired_within, woken_within}
use Rattle.run_engine.specs.declared.choice.Choice.{Choice}
use Rattle.run_engine.specs.Run.{timed_from, timed_experiment, selected_line}

-- after so many events of a run on a machine, with these lines
pub record IsGrown (machine : Timing) (lines : Index) (n : ℕ) (t : Timed) : Type 0 where
  pub timing : t.beside.timing ≡ machine
  pub index : t.index ≡ lines
  pub counts : CountsWithin n t

one_more_counts : (n : ℕ) (t : Timed) → CountsWithin n t → CountsWithin (suc n) t
one_more_counts n t c = record {
  retired = λ h. let few : (note_of t.beside.notes h).count ≤ n = c.retired h in omega (arith, few);
  on = let few : t.beside.seats.on ≤ 256 + n = c.on in omega (arith, few);
}

-- the counts of the machine, beside a guest
pub counts_kept : (n m : ℕ) → n ≤ m → (t : Timed) (g : guests.Guest) → CountsWithin n t → CountsWithin m (with_guest g t)
counts_kept n m more t g c = record {
  retired = λ h. let few : (note_of t.beside.notes h).count ≤ n = c.retired h in omega (arith, few, more);
  on = let few : t.beside.seats.on ≤ 256 + n = c.on in omega (arith, few, more);
}

counts_at : (n : ℕ) (t : Timed) → CountsWithin (n + 1) t → CountsWithin (suc n) t
counts_at n t c = subst (λ (k : ℕ). CountsWithin k t) (sym (let is : suc n ≡ n + 1 = omega arith in is)) c

pub retire_timing : (t : Timed) (h v : ℕ) → (timed.retire t h v).guest.beside.timing ≡ t.beside.timing
unfolding timed.retire
retire_timing t h v = refl

pub retire_index : (t : Timed) (h v : ℕ) → (timed.retire t h v).guest.index ≡ t.index
unfolding timed.retire
retire_index t h v = refl

woken_by : (s : State) (b : Bool) → keeps s.timing ≡ b → (after_wake s).timing ≡ s.timing
woken_by s true e = rw e refl
woken_by s false e = rw e refl

pub wake_timing : (t : Timed) (h : ℕ) → (with_wake h t).beside.timing ≡ t.beside.timing
wake_timing t h = woken_by t.beside (keeps t.beside.timing) refl

module _ (timing : Timing) (index : Index) (few_cores : timing.cores ≤ 256) (first : Timed) (point : ℕ → Option ℕ) (choice : Choice) where
  abbrev x : Experiment Timed
  x = timed_from first point choice

  abbrev Grown : ℕ → Timed → Type 0
  Grown = IsGrown timing index

  grown_same : (n : ℕ) (t : Timed) → Grown n t → Grown (suc n) t
  grown_same n t g = record { timing = g.timing; index = g.index; counts = one_more_counts n t g.counts }

  grown_retired : (n : ℕ) (t : Timed) (h v : ℕ) → Grown n t → Grown (suc n) (timed.retire t h v).guest
  grown_retired n t h v g = record {
    timing = retire_timing t h v ∙ g.timing;
    index = retire_index t h v ∙ g.index;
    counts = counts_at n (timed.retire t h v).guest (retired_within n t h v (subst (λ (m : Timing). m.cores ≤ 256) (sym g.timing) few_cores) g.counts);
  }

  grown_woken : (n : ℕ) (t : Timed) (h : ℕ) → Grown n t → Grown (suc n) (with_wake h t)
  grown_woken n t h g = record {
    timing = wake_timing t h ∙ g.timing;
    index = g.index;
    counts = counts_at n (with_wake h t) (woken_within n t h g.counts);
  }

  over_guest : (n : ℕ) (e : Option Ending) (a b : Shortened Timed) → Grown n a.guest → Grown n b.guest → Grown n (over_or e a b).guest
  over_guest n None a b one other = other
  over_guest n (Some e) a b one other = one

  retired_guest : (n : ℕ) (t : Turn) (s : Shortened Timed) → Grown n s.guest → Grown (suc n) (retire x t s).guest
  unfolding retire leave begin retirement
  retired_guest n t s g =
      let next : Grown (suc n) (timed.retire s.guest t.hart t.due).guest = grown_retired n s.guest t.hart t.due g in
      over_guest (suc n) (ending x t s) (leave x t s) (begin x (started_harts t.hart (retirement x t s)) t.due (leave x t s)) next next

  woken_guest : (n : ℕ) (t : Turn) (s : Shortened Timed) → Grown n s.guest → Grown (suc n) (wake x t s).guest
  unfolding wake begin
  woken_guest n t s g = grown_woken n s.guest t.hart g

  come_guest : (n : ℕ) (t : Turn) (s : Shortened Timed) → Grown n s.guest → Grown (suc n) (come x t s).guest
  unfolding come
  come_guest n t s g = go (x.guest.is_sleeping s.guest t.hart)
    where
      go : (b : Bool) → Grown (suc n) (if b then wake x t s else retire x t s).guest
      go true = woken_guest n t s g
      go false = retired_guest n t s g

  moved_guest : (n : ℕ) (e : Option Ending) (turn : Option Turn) (s : Shortened Timed) → Grown n s.guest → Grown (suc n) (move_by x e turn s).guest
  unfolding move_by
  moved_guest n (Some e) turn s g = grown_same n s.guest g
  moved_guest n None (Some t) s g = come_guest n t s g
  moved_guest n None None s g = grown_same n s.guest g

  pub grown_from : Grown 0 first → (n : ℕ) → Grown n (shortened x n).guest
  unfolding shortened begin unbegun move
  grown_from at zero = at
  grown_from at (suc n) = moved_guest n (shortened x n).ending (next_turn (shortened x n).dues) (shortened x n) (grown_from at n)

-- the guest of a run of a program
pub grown : (timing : Timing) (image : ImageParts) (index : Index) (point : ℕ → Option ℕ) (input : List ℕ) (choice : Choice) → timing.cores ≤ 256 → (n : ℕ)
    → IsGrown timing index n (shortened (timed_experiment timing image index point input choice) n).guest
unfolding first_guest
grown timing image index point input choice few n =
    let run : Run = record { image = image; input = input; layout = choice.layout; selected = selected_line choice; point_at = point; speedup = choice.speedup; budget = choice.budget; visit_limit = choice.visit_limit; output_limit = choice.output_limit } in
    grown_from timing index few (first_guest image input choice.output_limit choice.layout timing index) point choice
    (record { timing = refl; index = refl; counts = first_within run timing index }) n

-- the machine that it begins on
pub first_timing : (image : ImageParts) (input : List ℕ) (output_limit : ℕ) (layout : Layout) (timing : Timing) (index : Index) → (first_guest image input output_limit layout timing index).beside.timing ≡ timing
unfolding first_guest
first_timing image input output_limit layout timing index = refl
