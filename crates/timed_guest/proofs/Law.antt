-- Coz's guest keeps the rules of a guest of the machines, on each machine of the timing model.
use Rattle.std.proofs.Common.{◌≡◌, ℕ, ◌+◌, ◌*◌, ◌<◌, ◌≤◌, ◌^◌, ◌==◌, ◌⊎◌, inl, inr, ⊎_elim, Bool, true, false, not, ◌&&◌, ◌||◌, if◌then◌else◌, List, [], length, Option, None, IsNone, refl, sym, ap, ◌∙◌, subst, arith}
use Rattle.std.proofs.lemmas.Bool.{cases_Bool, and_parts, not-true}
use Rattle.coz_types.specs.Image.{ImageParts}
use Rattle.coz_types.specs.declared.ending.Ending.TheVariants.{Trapped}
use Rattle.coz_types.specs.declared.ending.Trap.{Trap}
use Rattle.line_index.specs.Index.{Index, position_at}
use Rattle.machines.specs.declared.Fate.{Fate}
use Rattle.machines.specs.declared.Fate.TheVariants.{Waits, Sleeps, Ends}
use Rattle.machines.specs.Places.{is_among, AllApart}
use Rattle.machines.specs.Guest.{Experiment, Retirement, IsLawful, IsLater, is_sleeper, own_ending, started_harts}
use Rattle.guest_memory.specs.declared.Layout.{Layout}
use Rattle.guest_memory.specs.Regions.{usual}
use Rattle.guest_calls.specs.Guest as guests
use Rattle.guest_calls.specs.Retire as own
use Rattle.guest_calls.specs.Orderly as own_order
use Rattle.guest_calls.proofs.Law as own_law
use Rattle.timing_laws.specs.Noted.{Noted, noting, noted_guest}
use Rattle.timing_laws.specs.Cores.{Cores, on_cores, IsFresh, IsInLine, IsNumbered}
use Rattle.timing_laws.proofs.Usual.{timed_lawful}
use Rattle.timing_model.specs.declared.timing.Timing.{Timing}
use Rattle.timing_steps.specs.State.{keeps, is_over_at}
use Rattle.timing_steps.proofs.Room.{line_room}
use Rattle.timed_guest.specs.Guest.{Timed, Making, making, is_in_line, is_running, is_sleeping, is_timed, sleepers, with_wake, first_guest}
use Rattle.timed_guest.specs.Retire.{retire, retirement, gives_up, has_selected}
use Rattle.timed_guest.specs.Orderly.{IsOrderly}
use Rattle.timed_guest.specs.Runs.{Run, run_of, run_on, slicing_of}
use Rattle.timed_guest.specs.Laws.{with_guest}
use Rattle.timed_guest.proofs.Line.{from_line, has_fate, among_either}
use Rattle.timed_guest.proofs.Sleepers.{sleepers_below}
use Rattle.timed_guest.proofs.Steps.{as_cores, noting_at, guest_at, back, from_cores, retires_kept, retires_plain, wakes_kept, wakes_plain, timed_free}

-- the guest's own rules, in each run
pub own_lawful : (line_at : ℕ → Option ℕ) (r : Run) → r.speedup ≤ 100 → IsLawful (run_of line_at r) own_order.IsOrderly
own_lawful line_at r small = own_law.lawful (has_selected r.selected line_at) r.point_at r.image r.input r.output_limit r.layout r.speedup r.budget r.visit_limit small

pub own_fresh : (line_at : ℕ → Option ℕ) (r : Run) → IsFresh (run_of line_at r).guest own_order.IsOrderly
own_fresh line_at r = λ g h v k good runs among. own_law.others_idle g h v good runs k among

pub own_numbered : (line_at : ℕ → Option ℕ) (r : Run) → IsNumbered (run_of line_at r).guest own_order.IsOrderly 256
own_numbered line_at r = record {
  some_limit = omega arith;
  low = λ g k good timed. (own_law.timed_low g k good timed).1;
  awake = λ g k good runs. own_law.running_awake g k runs;
  sleepers_are = λ g good. sleepers_below g.harts 256 good.few;
}

-- a run for laws that don't read it
abbrev no_image : ImageParts
no_image = record { file = []; areas = []; entry = 0; headers = 0; header_count = 0 }

abbrev plain : Run
plain = record {
  image = no_image;
  input = [];
  layout = usual;
  selected = None;
  point_at = λ _. None;
  speedup = 0;
  budget = 1;
  visit_limit = 1;
  output_limit = 1;
}

abbrev no_lines : ℕ → Option ℕ
no_lines a = None

abbrev pub x : Experiment guests.Guest
x = run_of no_lines plain

pub alone : IsLawful x own_order.IsOrderly
alone = own_lawful no_lines plain (omega arith)

abbrev InLine : Timed → Cores (Noted guests.Guest) → Type 0
InLine t = IsInLine (noted_guest (noting_at t) x.guest) (λ m. own_order.IsOrderly m.guest)

cores_law : (t : Timed) → IsLawful (on_cores (slicing_of t.beside.timing) (noting (noting_at t) x)) (InLine t)
cores_law t = timed_lawful (noting_at t) (slicing_of t.beside.timing) x own_order.IsOrderly alone (own_fresh no_lines plain)

in_line : (t : Timed) → IsOrderly t → InLine t (as_cores t)
in_line t good = record { good = good.guest; apart = good.apart; timed = good.timed }

back_orderly : (t : Timed) (c : Cores (Noted guests.Guest)) → keeps t.beside.timing ≡ true → InLine t c → IsOrderly (back t c)
back_orderly t c is i = record {
  guest = i.good;
  apart = i.apart;
  timed = i.timed;
  nobody = λ none. absurd (let no : true ≡ false = sym is ∙ none in cc);
}

-- what holds after a retirement of a running hart
pub record IsRetired (t : Timed) (h v : ℕ) (r : Retirement Timed) : Type 0 where
  pub orderly : IsOrderly r.guest
  pub apart : AllApart (started_harts h r)
  pub timed : IsNone (own_ending r.fate) → (k : ℕ) → is_timed r.guest k ≡ (if is_among k (started_harts h r) then true else if k == h then is_sleeper r.fate else is_timed t k)
  pub later : IsLater v r.fate
  pub asleep : sleepers r.guest ≡ sleepers t + (if is_sleeper r.fate then 1 else 0)

pub runs_alone : (t : Timed) (h : ℕ) → is_running t h ≡ true → guests.is_running t.guest h ≡ true
runs_alone t h runs = (and_parts (guests.is_running t.guest h) (not (is_in_line t h)) runs).0

kept_retired : (t : Timed) (h v : ℕ) → keeps t.beside.timing ≡ true → IsOrderly t → is_running t h ≡ true → IsRetired t h v (from_cores t h v ((guest_at t x.guest).retire (as_cores t) h v))
kept_retired t h v is good runs =
    let law = cores_law t in
    let i = in_line t good in
    record {
      orderly = back_orderly t ((guest_at t x.guest).retire (as_cores t) h v).guest is (law.stays_good (as_cores t) h v i runs);
      apart = law.apart (as_cores t) h v i runs;
      timed = law.running (as_cores t) h v i runs;
      later = law.sleeps_later (as_cores t) h v i runs;
      asleep = law.sleeps_one (as_cores t) h v i runs;
    }

-- the guest alone, on a machine where nobody stands in line
pub alone_orderly : (t : Timed) (g : guests.Guest) → keeps t.beside.timing ≡ false → IsOrderly t → own_order.IsOrderly g → IsOrderly (with_guest g t)
alone_orderly t g none good after = record {
  guest = after;
  apart = good.apart;
  timed = λ k here. absurd (let no : false ≡ true = sym (good.nobody none k) ∙ here in cc);
  nobody = good.nobody;
}

alone_retired : (t : Timed) (h v : ℕ) → keeps t.beside.timing ≡ false → IsOrderly t → is_running t h ≡ true
    → IsRetired t h v (retirement (with_guest (own.retire t.guest h v).guest t) (own.retire t.guest h v).fate (own.retire t.guest h v).others)
alone_retired t h v none good runs =
    let r : Retirement guests.Guest = own.retire t.guest h v in
    let own_runs = runs_alone t h runs in
    record {
      orderly = alone_orderly t r.guest none good (alone.stays_good t.guest h v good.guest own_runs);
      apart = alone.apart t.guest h v good.guest own_runs;
      timed = λ goes k.
          timed_free (with_guest r.guest t) k (good.nobody none k)
          ∙ alone.running t.guest h v good.guest own_runs goes k
          ∙ ap (λ (b : Bool). if is_among k (started_harts h r) then true else if k == h then is_sleeper r.fate else b) (sym (timed_free t k (good.nobody none k)));
      later = alone.sleeps_later t.guest h v good.guest own_runs;
      asleep = alone.sleeps_one t.guest h v good.guest own_runs;
    }

pub retired : (t : Timed) (h v : ℕ) → IsOrderly t → is_running t h ≡ true → IsRetired t h v (retire t h v)
retired t h v good runs =
    ⊎_elim
    (λ (is : keeps t.beside.timing ≡ true). subst (IsRetired t h v) (sym (retires_kept t h v x.guest refl is)) (kept_retired t h v is good runs))
    (λ (none : keeps t.beside.timing ≡ false). subst (IsRetired t h v) (sym (retires_plain t h v none)) (alone_retired t h v none good runs))
    (cases_Bool (keeps t.beside.timing))

-- and after a wake of a sleeping one
record IsWoken (t after : Timed) : Type 0 where
  orderly : IsOrderly after
  timed : (k : ℕ) → is_timed after k ≡ is_timed t k
  asleep : sleepers t ≡ sleepers after + 1

sleeps_alone : (t : Timed) (h : ℕ) → is_sleeping t h ≡ true → guests.is_sleeping t.guest h ≡ true
sleeps_alone t h asleep = (and_parts (guests.is_sleeping t.guest h) (not (is_in_line t h)) asleep).0

kept_woken : (t : Timed) (h : ℕ) → keeps t.beside.timing ≡ true → IsOrderly t → is_sleeping t h ≡ true → IsWoken t (back t ((guest_at t x.guest).wake (as_cores t) h))
kept_woken t h is good asleep =
    let law = cores_law t in
    let i = in_line t good in
    record {
      orderly = back_orderly t ((guest_at t x.guest).wake (as_cores t) h) is (law.wakes_good (as_cores t) h i asleep);
      timed = law.wakes (as_cores t) h i asleep;
      asleep = law.wakes_one (as_cores t) h i asleep;
    }

alone_woken : (t : Timed) (h : ℕ) → keeps t.beside.timing ≡ false → IsOrderly t → is_sleeping t h ≡ true → IsWoken t (with_guest (guests.with_wake h t.guest) t)
alone_woken t h none good asleep =
    let own_sleeps = sleeps_alone t h asleep in
    record {
      orderly = alone_orderly t (guests.with_wake h t.guest) none good (alone.wakes_good t.guest h good.guest own_sleeps);
      timed = λ k.
          timed_free (with_guest (guests.with_wake h t.guest) t) k (good.nobody none k)
          ∙ alone.wakes t.guest h good.guest own_sleeps k
          ∙ sym (timed_free t k (good.nobody none k));
      asleep = alone.wakes_one t.guest h good.guest own_sleeps;
    }

woken : (t : Timed) (h : ℕ) → IsOrderly t → is_sleeping t h ≡ true → IsWoken t (with_wake h t)
woken t h good asleep =
    ⊎_elim
    (λ (is : keeps t.beside.timing ≡ true). subst (IsWoken t) (sym (wakes_kept t h is)) (kept_woken t h is good asleep))
    (λ (none : keeps t.beside.timing ≡ false). subst (IsWoken t) (sym (wakes_plain t h none)) (alone_woken t h none good asleep))
    (cases_Bool (keeps t.beside.timing))

pub wake_orderly : (t : Timed) (h : ℕ) → IsOrderly t → is_sleeping t h ≡ true → IsOrderly (with_wake h t)
wake_orderly t h good asleep = (woken t h good asleep).orderly

pub first_orderly : (image : ImageParts) (input : List ℕ) (output_limit : ℕ) (layout : Layout) (timing : Timing) (index : Index) → IsOrderly (first_guest image input output_limit layout timing index)
unfolding first_guest
first_orderly image input output_limit layout timing index = record {
  guest = own_law.first_orderly image input output_limit layout;
  apart = tt;
  timed = λ k here. absurd (let no : false ≡ true = here in cc);
  nobody = λ none k. refl;
}

first_timed : (t : Timing) (index : Index) (r : Run) → r.speedup ≤ 100 → (k : ℕ) → is_timed (run_on t index r).first k ≡ (k == 0)
unfolding first_guest
first_timed t index r small k = timed_free (first_guest r.image r.input r.output_limit r.layout t index) k refl ∙ (own_lawful (position_at index) r small).first_running k

first_asleep : (t : Timing) (index : Index) (r : Run) → r.speedup ≤ 100 → sleepers (run_on t index r).first ≡ 0
unfolding first_guest
first_asleep t index r small = (own_lawful (position_at index) r small).first_awake

pub lawful : (t : Timing) (index : Index) (r : Run) → r.speedup ≤ 100 → IsLawful (run_on t index r) IsOrderly
lawful t index r small = record {
  first_good = first_orderly r.image r.input r.output_limit r.layout t index;
  first_running = first_timed t index r small;
  first_awake = first_asleep t index r small;
  stays_good = λ g h v good runs. (retired g h v good runs).orderly;
  apart = λ g h v good runs. (retired g h v good runs).apart;
  running = λ g h v good runs. (retired g h v good runs).timed;
  sleeps_later = λ g h v good runs. (retired g h v good runs).later;
  sleeps_one = λ g h v good runs. (retired g h v good runs).asleep;
  wakes_good = wake_orderly;
  wakes = λ g h good asleep. (woken g h good asleep).timed;
  wakes_one = λ g h good asleep. (woken g h good asleep).asleep;
  speedup_in_range = small;
}

-- a hart that runs or sleeps is one of those that were made
left_of_or : (a b m : Bool) → ((a && not m) || (b && not m)) ≡ true → (a || b) ≡ true
left_of_or true b m e = refl
left_of_or false true m e = refl
left_of_or false false m e = e

timed_alone : (t : Timed) (h : ℕ) → is_timed t h ≡ true → guests.is_timed t.guest h ≡ true
timed_alone t h timed = left_of_or (guests.is_sleeping t.guest h) (guests.is_running t.guest h) (is_in_line t h) timed

pub timed_low : (t : Timed) (h : ℕ) → IsOrderly t → is_timed t h ≡ true → (h < length t.guest.harts) × (h < 256)
timed_low t h good timed = own_law.timed_low t.guest h good.guest (timed_alone t h timed)

pub running_low : (t : Timed) (h : ℕ) → IsOrderly t → is_running t h ≡ true → (h < length t.guest.harts) × (h < 256)
running_low t h good runs = own_law.running_low t.guest h good.guest (runs_alone t h runs)

-- a running hart doesn't sleep
none_left : (a m : Bool) → a ≡ false → (a && m) ≡ false
none_left true m e = absurd (let no : true ≡ false = e in cc)
none_left false m e = refl

pub running_awake : (t : Timed) (h : ℕ) → is_running t h ≡ true → is_sleeping t h ≡ false
running_awake t h runs = none_left (guests.is_sleeping t.guest h) (not (is_in_line t h)) (own_law.running_awake t.guest h (runs_alone t h runs))

-- the harts that start neither ran nor slept before the retirement
idle_by : (a b m : Bool) → (m ≡ true) ⊎ ((a || b) ≡ false) → ((a && not m) || (b && not m)) ≡ false
idle_by a b m (inl in') = grind arith
idle_by a b m (inr idle) = grind arith

starts_idle : (t : Timed) (h v : ℕ) → IsOrderly t → is_running t h ≡ true → (k : ℕ) → (is_in_line t k ≡ true) ⊎ (is_among k (own.retire t.guest h v).others ≡ true) → is_timed t k ≡ false
starts_idle t h v good runs k (inl here) = idle_by (guests.is_sleeping t.guest k) (guests.is_running t.guest k) (is_in_line t k) (inl here)
starts_idle t h v good runs k (inr other) =
    idle_by (guests.is_sleeping t.guest k) (guests.is_running t.guest k) (is_in_line t k) (inr (own_law.others_idle t.guest h v good.guest (runs_alone t h runs) k other))

starts_from : (t : Timed) (h v : ℕ) (k : ℕ) → is_among k (retire t h v).others ≡ true → (is_in_line t k ≡ true) ⊎ (is_among k (own.retire t.guest h v).others ≡ true)
starts_from t h v k among =
    let r : Retirement guests.Guest = own.retire t.guest h v in
    let T : Timing = t.beside.timing in
    ⊎_elim
    (λ (is : keeps T ≡ true).
    among_either k t.beside.seats.ready r.others
    (from_line T.cores (v + 100 * T.slice) h (is_over_at t.beside.seats h v (gives_up t.guest h)) r.others r.fate t.beside.seats k
    (subst (λ (q : Retirement Timed). is_among k q.others ≡ true) (retires_kept t h v x.guest refl is) among)))
    (λ (none : keeps T ≡ false). inr (subst (λ (q : Retirement Timed). is_among k q.others ≡ true) (retires_plain t h v none) among))
    (cases_Bool (keeps T))

pub others_idle : (t : Timed) (h v : ℕ) → IsOrderly t → is_running t h ≡ true → (k : ℕ) → is_among k (retire t h v).others ≡ true → is_timed t k ≡ false
others_idle t h v good runs k among = starts_idle t h v good runs k (starts_from t h v k among)

-- the fate is the guest's, or the hart waits
fate_by : (t : Timed) (h v : ℕ) → ((retire t h v).fate ≡ (own.retire t.guest h v).fate) ⊎ ((retire t h v).fate ≡ Waits)
fate_by t h v =
    let r : Retirement guests.Guest = own.retire t.guest h v in
    let T : Timing = t.beside.timing in
    ⊎_elim
    (λ (is : keeps T ≡ true).
    subst (λ (q : Retirement Timed). (q.fate ≡ r.fate) ⊎ (q.fate ≡ Waits)) (sym (retires_kept t h v x.guest refl is))
    (has_fate T.cores (v + 100 * T.slice) h (is_over_at t.beside.seats h v (gives_up t.guest h)) r.others r.fate t.beside.seats))
    (λ (none : keeps T ≡ false). inl (ap (λ (q : Retirement Timed). q.fate) (retires_plain t h v none)))
    (cases_Bool (keeps T))

own_fate : (f own' g : Fate) → (f ≡ own') ⊎ (f ≡ Waits) → f ≡ g → (Waits ≡ g → ⊥) → own' ≡ g
own_fate f own' g (inl same) is never = sym same ∙ is
own_fate f own' g (inr waits) is never = absurd (never (sym waits ∙ is))

-- the moment of a wake is small
pub sleeps_few : (t : Timed) (h v : ℕ) → IsOrderly t → is_running t h ≡ true → (moment : ℕ) → (retire t h v).fate ≡ Sleeps moment → moment ≤ 10 ^ 16
sleeps_few t h v good runs moment is =
    own_law.sleeps_few t.guest h v good.guest (runs_alone t h runs) moment
    (own_fate (retire t h v).fate (own.retire t.guest h v).fate (Sleeps moment) (fate_by t h v) is (λ no. cc))

-- a trap is that of the hart that retires
pub own_trap : (t : Timed) (h v : ℕ) → IsOrderly t → is_running t h ≡ true → (trap : Trap) → (retire t h v).fate ≡ Ends (Trapped trap) → trap.hart.0 ≡ h
own_trap t h v good runs trap is =
    own_law.own_trap t.guest h v good.guest (runs_alone t h runs) trap
    (own_fate (retire t h v).fate (own.retire t.guest h v).fate (Ends (Trapped trap)) (fate_by t h v) is (λ no. cc))

-- what it was made with stays
made_by : (t after : Timed) → after.beside.timing ≡ t.beside.timing → after.index ≡ t.index → guests.making after.guest ≡ guests.making t.guest → making after ≡ making t
made_by t after timing lines made =
    ap (λ (m : guests.Making). let q : Making = record { guest = m; timing = after.beside.timing; index = after.index } in q) made
    ∙ ap (λ (m : Timing). let q : Making = record { guest = guests.making t.guest; timing = m; index = after.index } in q) timing
    ∙ ap (λ (m : Index). let q : Making = record { guest = guests.making t.guest; timing = t.beside.timing; index = m } in q) lines

pub retire-made : (t : Timed) (h v : ℕ) → IsOrderly t → is_running t h ≡ true → making (retire t h v).guest ≡ making t
unfolding retire
retire-made t h v good runs = made_by t (retire t h v).guest refl refl (own_law.retire-made t.guest h v good.guest (runs_alone t h runs))

-- there is room in the line for those that the guest makes or wakes, and they have low numbers
pub room : (t : Timed) (h v : ℕ) → IsOrderly t → is_running t h ≡ true → length t.beside.seats.ready + length (own.retire t.guest h v).others < 256
room t h v good runs =
    line_room x own_order.IsOrderly 256 alone (own_fresh no_lines plain) (own_numbered no_lines plain) t.guest t.beside.seats.ready h v good.guest good.apart good.timed
    (runs_alone t h runs)
    (not-true (is_in_line t h) (and_parts (guests.is_running t.guest h) (not (is_in_line t h)) runs).1)
    (λ k among. own_law.others_low t.guest h v good.guest (runs_alone t h runs) k among)
