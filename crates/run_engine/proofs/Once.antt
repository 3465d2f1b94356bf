-- The retirement of a hart that goes on and starts no other, on any machine.
use Rattle.std.proofs.Common.{◌≡◌, ℕ, ◌+◌, ◌^◌, ◌≤◌, ◌<◌, Bool, true, false, if◌then◌else◌, ◌==◌, nat_le, List, [], ◌∷◌, ◌++◌, length, Option, Some, None, is_some, filter, refl, sym, ap, subst, ◌∙◌, arith, eq-eqb, ne_eqb, ◌⊎◌, inl, inr}
use Rattle.std.proofs.lemmas.Bool.{cases_eq}
use Rattle.std.proofs.lemmas.Bool.Decides.{nat_tests}
use Rattle.std.proofs.lemmas.List.{length-set, set-set}
use Rattle.coz_types.specs.declared.ending.Ending.{Ending}
use Rattle.hart_schedule.specs.Keys.{Keys, key_of, with_key, without_key, IsLeast}
use Rattle.machines.specs.declared.Fate.{Fate}
use Rattle.machines.specs.declared.Fate.TheVariants.{Goes, Sleeps}
use Rattle.machines.specs.Guest.{Retirement, own_ending}
use Rattle.progress_points.specs.Points.{point_of}
use Rattle.timed_guest.specs.Counts.{CountsWithin}
use Rattle.timed_guest.specs.Guest.{Timed, pc_of, is_running, is_timed, IsMade}
use Rattle.timed_guest.specs.Retire.{retire, retirement}
use Rattle.timed_guest.specs.Orderly.{IsOrderly}
use Rattle.timed_guest.proofs.Growing.{retired_within}
use Rattle.timed_guest.proofs.Law.{sleeps_few, timed_low}
use Rattle.run_engine.specs.declared.choice.Setting.{Setting}
use Rattle.run_engine.specs.declared.engine.Engine.{Engine}
use Rattle.run_engine.specs.Visits.{visits_of}
use Rattle.run_engine.specs.Begin.{last_moment, keys_at_rest, many, AreBegun}
use Rattle.run_engine.specs.Run.{IsSetting, is_selected_in, selected_of, ticks_in}
use Rattle.run_engine.specs.Engine.{IsSteady, IsOnMachine}
use Rattle.run_engine.specs.Ending.{ending_of}
use Rattle.run_engine.specs.Advance.{told_in, CanComplete, IsCompleted, IsRetired}
use Rattle.run_engine.specs.Far.{IsQuiet, IsFarRetired, HasPassed}
use Rattle.run_engine.proofs.Keys.{has_place, over_key_at, without_key_at}
use Rattle.run_engine.proofs.Many.{many_few, many_with}
use Rattle.run_engine.proofs.Begin.{woken_begun, one_at_most}
use Rattle.run_engine.proofs.Law.{law}
use Rattle.run_engine.proofs.Grown.{retire_timing, retire_index}
use Rattle.run_engine.proofs.Moves.{engine_of}
use Rattle.run_engine.proofs.Advance.{IsLeft, advance_goes, idle_then, settled}
use Rattle.run_engine.proofs.Quiet.{alike, none_visited}

-- a hart goes on from here, alone, and the run does
pub record GoesAlone (setting : Setting) (engine : Engine) (h due : ℕ) (after : Timed) : Type 0 where
  pub valid : IsSetting setting
  pub steady : IsSteady engine
  pub machine : IsOnMachine setting engine
  pub turn : key_of engine.schedule h ≡ Some due
  pub first : IsLeast engine.schedule h
  pub running : is_running engine.guest h ≡ true
  pub point : point_of setting.points.now (pc_of engine.guest h) ≡ None
  pub retires : retirement after Goes [] ≡ retire engine.guest h due
  pub output : nat_le setting.choice.output_limit (length after.guest.output) ≡ false
  pub visits : nat_le setting.choice.visit_limit (length engine.visits.kept) ≡ false
  pub budget : engine.retired + 1 < setting.choice.budget

still_below : (budget n : ℕ) → n < budget → nat_le budget n ≡ false
still_below budget n below = grind (arith, nat_tests)

-- none of a hart that is not selected
unselected : (p : ℕ → Bool) (h : ℕ) → p h ≡ false → filter p (h ∷ []) ≡ []
unselected p h none = rw none refl

module _ (setting : Setting) (engine : Engine) (h due : ℕ) (after : Timed) (can : GoesAlone setting engine h due after) where
  abbrev pub rest : Keys
  rest = without_key h engine.schedule

  abbrev pub next : ℕ
  next = due + ticks_in setting after h

  abbrev pub keys : Keys
  keys = with_key h next rest

  abbrev pub chosen : List ℕ
  chosen = selected_of setting after (h ∷ [])

  abbrev pub starts : ℕ
  starts = engine.starts + length chosen

  abbrev pub alone_on : Engine
  alone_on = engine_of due after keys [] chosen engine.visits (engine.retired + 1) engine.wakes starts None

  below : h < length engine.schedule
  below = has_place engine.schedule h due can.turn

  rest_below : h < length rest
  rest_below = subst (λ (n : ℕ). h < n) (sym (length-set engine.schedule h None)) below

  none_here : key_of rest h ≡ None
  none_here = without_key_at engine.schedule h h ∙ rw (eq-eqb h h refl) refl

  none_kept : (delay : ℕ) → engine.visits ≡ record engine.visits { kept = engine.visits.kept ++ visits_of (point_of setting.points.now (pc_of engine.guest h)) h (due + delay) delay }
  none_kept delay = none_visited engine.visits (point_of setting.points.now (pc_of engine.guest h)) h (due + delay) delay can.point

  no_ending : None ≡ ending_of Goes (nat_le setting.choice.output_limit (length after.guest.output)) (nat_le setting.choice.visit_limit (length engine.visits.kept)) true (engine.retired + 1) setting.choice.budget
  no_ending = rw (can.output, can.visits, still_below setting.choice.budget (engine.retired + 1) can.budget) refl

  left : (delay : ℕ) → IsLeft setting engine rest h due delay after Goes [] engine.visits (pc_of engine.guest h) None
  left delay = record {
    steady = can.steady;
    running = can.running;
    turn = can.turn;
    first = can.first;
    taken = refl;
    place = refl;
    retires = can.retires;
    keeps = none_kept delay;
    ends = no_ending;
  }

  begun : AreBegun (ticks_in setting after) due (h ∷ []) rest keys
  begun =
      woken_begun (ticks_in setting after) due h rest keys rest_below
      (ap (with_key h next) (sym (set-set engine.schedule h None None)))

  more : many keys ≡ many rest + 1
  more = many_with rest h next rest_below none_here

  few_chosen : length chosen ≤ 1
  few_chosen = one_at_most (is_selected_in setting after) h

  same_length : length keys ≡ 256
  same_length = length-set rest h (Some next) ∙ length-set engine.schedule h None ∙ can.steady.room

  pub alone_retired : (delay : ℕ) → IsRetired setting engine h Goes delay alone_on
  alone_retired delay =
      advance_goes setting engine rest h due delay after Goes [] engine.visits (pc_of engine.guest h) None (left delay) keys chosen starts
      refl can.valid.choice.speedup begun refl same_length refl (omega (arith, more, few_chosen))

  pub alone_far : (delay : ℕ) → IsFarRetired setting engine h Goes delay alone_on
  alone_far delay = (engine, 0, refl, alone_retired delay)

  pub alone_is : (others picked : List ℕ) (now : Keys) (count : ℕ) → now ≡ keys → others ≡ [] → picked ≡ chosen → count ≡ engine.starts + length picked
      → alone_on ≡ engine_of due after now others picked engine.visits (engine.retired + 1) engine.wakes count engine.ending
  alone_is others picked now count put none picks counts =
      alike refl refl (sym put) (sym none) (sym picks) refl refl refl (sym (counts ∙ ap (λ (hs : List ℕ). engine.starts + length hs) picks)) (sym can.steady.goes)

  key_at : (k : ℕ) → key_of keys k ≡ (if k == h then Some next else key_of engine.schedule k)
  key_at k = over_key_at engine.schedule h next k below

  next_turn : key_of keys h ≡ Some next
  next_turn = key_at h ∙ rw (eq-eqb h h refl) refl

  here_timed : (k : ℕ) → k ≡ h → is_timed after k ≡ true
  here_timed k same = subst (λ (r : Retirement Timed). is_timed r.guest k ≡ true) (sym can.retires) (subst (λ (r : Retirement Timed). is_timed (retire engine.guest h due).guest k ≡ true) can.retires ((law engine.guest.beside.timing engine.guest.index).running engine.guest h due can.steady.orderly can.running (ap (λ (r : Retirement Timed). is_some (own_ending r.fate)) (sym can.retires)) k ∙ (rw (← can.retires, eq-eqb k h same) refl)))

  timed_by : (k : ℕ) → (k ≡ h) ⊎ (k ≡ h → ⊥) → is_timed after k ≡ is_some (key_of keys k)
  timed_by k (inl same) = rw (key_at k, eq-eqb k h same) (here_timed k same)
  timed_by k (inr n) = rw (key_at k, ne_eqb k h n) (subst (λ (r : Retirement Timed). is_timed r.guest k ≡ is_some (key_of engine.schedule k)) (sym can.retires) ((law engine.guest.beside.timing engine.guest.index).running engine.guest h due can.steady.orderly can.running (ap (λ (r : Retirement Timed). is_some (own_ending r.fate)) (sym can.retires)) k ∙ (rw (← can.retires, ne_eqb k h n) (can.steady.timed k))))

  is_orderly : IsOrderly after
  is_orderly = subst (λ (r : Retirement Timed). IsOrderly r.guest) (sym can.retires) ((law engine.guest.beside.timing engine.guest.index).stays_good engine.guest h due can.steady.orderly can.running)

  pub alone_made : IsMade after h
  alone_made = (timed_low after h is_orderly (here_timed h refl)).0

  -- its next instruction is not selected, and due within the moments of a run
  module _ (plain : is_selected_in setting after h ≡ false) (soon : next ≤ last_moment) where
    none_chosen : chosen ≡ []
    none_chosen = unselected (is_selected_in setting after) h plain

    quiet_one : IsQuiet setting engine alone_on
    quiet_one = record {
      hart = h;
      retired = alone_retired;
      started = refl;
      selected = none_chosen;
      starts = ap (λ (hs : List ℕ). engine.starts + length hs) none_chosen ∙ (let sum : engine.starts + 0 ≡ engine.starts = omega arith in sum);
      visits = refl;
      goes = refl;
    }

    within_by : (k key : ℕ) → key_of keys k ≡ Some key → (k ≡ h) ⊎ (k ≡ h → ⊥) → key ≤ last_moment
    within_by k key has (inl same) =
        let is : Some next ≡ Some key = sym next_turn ∙ ap (key_of keys) (sym same) ∙ has in
        let eq : next ≡ key = cc in
        omega (arith, soon, eq)
    within_by k key has (inr n) = can.steady.within k key (sym (rw (ne_eqb k h n) at (key_at k)) ∙ has)

    few_cores : engine.guest.beside.timing.cores ≤ 256
    few_cores = rw can.machine.timing can.valid.machine.timing.few_cores

    counted : CountsWithin (engine.retired + 1 + engine.wakes) after
    counted =
        subst (λ (n : ℕ). CountsWithin n after) (let sum : engine.retired + engine.wakes + 1 ≡ engine.retired + 1 + engine.wakes = omega arith in sum)
        (subst (λ (r : Retirement Timed). CountsWithin (engine.retired + engine.wakes + 1) r.guest) (sym can.retires)
        (retired_within (engine.retired + engine.wakes) engine.guest h due few_cores can.steady.counts))

    still_steady : IsSteady alone_on
    still_steady = record {
      goes = refl;
      orderly = is_orderly;
      timed = λ k. timed_by k (cases_eq k h);
      some_hart = λ empty. let no : ◌≡◌ {A = Option ℕ} None (Some next) = sym (empty h) ∙ next_turn in let never : ⊥ = cc in never;
      room = same_length;
      unfull = can.steady.unfull;
      within = λ k key has. within_by k key has (cases_eq k h);
      retired = omega (arith, can.budget, can.valid.choice.few);
      wakes = can.steady.wakes;
      few = (alone_retired 0).few;
      counts = counted;
    }

    still_machine : IsOnMachine setting alone_on
    still_machine = record {
      timing = ap (λ (r : Retirement Timed). r.guest.beside.timing) can.retires ∙ retire_timing engine.guest h due ∙ can.machine.timing;
      lines = ap (λ (r : Retirement Timed). r.guest.index) can.retires ∙ retire_index engine.guest h due ∙ can.machine.lines;
    }

    pub alone_passed : HasPassed setting engine alone_on
    alone_passed = record {
      count = 1;
      quiet = (engine, refl, quiet_one);
      steady = still_steady;
      machine = still_machine;
      more = omega arith;
      few = omega (arith, can.budget);
    }

-- a retirement of a hart at no point, to this fate
pub record Retires (setting : Setting) (engine : Engine) (h due : ℕ) (after : Timed) (fate : Fate) (others : List ℕ) : Type 0 where
  pub valid : IsSetting setting
  pub steady : IsSteady engine
  pub turn : key_of engine.schedule h ≡ Some due
  pub first : IsLeast engine.schedule h
  pub running : is_running engine.guest h ≡ true
  pub point : point_of setting.points.now (pc_of engine.guest h) ≡ None
  pub retires : retirement after fate others ≡ retire engine.guest h due

module _ (setting : Setting) (engine : Engine) (h due : ℕ) (after : Timed) (fate : Fate) (others chosen : List ℕ) (r : Retires setting engine h due after fate others) (empty : chosen ≡ []) where
  abbrev pub unsettled : Engine
  unsettled = engine_of due after engine.schedule others chosen engine.visits (engine.retired + 1) engine.wakes engine.starts engine.ending

  left_by : (delay : ℕ) (e : Option Ending) → e ≡ told_in setting fate unsettled (keys_at_rest h fate engine.schedule)
      → IsLeft setting engine (keys_at_rest h fate engine.schedule) h due delay after fate others engine.visits (pc_of engine.guest h) e
  left_by delay e is = record {
    steady = r.steady;
    running = r.running;
    turn = r.turn;
    first = r.first;
    taken = refl;
    place = refl;
    retires = r.retires;
    keeps = none_visited engine.visits (point_of setting.points.now (pc_of engine.guest h)) h (due + delay) delay r.point;
    ends = is;
  }

  few_starts : engine.starts ≤ 2 ^ 62
  few_starts =
      let few : many engine.schedule ≤ length engine.schedule = many_few engine.schedule in
      let room : length engine.schedule ≡ 256 = r.steady.room in
      omega (arith, few, room, r.steady.few, r.steady.retired, r.steady.wakes)

  wakes_soon : (moment : ℕ) → fate ≡ Sleeps moment → moment ≤ last_moment
  wakes_soon moment sleeps =
      let few : moment ≤ 10 ^ 16 = sleeps_few engine.guest h due r.steady.orderly r.running moment (ap (λ (q : Retirement Timed). q.fate) (sym r.retires) ∙ sleeps) in
      omega (arith, few)

  pub can_settle : CanComplete setting unsettled h fate
  can_settle = record {
    goes = r.steady.goes;
    below = has_place engine.schedule h due r.turn;
    idle = λ none. idle_then setting engine (keys_at_rest h fate engine.schedule) h due 0 after fate others engine.visits (pc_of engine.guest h) _ (left_by 0 _ refl) none;
    moment = r.steady.within h due r.turn;
    wake = wakes_soon;
    speedup = r.valid.choice.speedup;
    room = r.steady.room;
    selected = empty;
    few = few_starts;
  }

  pub settled_far : (delay : ℕ) (new : Engine) → IsCompleted setting unsettled h fate new → IsFarRetired setting engine h fate delay new
  settled_far delay new did =
      (engine, 0, refl, settled setting engine h due delay after fate others chosen engine.visits (pc_of engine.guest h) new r.valid.choice.speedup empty (left_by delay) did)
