-- The record of a run, and what holds of its states.
use Rattle.std.proofs.Common.{◌≡◌, ◌≢◌, ℕ, ◌+◌, ◌*◌, ◌^◌, ◌≤◌, ◌<◌, length, Bool, not, true, false, ◌||◌, if◌then◌else◌, ◌==◌, List, [], ◌∷◌, get_or, Option, Some, None, IsNone, is_some, refl, ap, sym, subst, ◌∙◌, arith, eq-eqb, ne_eqb, ◌⊎◌, inl, inr, replicate, lit<}
use Rattle.std.proofs.lemmas.Bool.{cases_eq}
use Rattle.std.proofs.lemmas.List.{length-set, length-replicate}
use Rattle.coz_types.specs.declared.ending.Ending.{Ending}
use Rattle.coz_types.specs.declared.ending.Ending.TheVariants.{OutputFull, VisitsFull}
use Rattle.coz_types.specs.Image.{ImageParts}
use Rattle.hart_schedule.specs.Keys.{Keys, key_of, with_key, without_key, IsEmpty}
use Rattle.machines.specs.declared.Fate.{Fate}
use Rattle.machines.specs.declared.Fate.TheVariants.{Goes, Waits, Leaves, Sleeps, Ends}
use Rattle.machines.specs.Guest.{Experiment, Retirement, IsLawful, enough, goes_on, own_ending, ending_if, first_of_two, started_harts}
use Rattle.machines.specs.Places.{is_among}
use Rattle.machines.specs.Shortened.{Shortened, shortened, move, rest}
use Rattle.machines.specs.Records.{IsShortened, shortened_record, net_record_of}
use Rattle.machines.proofs.Ends.{goes_on_at, followed, at_last, record_is, recorded, few as few_events}
use Rattle.guest_memory.specs.declared.Layout.{Layout}
use Rattle.guest_memory.specs.Regions.{usual}
use Rattle.guest_calls.specs.declared.hart.HartStatus.TheVariants.{Running}
use Rattle.guest_calls.specs.Guest as guests
use Rattle.guest_calls.specs.Orderly as own_order
use Rattle.guest_calls.proofs.Law as own_law
use Rattle.line_index.specs.Index.{Index}
use Rattle.progress_points.specs.Points.{point_of}
use Rattle.timing_model.specs.declared.timing.Timing.{Timing}
use Rattle.timed_guest.specs.Guest.{Timed, IsMade, is_running, is_sleeping, is_timed, with_wake, first_guest}
use Rattle.timed_guest.specs.Retire.{retire}
use Rattle.timed_guest.specs.Orderly.{IsOrderly}
use Rattle.timed_guest.specs.Runs.{Run, run_on}
use Rattle.timed_guest.proofs.Law.{lawful, timed_low, others_idle}
use Rattle.run_engine.specs.declared.choice.Choice.{Choice}
use Rattle.run_engine.specs.declared.choice.Setting.{Setting}
use Rattle.run_engine.specs.declared.engine.Engine.{Engine}
use Rattle.run_engine.specs.Visits.{Visits}
use Rattle.run_engine.specs.Begin.{last_moment, started_by, keys_at_rest, many, IsIdle, AreIdle}
use Rattle.run_engine.specs.Ending.{ending_of}
use Rattle.run_engine.specs.Run.{experiment, experiment_in, timed_experiment, has_selected, selected_line, is_selected_in, selected_of, ticks_in, IsSetting}
use Rattle.run_engine.specs.Engine.{events_of, most_ticks, AreWithin, IsStateOf, IsSteady, IsEngineOf, IsOnMachine, IsFirst, state_of}
use Rattle.run_engine.specs.Advance.{AreTicks}
use Rattle.run_engine.proofs.Keys.{has_place, without_key_at, rested_at, rested_length, no_keys}
use Rattle.run_engine.proofs.Many.{many_with}
use Rattle.run_engine.proofs.Begin.{one_at_most, within_later, within_by}
use Rattle.run_engine.proofs.Ticks.{ticks_few, in_time, one_later}
use Rattle.run_engine.proofs.Grown.{IsGrown, grown, first_timing}
use Rattle.run_engine.proofs.Moves.{outcome, engine_of, once_more, first_key, first_state}

-- the experiment on a program is lawful
pub lawful_run : (image : ImageParts) (position point : ℕ → Option ℕ) (input : List ℕ) (choice : Choice) → choice.speedup ≤ 95 → IsLawful (experiment image position point input choice) own_order.IsOrderly
lawful_run image position point input choice small =
    own_law.lawful (has_selected (selected_line choice) position) point image input choice.output_limit choice.layout choice.speedup choice.budget choice.visit_limit (omega arith)

-- and so is that on a machine
pub lawful_on : (timing : Timing) (image : ImageParts) (index : Index) (point : ℕ → Option ℕ) (input : List ℕ) (choice : Choice) → choice.speedup ≤ 95 → IsLawful (timed_experiment timing image index point input choice) IsOrderly
lawful_on timing image index point input choice small =
    lawful timing index
    (record { image = image; input = input; layout = choice.layout; selected = selected_line choice; point_at = point; speedup = choice.speedup; budget = choice.budget; visit_limit = choice.visit_limit; output_limit = choice.output_limit })
    (omega arith)

pub lawful_in : (image : ImageParts) (input : List ℕ) (setting : Setting) → setting.choice.speedup ≤ 95 → IsLawful (experiment_in image input setting) IsOrderly
lawful_in image input setting small = lawful_on setting.timing image setting.index.now (point_of setting.points.now) input setting.choice small

-- an image for laws that don't read it
abbrev pub no_image : ImageParts
no_image = record { file = []; areas = []; entry = 0; headers = 0; header_count = 0 }

abbrev plain : Run
plain = record { image = no_image; input = []; layout = usual; selected = None; point_at = λ _. None; speedup = 0; budget = 1; visit_limit = 1; output_limit = 1 }

-- the laws of a machine
pub law : (timing : Timing) (index : Index) → IsLawful (run_on timing index plain) IsOrderly
law timing index = lawful timing index plain (omega arith)

-- the first hart of a program that begins
pub first_made : (image : ImageParts) (input : List ℕ) (output_limit : ℕ) (layout : Layout) (timing : Timing) (index : Index) → IsMade (first_guest image input output_limit layout timing index) 0
first_made image input output_limit layout timing index =
    let run : Run = record plain { image = image; input = input; output_limit = output_limit; layout = layout } in
    let first : IsLawful (run_on timing index run) IsOrderly = lawful timing index run (omega arith) in
    (timed_low (first_guest image input output_limit layout timing index) 0 first.first_good (first.first_running 0)).0

first_of : (o p : Option Ending) → first_of_two o p ≡ None → o ≡ None
first_of None p none = refl
first_of (Some a) p none = absurd (let no : ◌≡◌ {A = Option Ending} (Some a) None = none in cc)

-- if the run goes on the guest asks for no ending
pub none_own : (fate : Fate) (output_full visits_full some_hart_runs : Bool) (retired budget : ℕ) → ending_of fate output_full visits_full some_hart_runs retired budget ≡ None → own_ending fate ≡ None
none_own fate output_full visits_full some_hart_runs retired budget none = first_of (own_ending fate) _ none

rest_of : (o p : Option Ending) → first_of_two o p ≡ None → p ≡ None
rest_of None p none = none
rest_of (Some a) p none = absurd (let no : ◌≡◌ {A = Option Ending} (Some a) None = none in cc)

not_when : (b : Bool) (e : Ending) → ending_if b e ≡ None → b ≡ false
not_when true e none = absurd (let no : ◌≡◌ {A = Option Ending} (Some e) None = none in cc)
not_when false e none = refl

-- nor are the visits full
pub none_full : (fate : Fate) (output_full visits_full some_hart_runs : Bool) (retired budget : ℕ) → ending_of fate output_full visits_full some_hart_runs retired budget ≡ None → visits_full ≡ false
none_full fate output_full visits_full some_hart_runs retired budget none =
    not_when visits_full VisitsFull (first_of (ending_if visits_full VisitsFull) _ (rest_of (ending_if output_full OutputFull) _ (rest_of (own_ending fate) _ none)))

none_key : (o : Option ℕ) → is_some o ≡ false → o ≡ None
none_key None e = refl
none_key (Some v) e = absurd (let no : true ≡ false = e in cc)

pub none_is : (o : Option Ending) (b : Bool) → is_some o ≡ not b → b ≡ true → o ≡ None
none_is None b some is = refl
none_is (Some e) b some is = absurd (let no : true ≡ not b = some in cc)

pub none_when : (o : Option Ending) → is_some o ≡ false → o ≡ None
none_when None is = refl
none_when (Some e) is = absurd (let no : true ≡ false = is in cc)

pub some_when : (o : Option Ending) → is_some o ≡ true → (e : Ending) × (o ≡ Some e)
some_when (Some e) is = (e, refl)
some_when None is = absurd (let no : false ≡ true = is in cc)

-- a running hart whose turn it is retires, of those that are due
pub record IsTurn (g : Timed) (keys : Keys) (h due : ℕ) : Type 0 where
  pub orderly : IsOrderly g
  pub timed : (hart : ℕ) → is_timed g hart ≡ is_some (key_of keys hart)
  pub running : is_running g h ≡ true
  pub room : length keys ≡ 256
  pub turn : key_of keys h ≡ Some due

-- a hart that is due and doesn't sleep runs
pub turn_runs : (g : Timed) (h : ℕ) → is_timed g h ≡ true → is_sleeping g h ≡ false → is_running g h ≡ true
turn_runs g h timed awake = or_other (is_sleeping g h) (is_running g h) timed awake
  where
    or_other : (a b : Bool) → (a || b) ≡ true → a ≡ false → b ≡ true
    or_other true b e f = absurd (let no : true ≡ false = f in cc)
    or_other false b e f = e

among_others : (goes : Bool) (k h : ℕ) (others : List ℕ) → k ≢ h → is_among k (if goes then h ∷ others else others) ≡ true → is_among k others ≡ true
among_others true k h others n e = rw (ne_eqb k h n) at e
among_others false k h others n e = e

among_self : (goes : Bool) (h : ℕ) (others : List ℕ) → is_among h (if goes then h ∷ others else others) ≡ true → (goes ≡ true) ⊎ (is_among h others ≡ true)
among_self true h others e = inl refl
among_self false h others e = inr e

rest_goes : (fate : Fate) → goes_on fate ≡ true → rest fate ≡ None
rest_goes Goes e = refl
rest_goes Waits e = refl
rest_goes Leaves e = refl
rest_goes (Sleeps moment) e = absurd (let no : false ≡ true = e in cc)
rest_goes (Ends ending) e = refl

-- the harts that a retirement makes or wakes aren't due before it
idle_other : (g : Timed) (keys : Keys) (h due k : ℕ) → IsTurn g keys h due → is_among k (retire g h due).others ≡ true → is_some (key_of keys k) ≡ false
idle_other g keys h due k t other = sym (t.timed k) ∙ others_idle g h due t.orderly t.running k other

absent_self : (g : Timed) (keys : Keys) (h due : ℕ) → IsTurn g keys h due → (goes_on (retire g h due).fate ≡ true) ⊎ (is_among h (retire g h due).others ≡ true) → rest (retire g h due).fate ≡ None
absent_self g keys h due t (inl goes) = rest_goes (retire g h due).fate goes
absent_self g keys h due t (inr other) = absurd (let no : true ≡ false = ap is_some (sym t.turn) ∙ idle_other g keys h due h t other in cc)

absent_by : (g : Timed) (keys : Keys) (h due k : ℕ) → IsTurn g keys h due → is_among k (started_harts h (retire g h due)) ≡ true → (k ≡ h) ⊎ (k ≡ h → ⊥)
    → (if k == h then rest (retire g h due).fate else key_of keys k) ≡ None
absent_by g keys h due k t among (inl same) =
    rw (eq-eqb k h same)
    (absent_self g keys h due t
    (among_self (goes_on (retire g h due).fate) h (retire g h due).others (ap (λ (n : ℕ). is_among n (started_harts h (retire g h due))) (sym same) ∙ among)))
absent_by g keys h due k t among (inr n) =
    let other : is_among k (retire g h due).others ≡ true = among_others (goes_on (retire g h due).fate) k h (retire g h due).others n among in
    rw (ne_eqb k h n) (none_key (key_of keys k) (idle_other g keys h due k t other))

idle_by : (g : Timed) (keys : Keys) (h due : ℕ) → IsTurn g keys h due → IsNone (own_ending (retire g h due).fate) → AreIdle (retire g h due).guest (keys_at_rest h (retire g h due).fate keys) (started_harts h (retire g h due))
idle_by g keys h due t none =
    let after : Timed = (retire g h due).guest in
    let fate : Fate = (retire g h due).fate in
    let rules = law g.beside.timing g.index in
    let good : IsOrderly after = rules.stays_good g h due t.orderly t.running in
    record {
      apart = rules.apart g h due t.orderly t.running;
      idle = λ k among.
          let timed : is_timed after k ≡ true = rules.running g h due t.orderly t.running none k ∙ rw among refl in
          let low = timed_low after k good timed in
          record {
            made = low.0;
            below = rw (rested_length fate keys h, t.room) low.1;
            absent = rested_at fate keys h k (has_place keys h due t.turn) ∙ absent_by g keys h due k t among (cases_eq k h);
          };
    }

-- the harts that a retirement started can begin
pub started_idle : (g : Timed) (keys : Keys) (h due : ℕ) (after : Timed) (fate : Fate) (others : List ℕ) → IsTurn g keys h due → outcome after fate others ≡ retire g h due → own_ending fate ≡ None
    → AreIdle after (keys_at_rest h fate keys) (started_by h fate others)
started_idle g keys h due after fate others t retires own =
    let none : IsNone (own_ending (retire g h due).fate) = ap is_some (ap (λ (r : Retirement Timed). own_ending r.fate) (sym retires) ∙ own) in
    subst (λ (r : Retirement Timed). AreIdle r.guest (keys_at_rest h r.fate keys) (started_harts h r)) (sym retires) (idle_by g keys h due t none)

-- a hart that sleeps can begin
pub woken_idle : (g : Timed) (keys : Keys) (h due : ℕ) → IsOrderly g → is_sleeping g h ≡ true → length keys ≡ 256 → key_of keys h ≡ Some due → IsIdle (with_wake h g) (without_key h keys) h
woken_idle g keys h due good asleep room turn =
    let timed : is_timed g h ≡ true = ap (λ (b : Bool). b || is_running g h) asleep in
    let low = timed_low g h good timed in
    record {
      made = rw (length-set g.guest.harts h (record (guests.hart_at g.guest h) { status = Running })) low.0;
      below = rw (length-set keys h None, room) low.1;
      absent = without_key_at keys h h ∙ rw (eq-eqb h h refl) refl;
    }

module _ (image : ImageParts) (input : List ℕ) (setting : Setting) (valid : IsSetting setting) (engine : Engine) (r : IsEngineOf (experiment_in image input setting) engine) where
  abbrev pub x : Experiment Timed
  x = experiment_in image input setting

  abbrev pub s : Shortened Timed
  s = shortened x (events_of engine)

  abbrev choice : Choice
  choice = setting.choice

  abbrev most : ℕ
  most = most_ticks x.first.beside.timing

  first_machine : x.first.beside.timing ≡ setting.timing
  first_machine = first_timing image input setting.choice.output_limit setting.choice.layout setting.timing setting.index.now

  abbrev is_lawful : IsLawful x IsOrderly
  is_lawful = lawful_in image input setting valid.choice.speedup

  -- the guest after so many events
  grown_at : (n : ℕ) → IsGrown setting.timing setting.index.now n (shortened x n).guest
  grown_at n = grown setting.timing image setting.index.now (point_of setting.points.now) input choice valid.machine.timing.few_cores n

  guest_is : s.guest ≡ engine.guest
  guest_is = ap (λ (t : Shortened Timed). t.guest) r.reached.state

  pub ending_is : s.ending ≡ engine.ending
  ending_is = ap (λ (t : Shortened Timed). t.ending) r.reached.state

  retired_below : (s.retired ≡ 0) ⊎ (s.retired < choice.budget) → s.retired ≡ engine.retired → engine.retired < choice.budget
  retired_below within count = let some : 1 ≤ choice.budget = valid.choice.some_budget in omega arith

  -- each wake followed a retirement
  pub followed_by : engine.wakes ≤ engine.retired
  followed_by =
      let each = followed x IsOrderly is_lawful (events_of engine) in
      let wakes : s.wakes ≡ engine.wakes = ap (λ (t : Shortened Timed). t.wakes) r.reached.state in
      let retired : s.retired ≡ engine.retired = ap (λ (t : Shortened Timed). t.retired) r.reached.state in
      omega (arith, each, wakes, retired)

  -- a run that goes on has budget left
  pub below_budget : engine.ending ≡ None → engine.retired < choice.budget
  below_budget none =
      let g = goes_on_at x IsOrderly is_lawful (events_of engine) (ending_is ∙ none) in
      retired_below g.lives.within (ap (λ (t : Shortened Timed). t.retired) r.reached.state)

  grown_now : IsGrown setting.timing setting.index.now (events_of engine) engine.guest
  grown_now = subst (IsGrown setting.timing setting.index.now (events_of engine)) guest_is (grown_at (events_of engine))

  -- the machine stays that of the setting
  pub on_machine : IsOnMachine setting engine
  on_machine = record { timing = grown_now.timing; lines = grown_now.index }

  not_empty : (k : ℕ) → is_some (get_or s.dues k None) ≡ true → ¬ IsEmpty engine.schedule
  not_empty k some empty = let no : false ≡ true = ap is_some (sym (empty k) ∙ r.reached.dues k) ∙ some in absurd cc

  pub steady : engine.ending ≡ None → IsSteady engine
  steady none =
      let g = goes_on_at x IsOrderly is_lawful (events_of engine) (ending_is ∙ none) in
      let few : choice.budget ≤ 10 ^ 12 = valid.choice.few in
      let below : engine.retired ≤ choice.budget = r.retired in
      record {
        goes = none;
        orderly = subst IsOrderly guest_is g.lives.good;
        timed = λ k. ap (λ (g : Timed). is_timed g k) (sym guest_is) ∙ g.lives.running k ∙ ap is_some (sym (r.reached.dues k));
        some_hart = not_empty g.lives.some_hart.0 g.lives.some_hart.1;
        room = r.room;
        unfull = subst (λ (n : ℕ). length engine.visits.kept < n) (sym r.limit) (r.unfull none);
        within = within_later (10 ^ 16 + most * (events_of engine + 1)) last_moment engine.schedule (subst (λ (t : Timing). 10 ^ 16 + most_ticks t * (events_of engine + 1) ≤ last_moment) (sym first_machine) (in_time setting.timing choice.budget (events_of engine) valid.machine few (omega (arith, below, followed_by)))) r.within;
        retired = omega (arith, below, few);
        wakes = omega (arith, below, few, followed_by);
        few = r.few;
        counts = grown_now.counts;
      }

  moved_state : (new : Engine) → IsStateOf new (move x (state_of engine s.dues)) → events_of new ≡ events_of engine + 1 → IsStateOf new (shortened x (events_of new))
  moved_state new moved next =
      subst (IsStateOf new) (ap (move x) (sym r.reached.state) ∙ once_more x (events_of engine) (events_of new) next) moved

  -- an engine after another event is on the machine too
  next_ticks : (new : Engine) → IsStateOf new (shortened x (events_of new)) → AreTicks most setting new.guest
  next_ticks new reached h =
      let grown : IsGrown setting.timing setting.index.now (events_of new) new.guest = subst (IsGrown setting.timing setting.index.now (events_of new)) (ap (λ (t : Shortened Timed). t.guest) reached.state) (grown_at (events_of new)) in
      subst (λ (t : Timing). ticks_in setting new.guest h ≤ most_ticks t) (grown.timing ∙ sym first_machine) (ticks_few setting new.guest h)

  -- what holds of a run holds after a move
  pub reached_next : (new : Engine) → engine.ending ≡ None → IsStateOf new (move x (state_of engine s.dues)) → length new.schedule ≡ 256 → new.visits.limit ≡ engine.visits.limit
      → (new.ending ≡ None → length new.visits.kept < choice.visit_limit) → new.retired ≡ engine.retired + 1 → new.wakes ≡ engine.wakes → new.starts ≤ events_of new + many new.schedule
      → ((most : ℕ) → AreTicks most setting new.guest → (moment : ℕ) → 10 ^ 16 ≤ moment → AreWithin moment engine.schedule → AreWithin (moment + most) new.schedule) → IsEngineOf x new
  reached_next new none moved room limit unfull next same few within = record {
    reached = moved_state new moved (omega (arith, next, same));
    room = room;
    limit = limit ∙ r.limit;
    unfull = unfull;
    retired = let below : engine.retired < choice.budget = below_budget none in omega arith;
    few = few;
    within =
        subst (λ (moment : ℕ). AreWithin moment new.schedule) (one_later most (events_of engine) (events_of new) (omega (arith, next, same)))
        (within most (next_ticks new (moved_state new moved (omega (arith, next, same)))) (10 ^ 16 + most * (events_of engine + 1)) (omega arith) r.within);
  }

  -- and after a wake
  pub reached_woken : (new : Engine) → engine.ending ≡ None → IsStateOf new (move x (state_of engine s.dues)) → length new.schedule ≡ 256 → new.visits ≡ engine.visits → new.retired ≡ engine.retired → new.wakes ≡ engine.wakes + 1
      → new.starts ≤ events_of new + many new.schedule → ((most : ℕ) → AreTicks most setting new.guest → (moment : ℕ) → AreWithin moment engine.schedule → AreWithin (moment + most) new.schedule) → IsEngineOf x new
  reached_woken new none moved room visits same next few within = record {
    reached = moved_state new moved (omega (arith, next, same));
    room = room;
    limit = ap (λ (v : Visits). v.limit) visits ∙ r.limit;
    unfull = λ _. subst (λ (v : Visits). length v.kept < choice.visit_limit) (sym visits) (r.unfull none);
    retired = let below : engine.retired ≤ choice.budget = r.retired in omega (arith, below, same);
    few = few;
    within =
        subst (λ (moment : ℕ). AreWithin moment new.schedule) (one_later most (events_of engine) (events_of new) (omega (arith, next, same)))
        (within most (next_ticks new (moved_state new moved (omega (arith, next, same)))) (10 ^ 16 + most * (events_of engine + 1)) r.within);
  }

  -- a run that goes on has come to fewer events than it can
  pub events_below : engine.ending ≡ None → events_of engine < 2 * choice.budget
  events_below none = few_events x IsOrderly is_lawful (events_of engine) valid.choice.some_budget (goes_on_at x IsOrderly is_lawful (events_of engine) (ending_is ∙ none))

  pub ended_now : (e : Ending) → engine.ending ≡ Some e → s.ending ≡ Some e
  ended_now e ended = ending_is ∙ ended

  -- no more than the run can come to
  pub within_enough : events_of engine ≤ 2 * choice.budget
  within_enough = let below : engine.retired ≤ choice.budget = r.retired in omega (arith, followed_by)

  pub last_now : (e : Ending) → engine.ending ≡ Some e → s ≡ shortened x (enough x)
  last_now e ended = at_last x IsOrderly is_lawful (events_of engine) e within_enough (ending_is ∙ ended)

  -- the record of a run that has ended
  pub recorded_now : (e : Ending) → engine.ending ≡ Some e → net_record_of x s e ≡ shortened_record x
  recorded_now e ended = recorded x IsOrderly is_lawful (events_of engine) e within_enough (ending_is ∙ ended)

-- the record of a program's run is one that it ends with
pub shortened_is : (image : ImageParts) (input : List ℕ) (setting : Setting) → IsSetting setting → IsShortened (experiment_in image input setting) (shortened_record (experiment_in image input setting))
shortened_is image input setting valid = record_is (experiment_in image input setting) IsOrderly (lawful_in image input setting valid.choice.speedup) valid.choice.some_budget

-- a program that was loaded, and its first hart
pub new_idle : (g : Timed) (keys : Keys) → keys ≡ replicate 256 None → IsMade g 0 → IsIdle g keys 0
new_idle g keys empty made = record {
  made = made;
  below = rw (empty, length-replicate) (lit< tt);
  absent = ap (λ (keys : Keys). key_of keys 0) empty ∙ no_keys 256 0;
}

none_due : (due : ℕ) → ◌≡◌ {A = Option ℕ} None (Some due) → ⊥
none_due due clash = cc

first_within : (most : ℕ) (ticks : ℕ → ℕ) (keys : Keys) → ticks 0 ≤ most → keys ≡ with_key 0 (0 + ticks 0) (replicate 256 None) → AreWithin (10 ^ 16 + most * (0 + 0 + 1)) keys
first_within most ticks keys few is k due has =
    let soon : due ≤ 0 + most = within_by most ticks 0 0 due (k == 0) (key_of keys k) None 0 few (first_key (0 + ticks 0) keys is k) (omega arith) (λ v e. absurd (none_due v e)) has in
    omega arith

-- as a run begins
pub first_engine : (setting : Setting) (image : ImageParts) (input : List ℕ) (g : Timed) (keys : Keys) (others selected : List ℕ) (visits : Visits) (starts : ℕ) → IsSetting setting
    → g ≡ first_guest image input setting.choice.output_limit setting.choice.layout setting.timing setting.index.now → keys ≡ with_key 0 (0 + ticks_in setting g 0) (replicate 256 None)
    → visits ≡ record { kept = []; limit = setting.choice.visit_limit } → selected ≡ selected_of setting g (0 ∷ []) → starts ≡ length selected
    → IsFirst setting image input (engine_of 0 g keys others selected visits 0 0 starts None)
first_engine setting image input g keys others selected visits starts valid is made none chosen counted =
    let first : Timed = first_guest image input setting.choice.output_limit setting.choice.layout setting.timing setting.index.now in
    let empty : Keys = replicate 256 None in
    let ticks : ℕ = 0 + ticks_in setting g 0 in
    let kept : visits.kept ≡ [] = ap (λ (vs : Visits). vs.kept) none in
    let limit : visits.limit ≡ setting.choice.visit_limit = ap (λ (vs : Visits). vs.limit) none in
    let none_kept : length visits.kept ≡ 0 = ap length kept in
    let some : 1 ≤ setting.choice.visit_limit = valid.choice.some_visits in
    let one : length (selected_of setting g (0 ∷ [])) ≤ 1 = one_at_most (is_selected_in setting g) 0 in
    let same : length selected ≡ length (selected_of setting g (0 ∷ [])) = ap length chosen in
    let below : 0 < length empty = rw length-replicate (lit< tt) in
    let more : many keys ≡ many empty + 1 = ap many made ∙ many_with empty 0 ticks below (no_keys 256 0) in
    let timing : g.beside.timing ≡ first.beside.timing = ap (λ (t : Timed). t.beside.timing) is in
    record {
      reached = record {
        reached = first_state setting first g keys others selected visits starts valid.choice.speedup is made kept (counted ∙ ap length chosen);
        room = ap length made ∙ length-set empty 0 (Some ticks) ∙ length-replicate {A = Option ℕ} 256 None;
        limit = limit;
        unfull = λ _. omega (arith, none_kept, some);
        retired = omega arith;
        few = omega (arith, counted, same, one, more);
        within = first_within (most_ticks first.beside.timing) (ticks_in setting g) keys (subst (λ (t : Timing). ticks_in setting g 0 ≤ most_ticks t) timing (ticks_few setting g 0)) made;
      };
      retired = refl;
      wakes = refl;
      ending = refl;
      kept = kept;
      selected = chosen;
    }
