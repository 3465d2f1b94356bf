-- A machine at another speedup, from one at speedup 0 that counted no start before the beginning it stands after.
use Rattle.std.proofs.Common.{◌≡◌, ℕ, ◌+◌, ◌-◌, ◌*◌, ◌^◌, ◌≤◌, ◌<◌, Bool, true, false, if◌then◌else◌, ◌==◌, List, [], ◌∷◌, length, get_or, filter, fold, refl, sym, ap, ap₂, ◌∙◌, subst, arith, Option, Some, None, is_some, eq-eqb, mul_comm}
use Rattle.coz_types.specs.declared.ending.Ending.{Ending}
use Rattle.coz_types.specs.Image.{ImageParts}
use Rattle.timing_model.specs.declared.timing.Timing.{Timing}
use Rattle.run_engine.specs.Engine.{most_ticks}
use Rattle.virtual_run.proofs.Cuts.{ticks_within}
use Rattle.hart_schedule.specs.Keys.{Keys, key_of}
use Rattle.machines.specs.Places.{is_among, AllApart}
use Rattle.machines.specs.Guest.{Experiment, IsLawful, cut}
use Rattle.machines.specs.Delayed.{Delayed, Hart, idle_hart, has_load, raise}
use Rattle.machines.specs.Shortened.{Shortened, shortened}
use Rattle.machines.specs.Standing.{standing}
use Rattle.machines.specs.Lead.{Before, at_speedup, before, raise_counted}
use Rattle.machines.proofs.Begin.{unchanged}
use Rattle.machines.proofs.Harts.{alike}
use Rattle.machines.proofs.Lead.{standing_begins, begin_starts, forked, same_before}
use Rattle.machines.proofs.LeadDues.{dues_forked}
use Rattle.machines.proofs.LeadForks.{before_guest, ended_begins, filter_apart, begins_apart, begun_due, rest_forked, parts_forked}
use Rattle.delay_credits.specs.Delays.{Delays}
use Rattle.timed_guest.specs.Guest.{Timed}
use Rattle.timed_guest.specs.Orderly.{IsOrderly}
use Rattle.timed_guest.specs.Retire.{cycles_of_next}
use Rattle.timed_guest.proofs.Law.{timed_low}
use Rattle.run_engine.specs.declared.choice.Choice.{Choice}
use Rattle.run_engine.specs.declared.choice.Setting.{Setting}
use Rattle.run_engine.specs.declared.engine.Engine.{Engine}
use Rattle.run_engine.specs.Begin.{many}
use Rattle.run_engine.specs.Run.{IsSetting, experiment_in}
use Rattle.run_engine.specs.Engine.{events_of, IsEngineOf, IsSteady}
use Rattle.virtual_run.specs.Credited.{raise_ticks, with_one_raise, with_raises, Holds, AllRun, AllMade}
use Rattle.virtual_run.specs.DelayedRun.{IsPaced}
use Rattle.virtual_run.specs.Lead.{with_sooner}
use Rattle.run_engine.proofs.Choices.{valid_at}
use Rattle.run_engine.proofs.Keys.{has_place}
use Rattle.virtual_run.proofs.Credited.{among_filter, among_more, held_raise}
use Rattle.virtual_run.proofs.CreditedLists.{raises_length}
use Rattle.virtual_run.proofs.CreditedSteps.{runs_held}
use Rattle.virtual_run.proofs.CreditedRun.{machine_now, lawful_with, agree, ending_now, starts_now, guest_now, starts_few, raised_few, is_steady}
use Rattle.virtual_run.proofs.Sooner.{less, sooner_length, sooner_many, sooner_key, among_filtered, ticks_by}

-- raises that were counted, of the credits
module _ {G : Type 0} (x : Experiment G) where
  counted_one : (h ticks : ℕ) (c : Delays) (d : Delayed G) → ticks ≡ cut x d.guest h → Holds c d → Holds (with_one_raise ticks h c) (raise_counted x d h)
  unfolding raise raise_counted
  counted_one h ticks c d is holds = record {
    latest = holds.latest;
    raised = ap₂ (λ m n. m + n) holds.raised is;
    harts = rw (← is) (held_raise ticks h c.harts d.harts holds.harts);
  }

  counted_guest : (h : ℕ) (d : Delayed G) → (raise_counted x d h).guest ≡ d.guest
  unfolding raise raise_counted
  counted_guest h d = refl

  pub holds_counted : (hs : List ℕ) (ticks : ℕ → ℕ) (c : Delays) (d : Delayed G) → ((h : ℕ) → is_among h hs ≡ true → ticks h ≡ cut x d.guest h) → Holds c d → Holds (with_raises ticks hs c) (fold (raise_counted x) d hs)
  holds_counted [] ticks c d are holds = holds
  holds_counted (h ∷ hs) ticks c d are holds =
      holds_counted hs ticks (with_one_raise (ticks h) h c) (raise_counted x d h)
      (λ k among. are k (among_more (k == h) (is_among k hs) among) ∙ ap (λ g. cut x g k) (sym (counted_guest h d)))
      (counted_one h (ticks h) c d (are h (rw (eq-eqb h h refl) refl)) holds)

-- the same setting at a speedup
abbrev pub sped_setting : ℕ → Setting → Setting
sped_setting q setting = record setting { choice = record setting.choice { speedup = q } }

module _ (image : ImageParts) (input : List ℕ) (setting : Setting) (engine : Engine) (credits : Delays) (now : ℕ) (p : IsPaced image input setting engine credits now) where
  abbrev x : Experiment Timed
  x = experiment_in image input setting

  abbrev d : Delayed Timed
  d = standing x (events_of engine)

  abbrev law : IsLawful x IsOrderly
  law = lawful_with image input setting p.valid

  -- a selected hart that began last began
  began : (k : ℕ) → is_among k engine.selected ≡ true → (x.guest.is_selected engine.guest k ≡ true) × (is_among k (before x (events_of engine)).harts ≡ true)
  began k among = among_filter (x.guest.is_selected engine.guest) k (before x (events_of engine)).harts (ap (is_among k) (sym p.selected) ∙ among)

  goes_by : (o : Option Ending) → engine.ending ≡ o → (k : ℕ) → is_among k engine.selected ≡ true → engine.ending ≡ None
  goes_by None is k among = is
  goes_by (Some e) is k among =
      let none : (before x (events_of engine)).harts ≡ [] = ended_begins x (events_of engine) e (ending_now image input setting engine credits now p ∙ is) in
      absurd (let no : false ≡ true = ap (is_among k) (sym none) ∙ (began k among).1 in cc)

  -- so the run goes on
  pub goes_here : (k : ℕ) → is_among k engine.selected ≡ true → engine.ending ≡ None
  goes_here k among = goes_by engine.ending refl k among

  due_here : (k : ℕ) → is_among k engine.selected ≡ true → is_some (key_of engine.schedule k) ≡ true
  due_here k among =
      let r = begun_due x IsOrderly law (events_of engine) k (began k among).1 in
      ap is_some (p.reached.reached.dues k ∙ r.1)

  key_there : (o : Option ℕ) → is_some o ≡ true → (v : ℕ) × (o ≡ Some v)
  key_there (Some v) is = (v, refl)
  key_there None is = absurd (let no : false ≡ true = is in cc)

  pub selected_run : (hs : List ℕ) → hs ≡ engine.selected → AllRun credits hs
  selected_run hs is k among =
      let here : is_among k engine.selected ≡ true = ap (is_among k) (sym is) ∙ among in
      let due = key_there (key_of engine.schedule k) (due_here k here) in
      let hart : Hart = get_or d.harts k idle_hart in
      record {
        below = subst (λ (n : ℕ). k < n) (p.reached.room ∙ sym p.room) (has_place engine.schedule k due.0 due.1);
        runs = ap has_load (p.holds.harts k) ∙ runs_held hart
            ∙ alike d.now d.delay hart.account hart.load (get_or (shortened x (events_of engine)).dues k None) ((agree image input setting engine credits now p).harts k)
            ∙ ap is_some (sym (p.reached.reached.dues k)) ∙ due_here k here;
      }

  pub selected_made : (hs : List ℕ) → hs ≡ engine.selected → AllMade engine.guest hs
  selected_made hs is k among =
      let here : is_among k engine.selected ≡ true = ap (is_among k) (sym is) ∙ among in
      let st : IsSteady engine = is_steady image input setting engine credits now p (goes_here k here) in
      (timed_low engine.guest k st.orderly (st.timed k ∙ due_here k here)).0

  -- each selected hart is a start
  pub starts_are : (before x (events_of engine)).state.starts ≡ 0 → engine.starts ≡ length engine.selected
  starts_are z =
      let b : Before Timed = before x (events_of engine) in
      let guest : b.state.guest ≡ engine.guest = sym (before_guest x (events_of engine)) ∙ guest_now image input setting engine credits now p in
      let count : d.starts ≡ b.state.starts + length (filter (x.guest.is_selected b.state.guest) b.harts) = ap (λ (d : Delayed Timed). d.starts) (standing_begins x (events_of engine)) ∙ begin_starts x b.harts b.state in
      let same : length (filter (x.guest.is_selected b.state.guest) b.harts) ≡ length engine.selected = ap (λ (g : Timed). length (filter (x.guest.is_selected g) b.harts)) guest ∙ ap length (sym p.selected) in
      let starts : d.starts ≡ engine.starts = starts_now image input setting engine credits now p in
      omega (arith, z, count, same, starts)

  pub selected_few : (hs : List ℕ) → hs ≡ engine.selected → (before x (events_of engine)).state.starts ≡ 0 → credits.raised + most_ticks engine.guest.beside.timing * length hs ≤ 10 ^ 17
  selected_few hs is z =
      let many_starts : engine.starts ≤ 2 * setting.choice.budget + 256 = starts_few image input setting engine credits now p in
      let raised : credits.raised ≤ 41 * 10 ^ 15 = raised_few image input setting engine credits now p in
      let count : engine.starts ≡ length engine.selected = starts_are z in
      let same : length hs ≡ length engine.selected = ap length is in
      let few : most_ticks setting.timing * length hs ≤ 41 * 10 ^ 15 = ticks_within setting.timing setting.choice.budget (length hs) p.valid.machine p.valid.choice.few (omega (arith, many_starts, count, same)) in
      subst (λ (t : Timing). credits.raised + most_ticks t * length hs ≤ 10 ^ 17) (sym (machine_now image input setting engine credits now p)) (omega (arith, raised, few))

  pub same_moment : credits.latest ≡ now
  same_moment = p.holds.latest ∙ sym p.moment

  module _ (whole : setting.choice.speedup ≡ 0) (q : ℕ) (small : q ≤ 95) (z : (before x (events_of engine)).state.starts ≡ 0) where
    abbrev n : ℕ
    n = events_of engine

    abbrev slow : Experiment Timed
    slow = at_speedup 0 x

    abbrev fast : Experiment Timed
    fast = at_speedup q x

    is_slow : slow ≡ x
    is_slow = ap (λ (i : ℕ). at_speedup i x) (sym whole)

    slow_law : IsLawful slow IsOrderly
    slow_law = subst (λ (y : Experiment Timed). IsLawful y IsOrderly) (sym is_slow) law

    none : (before slow n).state.starts ≡ 0
    none = ap (λ (y : Experiment Timed). (before y n).state.starts) is_slow ∙ z

    abbrev new_choice : Choice
    new_choice = record setting.choice { speedup = q }

    valid_new : IsSetting (sped_setting q setting)
    valid_new = record { choice = valid_at setting.choice q small p.valid.choice; machine = p.valid.machine }

    abbrev ticks : ℕ → ℕ
    ticks = raise_ticks engine.guest q

    begins_guest : (before slow n).state.guest ≡ engine.guest
    begins_guest = ap (λ (y : Experiment Timed). (before y n).state.guest) is_slow ∙ sym (before_guest x n) ∙ guest_now image input setting engine credits now p

    begins_harts : (before slow n).harts ≡ (before x n).harts
    begins_harts = ap (λ (y : Experiment Timed). (before y n).harts) is_slow

    -- the selected harts, as the fork's law has them
    chosen : filter (x.guest.is_selected (before slow n).state.guest) (before slow n).harts ≡ engine.selected
    chosen = ap₂ (λ (g : Timed) (hs : List ℕ). filter (x.guest.is_selected g) hs) begins_guest begins_harts ∙ sym p.selected

    cut_is : (k : ℕ) → x.guest.is_selected engine.guest k ≡ true → ticks k ≡ cut fast engine.guest k
    unfolding cut
    cut_is k is = mul_comm (cycles_of_next engine.guest k) q ∙ sym (ap (λ (b : Bool). if b then q * cycles_of_next engine.guest k else 0) is)

    slow_state : standing slow n ≡ d
    slow_state = ap (λ (y : Experiment Timed). standing y n) is_slow

    forked_is : standing fast n ≡ fold (raise_counted fast) d engine.selected
    forked_is = forked x q n none ∙ ap₂ (λ (o : Delayed Timed) (hs : List ℕ). fold (raise_counted fast) o hs) slow_state chosen

    holds_new : (hs : List ℕ) → hs ≡ engine.selected → Holds (with_raises ticks hs credits) (standing fast n)
    holds_new hs is =
        subst (λ (hs : List ℕ). Holds (with_raises ticks hs credits) (standing fast n)) (sym is)
        (subst (Holds (with_raises ticks engine.selected credits)) (sym forked_is)
        (holds_counted fast engine.selected ticks credits d
        (λ h among. cut_is h (began h among).0 ∙ ap (λ (g : Timed). cut fast g h) (sym (guest_now image input setting engine credits now p))) p.holds))

    parts : unchanged d (standing fast n) ≡ d
    parts = subst (λ (o : Delayed Timed). unchanged o (standing fast n) ≡ o) slow_state (parts_forked x IsOrderly q n slow_law none)

    apart_new : AllApart engine.selected
    apart_new = subst AllApart (sym p.selected) (filter_apart x (x.guest.is_selected engine.guest) (before x n).harts (begins_apart x IsOrderly law n))

    dues_new : (keys : Keys) → keys ≡ with_sooner ticks engine.selected engine.schedule → (k : ℕ) → key_of keys k ≡ get_or (shortened fast n).dues k None
    dues_new keys is k =
        ap (λ (keys : Keys). key_of keys k) is
        ∙ sooner_key ticks engine.selected engine.schedule k apart_new
        ∙ ap (λ (o : Option ℕ). less (if is_among k engine.selected then ticks k else 0) o) (p.reached.reached.dues k ∙ ap (λ (y : Experiment Timed). get_or (shortened y n).dues k None) (sym is_slow))
        ∙ ap (λ (m : ℕ). less m (get_or (shortened slow n).dues k None)) amount
        ∙ sym (dues_forked x IsOrderly q n slow_law none k)
      where
        amount : (if is_among k engine.selected then ticks k else 0)
            ≡ (if is_among k (before slow n).harts then (if x.guest.is_selected (before slow n).state.guest k then cut fast (before slow n).state.guest k else 0) else 0)
        amount =
            ap (λ (b : Bool). if b then ticks k else 0) (ap (is_among k) p.selected ∙ among_filtered (x.guest.is_selected engine.guest) k (before x n).harts)
            ∙ ticks_by (is_among k (before x n).harts) (x.guest.is_selected engine.guest k) (ticks k) (cut fast engine.guest k) (cut_is k)
            ∙ ap₂ (λ (hs : List ℕ) (g : Timed). if is_among k hs then (if x.guest.is_selected g k then cut fast g k else 0) else 0) (sym begins_harts) (sym begins_guest)

    abbrev new_engine : Keys → Engine
    new_engine keys = record engine { schedule = keys }

    within_new : (k u : ℕ) (o : Option ℕ) (m most : ℕ) → less m o ≡ Some u → ((v : ℕ) → o ≡ Some v → v ≤ most) → u ≤ most
    within_new k u None m most is each = absurd (let no : ◌≡◌ {A = Option ℕ} None (Some u) = is in cc)
    within_new k u (Some v) m most is each = let same : v - m ≡ u = cc in let below : v ≤ most = each v refl in omega arith

    reached_new : (keys : Keys) → keys ≡ with_sooner ticks engine.selected engine.schedule → IsEngineOf fast (new_engine keys)
    reached_new keys is = record {
      reached = record {
        state = rest_forked x IsOrderly q n slow_law none
            ∙ ap (λ (y : Experiment Timed). record (shortened y n) { dues = (shortened fast n).dues }) is_slow
            ∙ ap (λ (s : Shortened Timed). record s { dues = (shortened fast n).dues }) p.reached.reached.state;
        dues = dues_new keys is;
      };
      room = ap length is ∙ sooner_length ticks engine.selected engine.schedule ∙ p.reached.room;
      limit = p.reached.limit;
      unfull = p.reached.unfull;
      retired = p.reached.retired;
      few =
          let same : many keys ≡ many engine.schedule = ap many is ∙ sooner_many ticks engine.selected engine.schedule in
          let few : engine.starts ≤ events_of engine + many engine.schedule = p.reached.few in
          omega arith;
      within = λ k u has.
          within_new k u (key_of engine.schedule k) (if is_among k engine.selected then ticks k else 0) (10 ^ 16 + most_ticks x.first.beside.timing * (events_of engine + 1))
          (sym (sooner_key ticks engine.selected engine.schedule k apart_new) ∙ ap (λ (keys : Keys). key_of keys k) (sym is) ∙ has) (p.reached.within k);
    }

    -- the fields of the forked machine stand for its state
    pub forked_paced : (hs : List ℕ) (keys : Keys) (after : Delays) → hs ≡ engine.selected → after ≡ with_raises ticks hs credits → keys ≡ with_sooner ticks hs engine.schedule
        → IsPaced image input (sped_setting q setting) (new_engine keys) after now
    forked_paced hs keys after are is sooner =
        let holds : Holds after (standing fast n) = subst (λ (c : Delays). Holds c (standing fast n)) (sym is) (holds_new hs are) in
        record {
          valid = valid_new;
          reached = reached_new keys (sooner ∙ ap (λ (hs : List ℕ). with_sooner ticks hs engine.schedule) are);
          holds = holds;
          room = ap (λ (c : Delays). length c.harts) is ∙ raises_length ticks hs credits ∙ p.room;
          visits = p.visits ∙ sym (ap (λ (o : Delayed Timed). o.visits) parts);
          moment = p.moment ∙ sym (ap (λ (o : Delayed Timed). o.now) parts);
          soon = p.soon;
          trap = p.trap;
          made = p.made;
          selected = p.selected ∙ ap (λ (b : Before Timed). filter (x.guest.is_selected engine.guest) b.harts) (same_before x q n z);
        }
