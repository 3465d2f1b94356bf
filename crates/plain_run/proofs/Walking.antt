-- What is noted beside the engine tells of as many moves as the engine has made.
use Rattle.std.proofs.Common.{◌≡◌, ◌==◌, ℕ, suc, ◌+◌, ◌*◌, ◌^◌, ◌≤◌, ◌<◌, ◌++◌, ◌∙◌, Bool, true, false, not, nat_le, if◌then◌else◌, List, [], ◌∷◌, map, length, get_or, Option, Some, None, IsSome, refl, sym, ap, ap₂, subst, arith, add-one, append-nil}
use Rattle.std.specs.Prelude.{IsNone, Result, Ok, Err, IfOk}
use Rattle.std.specs.declared.alloc.AllocError.{AllocError}
use Rattle.std.proofs.lemmas.List.Elements.{All-nil, All-cons, All-append}
use Rattle.std.proofs.lemmas.List.FromFn.{length-map-range_with_len, get_or-map-range_with_len}
use Rattle.coz_types.specs.declared.TheConstants.{HARTS}
use Rattle.coz_types.specs.declared.ending.Ending.{Ending}
use Rattle.coz_types.specs.declared.ending.Ending.TheVariants.{OutputFull, VisitsFull, Stalled, Spent}
use Rattle.coz_types.specs.declared.record.Outcome.{Outcome}
use Rattle.coz_types.specs.declared.record.Visit.{Visit}
use Rattle.coz_types.specs.Image.{ImageParts}
use Rattle.progress_points.specs.Points.{point_of}
use Rattle.machines.specs.Places.{is_among, AllApart}
use Rattle.machines.specs.declared.Fate.{Fate}
use Rattle.machines.specs.Guest.{Experiment, Retirement, IsLawful, ending_if, own_ending, first_ending, is_sleeper, goes_on, started_harts, enough}
use Rattle.machines.specs.Shortened.{Shortened, shortened}
use Rattle.machines.specs.Shortened as short
use Rattle.machines.specs.Records.{NetRecord, net_record_of, shortened_record}
use Rattle.machines.specs.KeptVisits.{net_of}
use Rattle.machines.proofs.Rising.{time_on}
use Rattle.timing_model.specs.declared.timing.Timing.{Timing}
use Rattle.timing_steps.specs.State.{keeps}
use Rattle.timed_guest.specs.Guest.{Timed, pc_of, is_timed, is_running, with_wake, first_guest}
use Rattle.timed_guest.specs.Orderly.{IsOrderly}
use Rattle.timed_guest.specs.Retire.{retire, retirement}
use Rattle.timed_guest.specs.Runs.{Run}
use Rattle.timed_guest.proofs.Law.{retired, wake_orderly, timed_low}
use Rattle.run_engine.specs.declared.choice.Setting.{Setting}
use Rattle.run_engine.specs.declared.engine.Engine.{Engine}
use Rattle.run_engine.specs.declared.engine.Event.{Event}
use Rattle.run_engine.specs.declared.engine.Event.TheVariants.{Woke, Retired}
use Rattle.run_engine.specs.Advance.{IsAdvance}
use Rattle.run_engine.specs.Ending.{ending_of}
use Rattle.run_engine.specs.Engine.{events_of, most_ticks, IsEngineOf, IsFirst, IsSteady}
use Rattle.run_engine.specs.Run.{IsSetting, experiment_in, selected_line}
use Rattle.run_engine.specs.Visits.{Visits, visits_of}
use Rattle.run_engine.proofs.Grown.{first_timing}
use Rattle.run_engine.proofs.Keys.{next_is}
use Rattle.run_engine.proofs.Law.{lawful_in, on_machine, reached_next, reached_woken, steady, events_below, ended_now, within_enough, recorded_now}
use Rattle.run_engine.proofs.Ticks.{times_small}
use Rattle.ready_ticks.specs.declared.waits.Wait.{Wait}
use Rattle.ready_ticks.specs.Ready.{Course, waited}
use Rattle.ready_ticks.specs.Waits.{AreTold, Passes, ticks_at, wait_of}
use Rattle.ready_ticks.proofs.Told.{pass_told, tells_next}
use Rattle.plain_run.specs.declared.run.PlainRun.{PlainRun as Left}
use Rattle.plain_run.specs.PlainRun.{AreUndelayed, IsPlainRun, record_left, timed_course}
use Rattle.plain_run.specs.Noting.{CanNote, IsLeft, IsNoted, IsWalked}
use Rattle.plain_run.proofs.Course.{waited_below, waited_all, all_over}
use Rattle.plain_run.proofs.Passing.{HasPassed, retirement_passes}

none_undelayed : AreUndelayed []
none_undelayed = All-nil (λ visit. visit.delay ≡ 0)

-- a visit with no delay is kept with none
one_undelayed : (point : Option ℕ) (h time : ℕ) → AreUndelayed (visits_of point h time 0)
one_undelayed None h time = none_undelayed
one_undelayed (Some p) h time = All-cons (λ visit. visit.delay ≡ 0) (record { point = record { 0 = p }; hart = record { 0 = h }; time = time; delay = 0 }) [] refl none_undelayed

short_first : {G : Type 0} (x : Experiment G) → x.first ≡ (shortened x 0).guest
unfolding shortened short.unbegun short.begin
short_first x = refl

short_time : {G : Type 0} (x : Experiment G) → 0 ≡ (shortened x 0).time
unfolding shortened short.unbegun short.begin
short_time x = refl

first_line : (image : ImageParts) (input : List ℕ) (setting : Setting) → (experiment_in image input setting).first.beside.seats.ready ≡ []
unfolding first_guest
first_line image input setting = refl

-- the guest itself does not end a run that goes on
first_none : (o : Option Ending) (os : List (Option Ending)) → first_ending (o ∷ os) ≡ None → o ≡ None
first_none None os is = refl
first_none (Some e) os is = absurd (let no : ◌≡◌ {A = Option Ending} (Some e) None = is in cc)

own_none : (fate : Fate) (output_full visits_full runs : Bool) (retired budget : ℕ) → ending_of fate output_full visits_full runs retired budget ≡ None → own_ending fate ≡ None
own_none fate output_full visits_full runs retired budget is =
    first_none (own_ending fate) (ending_if output_full OutputFull ∷ ending_if visits_full VisitsFull ∷ ending_if (not runs) Stalled ∷ ending_if (nat_le budget retired) Spent ∷ []) is

among_started : (b : Bool) (k h : ℕ) (os : List ℕ) → is_among k os ≡ true → is_among k (if b then h ∷ os else os) ≡ true
among_started true k h os is = by (k == h) is
  where
    by : (b : Bool) → is_among k os ≡ true → (if b then true else is_among k os) ≡ true
    by true e = refl
    by false e = e
among_started false k h os is = is

-- a wake changes no line
woken_line : (h : ℕ) (g : Timed) → (with_wake h g).beside.seats.ready ≡ g.beside.seats.ready
woken_line h g = by (keeps g.beside.timing)
  where
    by : (b : Bool) → (if b then record (g.beside) { seats = record (g.beside.seats) { on = g.beside.seats.on + 1 } } else g.beside).seats.ready ≡ g.beside.seats.ready
    by true = refl
    by false = refl

module _ (image : ImageParts) (input : List ℕ) (setting : Setting) where
  abbrev pub x : Experiment Timed
  x = experiment_in image input setting

  abbrev c : Course
  c = timed_course x

  abbrev run : Run
  run = record { image = image; input = input; layout = setting.choice.layout; selected = selected_line setting.choice; point_at = point_of setting.points.now; speedup = setting.choice.speedup; budget = setting.choice.budget; visit_limit = setting.choice.visit_limit; output_limit = setting.choice.output_limit }

  module _ (engine : Engine) (waits : List Wait) (walked : IsWalked image input setting engine waits) where
    law : IsLawful x IsOrderly
    law = lawful_in image input setting walked.valid.choice.speedup

    abbrev n : ℕ
    n = events_of engine

    abbrev s : Shortened Timed
    s = shortened x n

    within_now : n ≤ 2 * setting.choice.budget
    within_now = within_enough image input setting walked.valid engine walked.reached

    abbrev most : ℕ
    most = most_ticks setting.timing

    most_few : most * (n + 1) ≤ 5 * 10 ^ 16
    most_few = let few = within_now in times_small setting.timing setting.choice.budget (n + 1) walked.valid.machine walked.valid.choice.few (omega (arith, few))

    guest_is : s.guest ≡ engine.guest
    guest_is = ap (λ (o : Shortened Timed). o.guest) walked.reached.reached.state

    time_is : s.time ≡ engine.time
    time_is = ap (λ (o : Shortened Timed). o.time) walked.reached.reached.state

    -- no hart was ready for long
    pub few_now : (hart : ℕ) → ticks_at engine.time (wait_of waits hart) < 2 ^ 64
    few_now hart =
        let ticks = walked.ticks hart in
        let below = waited_below x IsOrderly law hart n in
        let soon = walked.soon in
        let time = time_is in
        omega (arith, ticks, below, soon, time)

    module _ (none : engine.ending ≡ None) (new : Engine) where
      none_here : s.ending ≡ None
      none_here = ap (λ (o : Shortened Timed). o.ending) walked.reached.reached.state ∙ none

      reached_after : (event : Event) → IsAdvance setting engine event 0 new → IsEngineOf x new
      reached_after (Woke turn) did =
          let same : new.visits ≡ engine.visits = ap (λ (o : Engine). o.visits) did.rest in
          reached_woken image input setting walked.valid engine walked.reached new none
          (did.moved (first_guest image input setting.choice.output_limit setting.choice.layout setting.timing setting.index.now) _ walked.reached.reached.dues) did.room same (ap (λ (o : Engine). o.retired) did.rest) did.wakes did.few did.within
      reached_after (Retired one) did =
          reached_next image input setting walked.valid engine walked.reached new none
          (did.moved (first_guest image input setting.choice.output_limit setting.choice.layout setting.timing setting.index.now) _ walked.reached.reached.dues) did.room (ap (λ (vs : Visits). vs.limit) did.visits) did.unfull did.retired did.wakes did.few did.within

      count_after : (event : Event) → IsAdvance setting engine event 0 new → events_of new ≡ suc n
      count_after (Woke turn) did = omega (arith, ap (λ (o : Engine). o.retired) did.rest, did.wakes)
      count_after (Retired one) did = omega (arith, did.retired, did.wakes)

      undelayed_after : (event : Event) → IsAdvance setting engine event 0 new → AreUndelayed new.visits.kept
      undelayed_after (Woke turn) did = subst (λ (v : Visits). AreUndelayed v.kept) (sym (ap (λ (o : Engine). o.visits) did.rest)) walked.undelayed
      undelayed_after (Retired one) did =
          let point : Option ℕ = point_of setting.points.now (pc_of engine.guest one.hart.0) in
          subst AreUndelayed (sym (ap (λ (v : Visits). v.kept) did.visits))
          (All-append (λ visit. visit.delay ≡ 0) engine.visits.kept (visits_of point one.hart.0 (new.time + 0) 0) walked.undelayed (one_undelayed point one.hart.0 (new.time + 0)))

      time_after : (event : Event) → IsAdvance setting engine event 0 new → new.time ≤ 10 ^ 17
      time_after (Woke turn) did = let same : new.time ≡ engine.time = ap (λ (o : Engine). o.time) did.rest in let soon = walked.soon in omega arith
      time_after (Retired one) did =
          let due : new.time ≤ 10 ^ 16 + most_ticks x.first.beside.timing * (n + 1) = walked.reached.within one.hart.0 new.time did.turn in
          let soon : new.time ≤ 10 ^ 16 + most * (n + 1) = subst (λ (t : Timing). new.time ≤ 10 ^ 16 + most_ticks t * (n + 1)) (first_timing image input setting.choice.output_limit setting.choice.layout setting.timing setting.index.now) due in
          let all = most_few in
          omega (arith, soon, all)

      orderly_after : (event : Event) → IsAdvance setting engine event 0 new → IsOrderly new.guest
      orderly_after (Woke turn) did = subst IsOrderly (sym did.guest) (wake_orderly engine.guest turn.hart.0 walked.orderly did.asleep)
      orderly_after (Retired one) did =
          subst (λ (r : Retirement Timed). IsOrderly r.guest) (sym did.retires) (retired engine.guest one.hart.0 new.time walked.orderly did.running).orderly

      module _ (event : Event) (did : IsAdvance setting engine event 0 new) where
        state_after : (shortened x (suc n)).guest ≡ new.guest
        state_after = ap (λ (m : ℕ). (shortened x m).guest) (sym (count_after event did)) ∙ ap (λ (o : Shortened Timed). o.guest) (reached_after event did).reached.state

        moment_after : c.moment (suc n) ≡ new.time
        moment_after = ap (λ (m : ℕ). (shortened x m).time) (sym (count_after event did)) ∙ ap (λ (o : Shortened Timed). o.time) (reached_after event did).reached.state

        later : c.moment n ≤ c.moment (suc n)
        later = time_on x IsOrderly law n

        line_after : c.line (suc n) ≡ new.guest.beside.seats.ready
        line_after = ap (λ (g : Timed). g.beside.seats.ready) state_after

        -- what is noted before the move tells of it too
        told_next : (hart : ℕ) → ticks_at new.time (wait_of waits hart) ≡ waited c hart (events_of new)
        told_next hart =
            subst (λ (m : ℕ). ticks_at m (wait_of waits hart) ≡ waited c hart (events_of new)) moment_after
            (tells_next c n waits (walked.told none) later hart ∙ ap (waited c hart) (sym (count_after event did)))

        few_next : (hart : ℕ) → ticks_at new.time (wait_of waits hart) < 2 ^ 64
        few_next hart =
            let ticks = told_next hart in
            let below = waited_below x IsOrderly law hart (events_of new) in
            let time : (shortened x (events_of new)).time ≡ new.time = ap (λ (o : Shortened Timed). o.time) (reached_after event did).reached.state in
            let soon = time_after event did in
            omega (arith, ticks, below, time, soon)

        -- as what is noted after it tells
        on : (after : List Wait) → (new.ending ≡ None → AreTold c (suc n) after) → ((hart : ℕ) → ticks_at new.time (wait_of after hart) ≡ waited c hart (events_of new)) → IsWalked image input setting new after
        on after told ticks = record {
          valid = walked.valid;
          reached = reached_after event did;
          orderly = orderly_after event did;
          undelayed = undelayed_after event did;
          soon = time_after event did;
          told = λ goes. subst (λ (m : ℕ). AreTold c m after) (sym (count_after event did)) (told goes);
          ticks = ticks;
        }

      low_started : (one : _) (did : IsAdvance setting engine (Retired one) 0 new) → new.ending ≡ None → (k : ℕ) → is_among k new.started ≡ true → k < HARTS
      low_started one did goes k among =
          let r : Retirement Timed = retire engine.guest one.hart.0 new.time in
          let is : retirement new.guest one.fate new.started ≡ r = did.retires in
          let own : own_ending one.fate ≡ None = own_none one.fate _ _ _ new.retired setting.choice.budget (sym did.ending ∙ goes) in
          let Timed_after : Retirement Timed → Type 0 = λ o. is_timed o.guest k ≡ (if is_among k (started_harts one.hart.0 o) then true else (if k == one.hart.0 then is_sleeper o.fate else is_timed engine.guest k)) in
          let all : Timed_after r = (retired engine.guest one.hart.0 new.time walked.orderly did.running).timed (subst (λ (o : Retirement Timed). IsNone (own_ending o.fate)) is (subst IsNone (sym own) refl)) k in
          let all_new : Timed_after (retirement new.guest one.fate new.started) = subst Timed_after (sym is) all in
          let there : is_among k (started_harts one.hart.0 (retirement new.guest one.fate new.started)) ≡ true = among_started (goes_on one.fate) k one.hart.0 new.started among in
          (timed_low new.guest k (orderly_after (Retired one) did) (all_new ∙ ap (λ (b : Bool). if b then true else (if k == one.hart.0 then is_sleeper one.fate else is_timed engine.guest k)) there)).1

      pub can_note : (event : Event) → IsAdvance setting engine event 0 new → CanNote new event waits
      can_note (Woke turn) did = tt
      can_note (Retired one) did = λ goes. (low_started one did goes, few_next (Retired one) did)

      passed : (one : _) (did : IsAdvance setting engine (Retired one) 0 new) → new.ending ≡ None → HasPassed c n new.time new.started
      passed one did goes =
          let next : (shortened x (suc n)).ending ≡ None = ap (λ (m : ℕ). (shortened x m).ending) (sym (count_after (Retired one) did)) ∙ ap (λ (o : Shortened Timed). o.ending) (reached_after (Retired one) did).reached.state ∙ goes in
          let started : (retire s.guest one.hart.0 new.time).others ≡ new.started = ap (λ (g : Timed). (retire g one.hart.0 new.time).others) guest_is ∙ ap (λ (o : Retirement Timed). o.others) (sym did.retires) in
          subst (HasPassed c n new.time) started
          (retirement_passes setting.timing setting.index.now run (let few : setting.choice.speedup ≤ 95 = walked.valid.choice.speedup in omega (arith, few)) n one.hart.0 new.time none_here next
          (next_is engine.schedule s.dues one.hart.0 new.time walked.reached.reached.dues did.turn did.first)
          (ap (λ (g : Timed). is_running g one.hart.0) guest_is ∙ did.running) (moment_after (Retired one) did)
          (subst IsOrderly (sym guest_is) walked.orderly) (subst IsOrderly (sym (state_after (Retired one) did)) (orderly_after (Retired one) did))
          (ap (λ (g : Timed). g.beside.timing) guest_is ∙ (on_machine image input setting walked.valid engine walked.reached).timing)
          (ap (λ (g : Timed). g.beside.timing) (state_after (Retired one) did) ∙ (on_machine image input setting walked.valid new (reached_after (Retired one) did)).timing))

      -- it is so after a move that is noted
      pub walked_on : (event : Event) → IsAdvance setting engine event 0 new → (before : ℕ) → before ≡ length engine.guest.beside.seats.ready → (after : List Wait) → IsNoted new event before waits after → IsWalked image input setting new after
      walked_on (Woke turn) did before many after same =
          let line : c.line n ++ [] ≡ c.line (suc n) =
          append-nil (c.line n) ∙ ap (λ (g : Timed). g.beside.seats.ready) guest_is ∙ sym (woken_line turn.hart.0 engine.guest) ∙ ap (λ (g : Timed). g.beside.seats.ready) (sym did.guest) ∙ sym (line_after (Woke turn) did) in
          let passes : Passes c n (c.moment (suc n)) [] [] = record {
            moment = refl;
            later = later (Woke turn) did;
            line = line;
            apart = subst AllApart (sym (append-nil (c.line n))) (subst (λ (g : Timed). AllApart g.beside.seats.ready) (sym guest_is) walked.orderly.apart);
          } in
          on (Woke turn) did after
          (λ goes. subst (AreTold c (suc n)) (sym same) (pass_told c n (c.moment (suc n)) waits [] [] (walked.told none) passes))
          (λ hart. ap (λ (ws : List Wait). ticks_at new.time (wait_of ws hart)) same ∙ told_next (Woke turn) did hart)
      walked_on (Retired one) did before many after noted =
          let told : new.ending ≡ None → AreTold c (suc n) after = λ goes.
          let p = passed one did goes in
          noted.1 goes c n p.entered (walked.told none) (ap (λ (g : Timed). length g.beside.seats.ready) guest_is ∙ sym many) (line_after (Retired one) did) p.passes in
          on (Retired one) did after told (by new.ending refl told)
        where
          by : (o : Option Ending) → new.ending ≡ o → (new.ending ≡ None → AreTold c (suc n) after) → (hart : ℕ) → ticks_at new.time (wait_of after hart) ≡ waited c hart (events_of new)
          by None is told hart =
              subst (λ (m : ℕ). ticks_at m (wait_of after hart) ≡ waited c hart (events_of new)) (moment_after (Retired one) did)
              ((told is).ticks hart ∙ ap (waited c hart) (sym (count_after (Retired one) did)))
          by (Some e) is told hart =
              ap (λ (ws : List Wait). ticks_at new.time (wait_of ws hart)) (noted.0 (subst IsSome (sym is) refl)) ∙ told_next (Retired one) did hart

      pub count_on : (event : Event) → IsAdvance setting engine event 0 new → events_of new ≡ events_of engine + 1
      count_on event did = count_after event did ∙ sym (add-one n)

    pub steady_now : engine.ending ≡ None → IsSteady engine
    steady_now none = steady image input setting walked.valid engine walked.reached none

    pub more_left : engine.ending ≡ None → events_of engine < 2 * setting.choice.budget
    more_left none = events_below image input setting walked.valid engine walked.reached none

    pub few_harts : length engine.guest.guest.harts ≤ HARTS
    few_harts = walked.orderly.guest.few

    module _ (e : Ending) (ended : engine.ending ≡ Some e) (left : Left) (made : IsLeft engine waits e left) where
      over : s.ending ≡ Some e
      over = ended_now image input setting walked.valid engine walked.reached e ended

      harts_are : length left.ready.items ≡ length (shortened x (enough x)).guest.guest.harts
      harts_are =
          ap length made.ready
          ∙ length-map-range_with_len (λ hart. ticks_at engine.time (wait_of waits hart)) 0 (length engine.guest.guest.harts)
          ∙ ap (λ (g : Timed). length g.guest.harts) (sym guest_is)
          ∙ ap (λ (o : Shortened Timed). length o.guest.guest.harts) (all_over x n e over within_now)

      record_is : record_left left ≡ shortened_record x
      record_is =
          ap₂ (λ (o : Outcome) (r : NetRecord). record { ending = o.ending; time = o.time; retired = o.retired; starts = o.starts; output = r.output; visits = r.visits }) made.outcome
          (ap₂ (λ (output : List ℕ) (visits : List Visit). let r : NetRecord = record { ending = e; time = 0; retired = 0; starts = 0; output = output; visits = map net_of visits } in r) made.output made.visits)
          ∙ ap (λ (o : Shortened Timed). net_record_of x o e) (sym walked.reached.reached.state)
          ∙ recorded_now image input setting walked.valid engine walked.reached e ended

      -- what is left as it ends
      pub done : IsPlainRun x left
      done = record {
        net = record_is;
        delay = ap (λ (o : Outcome). o.delay) made.outcome;
        undelayed = subst AreUndelayed (sym made.visits) walked.undelayed;
        harts = harts_are;
        ready = λ hart below.
            ap (λ (ticks : List ℕ). get_or ticks hart 0) made.ready
            ∙ get_or-map-range_with_len (λ k. ticks_at engine.time (wait_of waits k)) 0 (length engine.guest.guest.harts) hart hart 0
            (let many : length engine.guest.guest.harts ≡ length (shortened x (enough x)).guest.guest.harts =
            ap (λ (g : Timed). length g.guest.harts) (sym guest_is) ∙ ap (λ (o : Shortened Timed). length o.guest.guest.harts) (all_over x n e over within_now) in omega (arith, many, below))
            (omega arith)
            ∙ walked.ticks hart
            ∙ waited_all x n e over hart within_now;
      }

  -- as a run begins
  pub first_walked : (engine : Engine) (waits : List Wait) → IsSetting setting → IsFirst setting image input engine → ((c : Course) → c.line 0 ≡ [] → AreTold c 0 waits) → IsWalked image input setting engine waits
  first_walked engine waits valid first told =
      let lawful : IsLawful x IsOrderly = lawful_in image input setting valid.choice.speedup in
      let zero : events_of engine ≡ 0 = omega (arith, first.retired, first.wakes) in
      let state : (shortened x 0).guest ≡ engine.guest = ap (λ (k : ℕ). (shortened x k).guest) (sym zero) ∙ ap (λ (o : Shortened Timed). o.guest) first.reached.reached.state in
      let time : (shortened x 0).time ≡ engine.time = ap (λ (k : ℕ). (shortened x k).time) (sym zero) ∙ ap (λ (o : Shortened Timed). o.time) first.reached.reached.state in
      let none : c.line 0 ≡ [] = ap (λ (g : Timed). g.beside.seats.ready) (sym (short_first x)) ∙ first_line image input setting in
      let at_first : AreTold c 0 waits = told c none in
      record {
        valid = valid;
        reached = first.reached;
        orderly = subst IsOrderly (short_first x ∙ state) lawful.first_good;
        undelayed = subst AreUndelayed (sym first.kept) none_undelayed;
        soon = let now : 0 ≡ engine.time = short_time x ∙ time in omega arith;
        told = λ goes. subst (λ (m : ℕ). AreTold c m waits) (sym zero) at_first;
        ticks = λ hart.
            subst (λ (m : ℕ). ticks_at m (wait_of waits hart) ≡ waited c hart (events_of engine)) time
            (at_first.ticks hart ∙ ap (waited c hart) (sym zero));
      }

pub left_done : (r : Result Left AllocError) (P Q : Left → Type 0) → ((left : Left) → P left → Q left) → IfOk r P → IfOk r Q
left_done (Ok left) P Q f p = f left p
left_done (Err e) P Q f p = p
