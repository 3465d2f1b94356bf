-- The walk beside the engine: the events and causes in hand are those of as many moves as the engine counts.
use Rattle.std.proofs.Common.{◌≡◌, ℕ, suc, ◌+◌, ◌-◌, ◌*◌, ◌≤◌, ◌<◌, ◌==◌, ◌∙◌, ◌++◌, if◌then◌else◌, Bool, true, false, List, [], ◌∷◌, length, get_or, Option, Some, None, unwrap_or, IsSome, refl, sym, ap, ap₂, subst, arith, eqb-true, add-one}
use Rattle.std.proofs.Math.Path.{fun_ext}
use Rattle.std.specs.Prelude.{Result, Ok, Err, IfOk}
use Rattle.std.specs.declared.alloc.AllocError.{AllocError}
use Rattle.coz_types.specs.declared.TheConstants.{HARTS}
use Rattle.coz_types.specs.declared.ending.Ending.{Ending}
use Rattle.coz_types.specs.Image.{ImageParts}
use Rattle.line_index.specs.Index.{Index}
use Rattle.hart_schedule.specs.Keys.{key_of, IsLeast}
use Rattle.machines.specs.Places.{is_among}
use Rattle.machines.specs.Guest.{Experiment, Retirement, IsLater, IsLawful, enough, started_harts}
use Rattle.machines.specs.Shortened.{Shortened, Turn, shortened}
use Rattle.machines.specs.Records.{NetRecord, net_record_of, shortened_record}
use Rattle.guest_memory.specs.declared.Layout.{Layout}
use Rattle.timing_model.specs.declared.timing.Timing.{Timing}
use Rattle.timed_guest.specs.Guest.{Timed, pc_of, is_sleeping, with_wake, first_guest}
use Rattle.timed_guest.specs.Orderly.{IsOrderly}
use Rattle.timed_guest.specs.Retire.{retire, retirement}
use Rattle.timed_guest.proofs.Law.{running_awake}
use Rattle.run_engine.specs.declared.choice.Setting.{Setting}
use Rattle.run_engine.specs.declared.engine.Engine.{Engine}
use Rattle.run_engine.specs.declared.engine.Event as moves
use Rattle.run_engine.specs.declared.engine.Retired as retirements
use Rattle.run_engine.specs.declared.engine.Turn as turns
use Rattle.run_engine.specs.declared.engine.Event.TheVariants.{Woke, Retired}
use Rattle.run_engine.specs.Advance.{IsAdvance}
use Rattle.run_engine.specs.Begin.{started_by}
use Rattle.run_engine.specs.Engine.{events_of, IsEngineOf, IsFirst, IsSteady}
use Rattle.run_engine.specs.Run.{IsSetting, experiment, timed_experiment, experiment_in}
use Rattle.run_engine.specs.Visits.{Visits}
use Rattle.run_engine.proofs.Keys.{has_place, next_is}
use Rattle.run_engine.proofs.Law.{lawful_in, reached_next, reached_woken, steady, events_below, ended_now, within_enough, recorded_now}
use Rattle.path_chains.specs.declared.TheConstants.{MAX_EVENTS}
use Rattle.path_causes.specs.declared.cause.Cause.{Cause}
use Rattle.path_chains.specs.declared.event.Event.{Event}
use Rattle.path_chains.specs.declared.event.Trace.{Trace}
use Rattle.path_chains.specs.Path.{event_at, last_of, Linked}
use Rattle.path_causes.specs.Causes.{no_cause, cause_at, woken_with, turned, at_rest, after_own}
use Rattle.critical_path.specs.Events.{Traced, AreBefores, AreFroms, retirements_of, work, untraced, traced}
use Rattle.critical_path.specs.Events.{events_of as whole_events}
use Rattle.critical_path.specs.Walk.{plain_choice, plain, plain_on, IsMadeOf, IsTraceOf}
use Rattle.critical_path.specs.Recording.{IsBegun, ticks_from, CanRecord, IsRecorded}
use Rattle.critical_path.proofs.Begun.{same_turned_by}
use Rattle.critical_path.proofs.Froms.{froms_are}
use Rattle.critical_path.proofs.Recorded.{stands_at, many_events, befores_are, last_due, linked}
use Rattle.critical_path.proofs.Turned.{IsRetiring, IsWaking, retiring, waking, all_events, first_traced, first_due}

module _ (image : ImageParts) (input : List ℕ) (setting : Setting) where
  abbrev pub x : Experiment Timed
  x = experiment_in image input setting

  -- so far, beside the engine
  pub record IsWalked (engine : Engine) (causes : List Cause) (events : List Event) : Type 0 where
    pub valid : IsSetting setting
    pub few : setting.choice.budget ≤ MAX_EVENTS
    pub reached : IsEngineOf x engine
    pub room : length causes ≡ HARTS
    pub events_are : events ≡ (traced x pc_of (events_of engine)).events
    pub causes_are : engine.ending ≡ None → (k : ℕ) → k < HARTS → cause_at causes k ≡ (traced x pc_of (events_of engine)).causes k

  module _ (engine : Engine) (causes : List Cause) (events : List Event) (walked : IsWalked engine causes events) (none : engine.ending ≡ None) (new : Engine) where
    abbrev law : IsLawful x IsOrderly
    law = lawful_in image input setting walked.valid.choice.speedup

    abbrev n : ℕ
    n = events_of engine

    abbrev s : Shortened Timed
    s = shortened x n

    abbrev w : Traced
    w = traced x pc_of n

    guest_is : s.guest ≡ engine.guest
    guest_is = ap (λ (o : Shortened Timed). o.guest) walked.reached.reached.state

    none_here : s.ending ≡ None
    none_here = ap (λ (o : Shortened Timed). o.ending) walked.reached.reached.state ∙ none

    many : length events ≡ engine.retired
    many = ap length walked.events_are ∙ (stands_at x IsOrderly law pc_of n).count ∙ ap (λ (o : Shortened Timed). o.retired) walked.reached.reached.state

    pub reached_after : (moved : moves.Event) → IsAdvance setting engine moved 0 new → IsEngineOf x new
    reached_after (Woke turn) did =
        let same : new.visits ≡ engine.visits = ap (λ (o : Engine). o.visits) did.rest in
        reached_woken image input setting walked.valid engine walked.reached new none
        (did.moved (first_guest image input setting.choice.output_limit setting.choice.layout setting.timing setting.index.now) _ walked.reached.reached.dues) did.room same (ap (λ (o : Engine). o.retired) did.rest) did.wakes did.few did.within
    reached_after (Retired one) did =
        reached_next image input setting walked.valid engine walked.reached new none
        (did.moved (first_guest image input setting.choice.output_limit setting.choice.layout setting.timing setting.index.now) _ walked.reached.reached.dues) did.room (ap (λ (vs : Visits). vs.limit) did.visits) did.unfull did.retired did.wakes did.few did.within

    count_after : (moved : moves.Event) → IsAdvance setting engine moved 0 new → events_of new ≡ suc n
    count_after (Woke turn) did = omega (arith, ap (λ (o : Engine). o.retired) did.rest, did.wakes)
    count_after (Retired one) did = omega (arith, did.retired, did.wakes)

    -- the keys after it
    key_after : (moved : moves.Event) → IsAdvance setting engine moved 0 new → (k : ℕ) → key_of new.schedule k ≡ get_or (shortened x (suc n)).dues k None
    key_after moved did k = (reached_after moved did).reached.dues k ∙ ap (λ (m : ℕ). get_or (shortened x m).dues k None) (count_after moved did)

    begun_then : (moment ticks k : ℕ) → key_of new.schedule k ≡ Some (moment + ticks) → IsBegun new.schedule moment k
    begun_then moment ticks k is due has = let same : moment + ticks ≡ due = let both = sym is ∙ has in cc in omega arith

    due_then : (due k : ℕ) → key_of new.schedule k ≡ Some due → IsSome (key_of new.schedule k)
    due_then due k is = rw is refl

    ticks_then : (moment ticks k : ℕ) → key_of new.schedule k ≡ Some (moment + ticks) → ticks_from new.schedule moment k ≡ ticks
    ticks_then moment ticks k is = ap (λ (o : Option ℕ). unwrap_or o 0 - moment) is ∙ (let rest : (moment + ticks) - moment ≡ ticks = omega arith in rest)

    none_after : (moved : moves.Event) → IsAdvance setting engine moved 0 new → new.ending ≡ None → (shortened x (suc n)).ending ≡ None
    none_after moved did on = ap (λ (m : ℕ). (shortened x m).ending) (sym (count_after moved did)) ∙ ap (λ (o : Shortened Timed). o.ending) (reached_after moved did).reached.state ∙ on

    traced_after : (moved : moves.Event) → IsAdvance setting engine moved 0 new → traced x pc_of (events_of new) ≡ traced x pc_of (suc n)
    traced_after moved did = ap (traced x pc_of) (count_after moved did)

    within_harts : (k due : ℕ) → key_of new.schedule k ≡ Some due → length new.schedule ≡ HARTS → k < HARTS
    within_harts k due has room = subst (λ (m : ℕ). k < m) room (has_place new.schedule k due has)

    here_below : (h due : ℕ) → key_of engine.schedule h ≡ Some due → h < HARTS
    here_below h due has = subst (λ (m : ℕ). h < m) walked.reached.room (has_place engine.schedule h due has)

    module _ (one : retirements.Retired) (did : IsAdvance setting engine (Retired one) 0 new) where
      abbrev t : Turn
      t = record { hart = one.hart.0; due = new.time }

      abbrev r : Retirement Timed
      r = retirement new.guest one.fate new.started

      turn : IsRetiring x IsOrderly law pc_of n t
      turn =
          retiring x IsOrderly law pc_of n t none_here (next_is engine.schedule s.dues one.hart.0 new.time walked.reached.reached.dues did.turn did.first)
          (ap (λ (g : Timed). is_sleeping g one.hart.0) guest_is ∙ running_awake engine.guest one.hart.0 did.running)

      retires : retire s.guest one.hart.0 new.time ≡ r
      retires = ap (λ (g : Timed). retire g one.hart.0 new.time) guest_is ∙ sym did.retires

      begun : new.ending ≡ None → (k : ℕ) → is_among k (started_by one.hart.0 one.fate new.started) ≡ true → key_of new.schedule k ≡ Some (new.time + work x pc_of new.guest k)
      begun on k among =
          key_after (Retired one) did k
          ∙ turn.begun (none_after (Retired one) did on) k (subst (λ (o : Retirement Timed). is_among k (started_harts one.hart.0 o) ≡ true) (sym retires) among)
          ∙ ap (λ (o : Retirement Timed). Some (new.time + work x pc_of o.guest k)) retires

      pub retired_can : CanRecord new (Retired one) causes events
      retired_can =
          let many_events = many in
          let budget = walked.reached.retired in
          let few = walked.few in (
            walked.room,
            here_below one.hart.0 new.time did.turn,
            omega arith,
            subst (λ (o : Retirement Timed). IsLater new.time o.fate) retires turn.later,
            λ on k among. let key = begun on k among in (within_harts k _ key did.room, (due_then _ k key, begun_then new.time (work x pc_of new.guest k) k key)),
          )

      pub retired_walked : (address : ℕ) (new_causes : List Cause) (new_events : List Event) → address ≡ pc_of engine.guest one.hart.0 → length new_causes ≡ HARTS → IsRecorded new (Retired one) address causes events new_causes new_events → IsWalked new new_causes new_events
      retired_walked address new_causes new_events place room followed =
          let below = here_below one.hart.0 new.time did.turn in
          record {
            valid = walked.valid;
            few = walked.few;
            reached = reached_after (Retired one) did;
            room = room;
            events_are =
                followed.0
                ∙ ap₂ (λ (es : List Event) (e : Event). es ++ e ∷ []) walked.events_are
                (ap₂ (λ (c : Cause) (a : ℕ). record { hart = record { 0 = one.hart.0 }; address = a; cost = c.cost; slept = c.slept; from = c.from; before = c.before; due = new.time }) (walked.causes_are none one.hart.0 below) (place ∙ ap (λ (g : Timed). pc_of g one.hart.0) (sym guest_is)))
                ∙ ap (λ (o : Traced). o.events) (sym (traced_after (Retired one) did ∙ turn.traced_is));
            causes_are = λ on k lt.
                followed.1 on k
                ∙ same_turned_by (is_among k (started_by one.hart.0 one.fate new.started)) (k == one.hart.0) one.fate new.time (length events) (length w.events) (ticks_from new.schedule new.time k) (work x pc_of new.guest k) (cause_at causes k) (w.causes k)
                (λ e c. at_rest one.fate new.time e (after_own e c)) (λ among. ticks_then new.time (work x pc_of new.guest k) k (begun on k among)) (ap length walked.events_are) (walked.causes_are none k lt)
                ∙ ap (λ (o : Retirement Timed). turned one.hart.0 o.fate new.time (length w.events) (started_harts one.hart.0 o) (work x pc_of o.guest) k (w.causes k)) (sym retires)
                ∙ ap (λ (o : Traced). o.causes k) (sym (traced_after (Retired one) did ∙ turn.traced_is));
          }

    module _ (one : turns.Turn) (did : IsAdvance setting engine (Woke one) 0 new) where
      abbrev at : Turn
      at = record { hart = one.hart.0; due = one.due }

      wake_turn : IsWaking x IsOrderly law pc_of n at
      wake_turn =
          waking x IsOrderly law pc_of n at none_here (next_is engine.schedule s.dues one.hart.0 one.due walked.reached.reached.dues did.turn did.first)
          (ap (λ (g : Timed). is_sleeping g one.hart.0) guest_is ∙ did.asleep)

      key : key_of new.schedule one.hart.0 ≡ Some (one.due + work x pc_of (with_wake one.hart.0 s.guest) one.hart.0)
      key = key_after (Woke one) did one.hart.0 ∙ wake_turn.begun

      pub woken_can : CanRecord new (Woke one) causes events
      woken_can =
          let below = here_below one.hart.0 one.due did.turn in
          let soon = (steady image input setting walked.valid engine walked.reached none).within one.hart.0 one.due did.turn in
          let fits = wake_turn.fits in
          (walked.room, below, rw (walked.causes_are none one.hart.0 below) (omega arith), begun_then one.due (work x pc_of (with_wake one.hart.0 s.guest) one.hart.0) one.hart.0 key)

      woken_by : (k : ℕ) (own : Bool) (c : Cause) → (k == one.hart.0) ≡ own → c ≡ w.causes k
          → (if own then woken_with (ticks_from new.schedule one.due k) c else c) ≡ (if own then woken_with (work x pc_of (with_wake k s.guest) k) (w.causes k) else w.causes k)
      woken_by k false c is same = same
      woken_by k true c is same =
          let there : one.hart.0 ≡ k = sym (eqb-true k one.hart.0 is) in
          let ticks : ticks_from new.schedule one.due k ≡ work x pc_of (with_wake k s.guest) k = subst (λ (j : ℕ). ticks_from new.schedule one.due j ≡ work x pc_of (with_wake j s.guest) j) there (ticks_then one.due (work x pc_of (with_wake one.hart.0 s.guest) one.hart.0) one.hart.0 key) in
          ap₂ woken_with ticks same

      pub woken_walked : (address : ℕ) (new_causes : List Cause) (new_events : List Event) → length new_causes ≡ HARTS → IsRecorded new (Woke one) address causes events new_causes new_events → IsWalked new new_causes new_events
      woken_walked address new_causes new_events room followed = record {
        valid = walked.valid;
        few = walked.few;
        reached = reached_after (Woke one) did;
        room = room;
        events_are = followed.0 ∙ walked.events_are ∙ ap (λ (o : Traced). o.events) (sym (traced_after (Woke one) did ∙ wake_turn.traced_is));
        causes_are = λ on k lt. followed.1 k ∙ woken_by k (k == one.hart.0) (cause_at causes k) refl (walked.causes_are none k lt) ∙ ap (λ (o : Traced). o.causes k) (sym (traced_after (Woke one) did ∙ wake_turn.traced_is));
      }

    pub can_record : (moved : moves.Event) → IsAdvance setting engine moved 0 new → CanRecord new moved causes events
    can_record (Woke one) did = woken_can one did
    can_record (Retired one) did = retired_can one did

    -- it is so after a move that is followed
    pub walked_on : (moved : moves.Event) → IsAdvance setting engine moved 0 new → (address : ℕ) → ((hart : ℕ) → IsLeast engine.schedule hart → address ≡ pc_of engine.guest hart)
        → (new_causes : List Cause) (new_events : List Event) → length new_causes ≡ HARTS → IsRecorded new moved address causes events new_causes new_events → IsWalked new new_causes new_events
    walked_on (Woke one) did address place new_causes new_events room followed = woken_walked one did address new_causes new_events room followed
    walked_on (Retired one) did address place new_causes new_events room followed = retired_walked one did address new_causes new_events (place one.hart.0 did.first) room followed

    pub count_on : (moved : moves.Event) → IsAdvance setting engine moved 0 new → events_of new ≡ events_of engine + 1
    count_on moved did = count_after moved did ∙ sym (add-one n)

  -- as a run begins
  pub first_is : (engine : Engine) (causes : List Cause) (events : List Event) → IsSetting setting → setting.choice.budget ≤ MAX_EVENTS → IsFirst setting image input engine → events ≡ [] → length causes ≡ HARTS
      → ((k : ℕ) → cause_at causes k ≡ (if k == 0 then record no_cause { cost = ticks_from engine.schedule 0 0 } else no_cause)) → IsWalked engine causes events
  first_is engine causes events valid few first none room begun =
      let lawful = lawful_in image input setting valid.choice.speedup in
      let zero : events_of engine ≡ 0 = omega (arith, first.retired, first.wakes) in
      let is : traced x pc_of (events_of engine) ≡ untraced x pc_of = ap (traced x pc_of) zero ∙ first_traced x IsOrderly lawful pc_of in
      let key : key_of engine.schedule 0 ≡ Some (0 + work x pc_of x.first 0) = first.reached.reached.dues 0 ∙ ap (λ (m : ℕ). get_or (shortened x m).dues 0 None) zero ∙ first_due x IsOrderly lawful pc_of in
      let ticks : ticks_from engine.schedule 0 0 ≡ work x pc_of x.first 0 = ap (λ (o : Option ℕ). unwrap_or o 0 - 0) key ∙ (let rest : (0 + work x pc_of x.first 0) - 0 ≡ work x pc_of x.first 0 = omega arith in rest) in
      record {
        valid = valid;
        few = few;
        reached = first.reached;
        room = room;
        events_are = none ∙ ap (λ (o : Traced). o.events) (sym is);
        causes_are = λ on k lt.
            begun k
            ∙ ap (λ (t : ℕ). if k == 0 then record no_cause { cost = t } else no_cause) ticks
            ∙ ap (λ (o : Traced). o.causes k) (sym is);
      }

  -- a run that goes on may move
  pub steady_now : (engine : Engine) (causes : List Cause) (events : List Event) → IsWalked engine causes events → engine.ending ≡ None → IsSteady engine
  steady_now engine causes events walked none = steady image input setting walked.valid engine walked.reached none

  pub more_left : (engine : Engine) (causes : List Cause) (events : List Event) → IsWalked engine causes events → engine.ending ≡ None → events_of engine < 2 * setting.choice.budget
  more_left engine causes events walked none = events_below image input setting walked.valid engine walked.reached none

record_parts : (x : Experiment Timed) → ((shortened_record x).retired ≡ (shortened x (enough x)).retired) × ((shortened_record x).time ≡ (shortened x (enough x)).time)
unfolding shortened_record
record_parts x = (refl, refl)

module _ (image : ImageParts) (input : List ℕ) (setting : Setting) (engine : Engine) (causes : List Cause) (events : List Event) (walked : IsWalked image input setting engine causes events) (a : Ending) (ended : engine.ending ≡ Some a) (trace : Trace) (made : IsMadeOf trace a events engine.guest.guest.output) where
  -- the trace that is made as it ends
  pub done : IsTraceOf (x image input setting) pc_of trace
  done =
      let run : Experiment Timed = x image input setting in
      let lawful : IsLawful run IsOrderly = lawful_in image input setting walked.valid.choice.speedup in
      let over : (shortened run (events_of engine)).ending ≡ Some a = ended_now image input setting walked.valid engine walked.reached a ended in
      let within : events_of engine ≤ enough run = within_enough image input setting walked.valid engine walked.reached in
      let kept : net_record_of run (shortened run (events_of engine)) a ≡ shortened_record run = recorded_now image input setting walked.valid engine walked.reached a ended in
      let are : trace.events ≡ whole_events run pc_of = made.events ∙ walked.events_are ∙ all_events run IsOrderly lawful pc_of (events_of engine) a within over in
      let parts = record_parts run in
      record {
        events = are;
        ending = made.ending ∙ ap (λ (r : NetRecord). r.ending) kept;
        output = made.output ∙ ap (λ (o : Shortened Timed). o.guest.guest.output) (sym walked.reached.reached.state) ∙ ap (λ (r : NetRecord). r.output) kept;
        linked = subst Linked (sym are) (linked run IsOrderly lawful pc_of walked.valid.choice.some_budget walked.few);
        many = ap length are ∙ many_events run IsOrderly lawful pc_of ∙ sym parts.0;
        whole = ap (λ (es : List Event). (event_at es (last_of es)).due) are ∙ last_due run IsOrderly lawful pc_of walked.valid.choice.some_budget ∙ sym parts.1;
        befores = subst AreBefores (sym are) (befores_are run IsOrderly lawful pc_of);
        froms = subst (AreFroms (retirements_of run)) (sym are) (froms_are run pc_of);
      }

-- with no line selected and no points the lines don't matter
pub plain_is : (image : ImageParts) (position point : ℕ → Option ℕ) (input : List ℕ) (budget output_limit : ℕ) (layout : Layout) → ((a : ℕ) → point a ≡ None)
    → experiment image position point input (plain_choice budget output_limit layout) ≡ plain image input budget output_limit layout
plain_is image position point input budget output_limit layout none =
    ap (λ (p : ℕ → Option ℕ). experiment image position p input (plain_choice budget output_limit layout)) (fun_ext none)

-- on a machine a run whose addresses have no point is the plain one
plain_on_is : (timing : Timing) (image : ImageParts) (index : Index) (point : ℕ → Option ℕ) (input : List ℕ) (budget output_limit : ℕ) (layout : Layout) → ((a : ℕ) → point a ≡ None)
    → timed_experiment timing image index point input (plain_choice budget output_limit layout) ≡ plain_on timing image index input budget output_limit layout
plain_on_is timing image index point input budget output_limit layout none =
    ap (λ (p : ℕ → Option ℕ). timed_experiment timing image index p input (plain_choice budget output_limit layout)) (fun_ext none)

pub traced_done : (r : Result Trace AllocError) (P Q : Trace → Type 0) → ((t : Trace) → P t → Q t) → IfOk r P → IfOk r Q
traced_done (Ok t) P Q f p = f t p
traced_done (Err e) P Q f p = p

-- so the trace of a run with no line selected and no points is that of the plain one
pub plain_traced : (timing : Timing) (image : ImageParts) (index : Index) (point : ℕ → Option ℕ) (input : List ℕ) (budget output_limit : ℕ) (layout : Layout) → ((a : ℕ) → point a ≡ None)
    → (r : Result Trace AllocError) → IfOk r (IsTraceOf (timed_experiment timing image index point input (plain_choice budget output_limit layout)) pc_of)
    → IfOk r (IsTraceOf (plain_on timing image index input budget output_limit layout) pc_of)
plain_traced timing image index point input budget output_limit layout none r is =
    subst (λ (run : Experiment Timed). IfOk r (IsTraceOf run pc_of)) (plain_on_is timing image index point input budget output_limit layout none) is
