-- The counts beside the engine: those of as many events as the engine has made.
use Rattle.std.proofs.Common.{◌≡◌, ℕ, suc, ◌+◌, ◌*◌, ◌^◌, ◌≤◌, ◌<◌, ◌∙◌, ◌++◌, Bool, true, false, not, nat_le, List, [], ◌∷◌, map, fold, length, get_or, Option, Some, None, is_some, refl, sym, ap, ap₂, subst, arith, add-one, mul-le-mul, mul_comm, mul_assoc}
use Rattle.std.proofs.lemmas.List.Elements.{All-nil, All-cons, All-append}
use Rattle.coz_types.specs.declared.TheConstants.{HARTS}
use Rattle.coz_types.specs.declared.ending.Ending.{Ending}
use Rattle.coz_types.specs.declared.ending.Ending.TheVariants.{Exited, Trapped, Unsupported, Clock, OutputFull, VisitsFull, Stalled, Spent}
use Rattle.coz_types.specs.declared.ending.Trap.{Trap}
use Rattle.coz_types.specs.Image.{ImageParts}
use Rattle.line_index.specs.Index.{Index}
use Rattle.progress_points.specs.Points.{point_of}
use Rattle.hart_schedule.specs.Keys.{key_of}
use Rattle.machines.specs.Places.{is_among, AllApart}
use Rattle.machines.specs.declared.Fate.{Fate}
use Rattle.machines.specs.declared.Fate.TheVariants.{Goes, Waits, Leaves, Sleeps, Ends}
use Rattle.machines.specs.Guest.{Experiment, Retirement, IsLawful, cost, started_harts, ending_if, first_ending}
use Rattle.machines.specs.Delayed.{unbegun}
use Rattle.machines.specs.Shortened.{Shortened, Turn, shortened}
use Rattle.machines.specs.Shortened as short
use Rattle.machines.specs.Standing.{standing}
use Rattle.machines.specs.Lead.{Before, before}
use Rattle.machines.proofs.LeadForks.{before_guest, ended_begins, goes_begins, wakes_begins, begins_apart, begun_due}
use Rattle.machines.proofs.Standing.{agrees}
use Rattle.guest_calls.proofs.Among.{few_apart}
use Rattle.timing_model.specs.declared.timing.Timing.{Timing}
use Rattle.timed_guest.specs.Guest.{Timed, IsMade, pc_of, is_sleeping, first_guest}
use Rattle.timed_guest.specs.Retire.{line_counted, retire, retirement}
use Rattle.timed_guest.specs.Orderly.{IsOrderly}
use Rattle.timed_guest.proofs.Law.{running_awake, timed_low, own_trap}
use Rattle.run_engine.specs.declared.choice.Setting.{Setting}
use Rattle.run_engine.specs.declared.engine.Engine.{Engine}
use Rattle.run_engine.specs.declared.engine.Event.{Event}
use Rattle.run_engine.specs.declared.engine.Event.TheVariants.{Woke, Retired}
use Rattle.run_engine.specs.Advance.{IsAdvance}
use Rattle.run_engine.specs.Begin.{started_by}
use Rattle.run_engine.specs.Ending.{ending_of}
use Rattle.virtual_run.specs.DelayedRun.{IsOfAHart}
use Rattle.run_engine.specs.Engine.{events_of, most_ticks, IsEngineOf, IsFirst}
use Rattle.run_engine.specs.Run.{IsSetting, experiment_in}
use Rattle.run_engine.specs.Visits.{Visits, visits_of}
use Rattle.run_engine.proofs.Keys.{has_place, next_is}
use Rattle.run_engine.proofs.Grown.{first_timing}
use Rattle.run_engine.proofs.Law.{first_made, lawful_in, on_machine, reached_next, reached_woken, steady, events_below, within_enough}
use Rattle.run_engine.proofs.Ticks.{times_small}
use Rattle.run_counts.specs.Beginnings.{Beginning, begun}
use Rattle.run_counts.specs.Counts.{Counts, no_counts, with_beginning, IsWithin, AreCounts, tally_at}
use Rattle.run_counts.proofs.Adding.{one_more, each_more}
use Rattle.run_counts.proofs.Within.{within, first_counts}
use Rattle.counted_run.specs.Begun.{with_hart, unless_ended, begun_by}
use Rattle.counted_run.specs.CountedRun.{AreUndelayed, IsCounting}
use Rattle.counted_run.proofs.Folding.{hart_begun, hart_work, fold_begun, fold_work}

pub none_undelayed : AreUndelayed []
none_undelayed = All-nil (λ visit. visit.delay ≡ 0)

-- a visit with no delay is kept with none
one_undelayed : (point : Option ℕ) (h time : ℕ) → AreUndelayed (visits_of point h time 0)
one_undelayed None h time = none_undelayed
one_undelayed (Some p) h time = All-cons (λ visit. visit.delay ≡ 0) (record { point = record { 0 = p }; hart = record { 0 = h }; time = time; delay = 0 }) [] refl none_undelayed

short_first : {G : Type 0} (x : Experiment G) → x.first ≡ (shortened x 0).guest
unfolding shortened short.unbegun short.begin
short_first x = refl

short_time : {G : Type 0} (x : Experiment G) → 0 ≡ (shortened x 0).time
unfolding shortened short.unbegun short.begin
short_time x = refl

-- what hart 0 begins
first_begun : (x : Experiment Timed) (place : Timed → ℕ → Option ℕ) (count : ℕ) → AreCounts x place count (begun x 0) (with_beginning x place x.first (no_counts count) 0)
unfolding begun before unbegun
first_begun x place count = one_more x place count [] (no_counts count) (first_counts x place count) x.first 0

-- an ending is of a hart if each trap is
of_a_hart : (e : Ending) → ((trap : Trap) → e ≡ Trapped trap → trap.hart.0 < 256) → IsOfAHart e
of_a_hart (Exited code) low = tt
of_a_hart (Trapped trap) low = low trap refl
of_a_hart (Unsupported number) low = tt
of_a_hart Clock low = tt
of_a_hart OutputFull low = tt
of_a_hart VisitsFull low = tt
of_a_hart Stalled low = tt
of_a_hart Spent low = tt

-- no other ending than the guest's own is a trap
no_trap : (output_full visits_full idle spent : Bool) (trap : Trap)
    → first_ending (ending_if output_full OutputFull ∷ ending_if visits_full VisitsFull ∷ ending_if idle Stalled ∷ ending_if spent Spent ∷ []) ≡ Some (Trapped trap) → ⊥
no_trap true visits_full idle spent trap is = cc
no_trap false true idle spent trap is = cc
no_trap false false true spent trap is = cc
no_trap false false false true trap is = cc
no_trap false false false false trap is = cc

trap_fate : (fate : Fate) (output_full visits_full some_hart_runs : Bool) (retired budget : ℕ) (trap : Trap) → ending_of fate output_full visits_full some_hart_runs retired budget ≡ Some (Trapped trap) → fate ≡ Ends (Trapped trap)
trap_fate Goes o v r n b trap is = absurd (no_trap o v (not r) (nat_le b n) trap is)
trap_fate Waits o v r n b trap is = absurd (no_trap o v (not r) (nat_le b n) trap is)
trap_fate Leaves o v r n b trap is = absurd (no_trap o v (not r) (nat_le b n) trap is)
trap_fate (Sleeps moment) o v r n b trap is = absurd (no_trap o v (not r) (nat_le b n) trap is)
trap_fate (Ends e) o v r n b trap is = let same : e ≡ Trapped trap = cc in ap Ends same

times_256 : (m n : ℕ) → m * (256 * n) ≡ 256 * (m * n)
times_256 m n = sym (mul_assoc m 256 n) ∙ ap (λ (k : ℕ). k * n) (mul_comm m 256) ∙ mul_assoc 256 m n

module _ (image : ImageParts) (input : List ℕ) (setting : Setting) where
  abbrev pub x : Experiment Timed
  x = experiment_in image input setting

  abbrev index : Index
  index = setting.index.now

  abbrev place : Timed → ℕ → Option ℕ
  place = line_counted

  module _ (engine : Engine) (c : Counts) (now : IsCounting image input setting engine c) where
    law : IsLawful x IsOrderly
    law = lawful_in image input setting now.valid.choice.speedup

    abbrev n : ℕ
    n = events_of engine

    abbrev s : Shortened Timed
    s = shortened x n

    -- the counts may grow by what an event begins
    pub are_within : IsWithin c
    are_within = within x place (length index.lines) (begun x n) c now.counts_are

    within_now : n ≤ 2 * setting.choice.budget
    within_now = within_enough image input setting now.valid engine now.reached

    -- the ticks of the dearest instruction, and of one for each event and more
    abbrev most : ℕ
    most = most_ticks setting.timing

    first_machine : x.first.beside.timing ≡ setting.timing
    first_machine = first_timing image input setting.choice.output_limit setting.choice.layout setting.timing setting.index.now

    most_few : most * (n + 1) ≤ 5 * 10 ^ 16
    most_few = let few = within_now in times_small setting.timing setting.choice.budget (n + 1) now.valid.machine now.valid.choice.few (omega (arith, few))

    -- all work and that of some instructions more is below 2^64 ticks
    pub still_room : c.all + 2000000 * (1 + HARTS) < 2 ^ 64
    still_room =
        let work : c.all ≤ most * c.begun = now.work in
        let more : most * c.begun ≤ most * (256 * (n + 1)) = mul-le-mul (let same : most ≤ most = omega arith in same) now.few in
        let turned : most * (256 * (n + 1)) ≡ 256 * (most * (n + 1)) = times_256 most (n + 1) in
        let all = most_few in
        omega (arith, work, more, turned, all)

    pub still_few : c.begun + 1 + HARTS ≤ 2 ^ 50
    still_few = let few = now.few in let most = within_now in let budget : setting.choice.budget ≤ 10 ^ 12 = now.valid.choice.few in omega arith

    pub starts_small : (line : ℕ) → (tally_at c.lines line).starts ≤ 10 ^ 17
    starts_small line =
        let w = are_within.starts line in
        let few = now.few in
        let most = within_now in
        let budget : setting.choice.budget ≤ 10 ^ 12 = now.valid.choice.few in
        omega arith

    guest_is : s.guest ≡ engine.guest
    guest_is = ap (λ (o : Shortened Timed). o.guest) now.reached.reached.state

    ending_is : (standing x n).ending ≡ engine.ending
    ending_is = (agrees x IsOrderly law n).ending ∙ ap (λ (o : Shortened Timed). o.ending) now.reached.reached.state

    module _ (none : engine.ending ≡ None) (new : Engine) where
      reached_after : (event : Event) → IsAdvance setting engine event 0 new → IsEngineOf x new
      reached_after (Woke turn) did =
          let same : new.visits ≡ engine.visits = ap (λ (o : Engine). o.visits) did.rest in
          reached_woken image input setting now.valid engine now.reached new none
          (did.moved (first_guest image input setting.choice.output_limit setting.choice.layout setting.timing setting.index.now) _ now.reached.reached.dues) did.room same (ap (λ (o : Engine). o.retired) did.rest) did.wakes did.few did.within
      reached_after (Retired one) did =
          reached_next image input setting now.valid engine now.reached new none
          (did.moved (first_guest image input setting.choice.output_limit setting.choice.layout setting.timing setting.index.now) _ now.reached.reached.dues) did.room (ap (λ (vs : Visits). vs.limit) did.visits) did.unfull did.retired did.wakes did.few did.within

      count_after : (event : Event) → IsAdvance setting engine event 0 new → events_of new ≡ suc n
      count_after (Woke turn) did = omega (arith, ap (λ (o : Engine). o.retired) did.rest, did.wakes)
      count_after (Retired one) did = omega (arith, did.retired, did.wakes)

      undelayed_after : (event : Event) → IsAdvance setting engine event 0 new → AreUndelayed new.visits.kept
      undelayed_after (Woke turn) did = subst (λ (v : Visits). AreUndelayed v.kept) (sym (ap (λ (o : Engine). o.visits) did.rest)) now.undelayed
      undelayed_after (Retired one) did =
          let point : Option ℕ = point_of setting.points.now (pc_of engine.guest one.hart.0) in
          subst AreUndelayed (sym (ap (λ (v : Visits). v.kept) did.visits))
          (All-append (λ visit. visit.delay ≡ 0) engine.visits.kept (visits_of point one.hart.0 (new.time + 0) 0) now.undelayed (one_undelayed point one.hart.0 (new.time + 0)))

      time_after : (event : Event) → IsAdvance setting engine event 0 new → new.time ≤ 10 ^ 17
      time_after (Woke turn) did = let same : new.time ≡ engine.time = ap (λ (o : Engine). o.time) did.rest in let soon = now.soon in omega arith
      time_after (Retired one) did =
          let due : new.time ≤ 10 ^ 16 + most_ticks x.first.beside.timing * (n + 1) = now.reached.within one.hart.0 new.time did.turn in
          let soon : new.time ≤ 10 ^ 16 + most * (n + 1) = subst (λ (t : Timing). new.time ≤ 10 ^ 16 + most_ticks t * (n + 1)) first_machine due in
          let all = most_few in
          omega (arith, soon, all)

      trap_after : (event : Event) → IsAdvance setting engine event 0 new → (e : Ending) → new.ending ≡ Some e → IsOfAHart e
      trap_after (Woke turn) did e is =
          absurd (let no : ◌≡◌ {A = Option Ending} None (Some e) = sym none ∙ sym (ap (λ (o : Engine). o.ending) did.rest) ∙ is in cc)
      trap_after (Retired one) did e is =
          of_a_hart e (λ trap trapped.
          let fate_is : one.fate ≡ Ends (Trapped trap) = trap_fate one.fate _ _ _ new.retired setting.choice.budget trap (sym did.ending ∙ is ∙ ap Some trapped) in
          let st = steady image input setting now.valid engine now.reached none in
          let own : trap.hart.0 ≡ one.hart.0 = own_trap engine.guest one.hart.0 new.time st.orderly did.running trap (ap (λ (r : Retirement Timed). r.fate) (sym did.retires) ∙ fate_is) in
          let below : one.hart.0 < 256 = subst (λ (m : ℕ). one.hart.0 < m) now.reached.room (has_place engine.schedule one.hart.0 new.time did.turn) in
          omega arith)

      module _ (event : Event) (did : IsAdvance setting engine event 0 new) where
        abbrev b : Before Timed
        b = before x (suc n)

        ending_after : (standing x (suc n)).ending ≡ new.ending
        ending_after =
            (agrees x IsOrderly law (suc n)).ending
            ∙ ap (λ (m : ℕ). (shortened x m).ending) (sym (count_after event did))
            ∙ ap (λ (o : Shortened Timed). o.ending) (reached_after event did).reached.state

        guest_after : b.state.guest ≡ new.guest
        guest_after =
            sym (before_guest x (suc n))
            ∙ (agrees x IsOrderly law (suc n)).guest
            ∙ ap (λ (m : ℕ). (shortened x m).guest) (sym (count_after event did))
            ∙ ap (λ (o : Shortened Timed). o.guest) (reached_after event did).reached.state

      harts_by : (event : Event) (did : IsAdvance setting engine event 0 new) (o : Option Ending) → new.ending ≡ o → (before x (suc n)).harts ≡ begun_by new event
      harts_by (Woke turn) did o is =
          let t : Turn = record { hart = turn.hart.0; due = turn.due } in
          wakes_begins x IsOrderly law n t (ending_is ∙ none) (next_is engine.schedule s.dues turn.hart.0 turn.due now.reached.reached.dues did.turn did.first)
          (ap (λ (g : Timed). is_sleeping g turn.hart.0) guest_is ∙ did.asleep)
      harts_by (Retired one) did (Some e) is =
          ended_begins x (suc n) e (ending_after (Retired one) did ∙ is)
          ∙ sym (ap (λ (o : Option Ending). unless_ended o (started_by one.hart.0 one.fate new.started)) is)
      harts_by (Retired one) did None is =
          let t : Turn = record { hart = one.hart.0; due = new.time } in
          let retires : retire s.guest one.hart.0 new.time ≡ retirement new.guest one.fate new.started = ap (λ (g : Timed). retire g one.hart.0 new.time) guest_is ∙ sym did.retires in
          goes_begins x IsOrderly law n t (ending_is ∙ none) (next_is engine.schedule s.dues one.hart.0 new.time now.reached.reached.dues did.turn did.first)
          (ap (λ (g : Timed). is_sleeping g one.hart.0) guest_is ∙ running_awake engine.guest one.hart.0 did.running)
          (ending_after (Retired one) did ∙ is)
          ∙ ap (started_harts one.hart.0) retires
          ∙ sym (ap (λ (o : Option Ending). unless_ended o (started_by one.hart.0 one.fate new.started)) is)

      module _ (event : Event) (did : IsAdvance setting engine event 0 new) where
        harts_are : (before x (suc n)).harts ≡ begun_by new event
        harts_are = harts_by event did new.ending refl

        key_there : (o : Option ℕ) (v : ℕ) → o ≡ Some v → is_some o ≡ true
        key_there o v is = ap is_some is

        -- each of them is due
        due_after : (k : ℕ) → is_among k (begun_by new event) ≡ true → (v : ℕ) × (key_of new.schedule k ≡ Some v)
        due_after k among =
            let r = begun_due x IsOrderly law (suc n) k (ap (is_among k) harts_are ∙ among) in
            (_, (reached_after event did).reached.dues k ∙ ap (λ (m : ℕ). get_or (shortened x m).dues k None) (count_after event did) ∙ r.1)

        room_after : length new.schedule ≡ HARTS
        room_after = (reached_after event did).room

        pub few_begun : length (begun_by new event) ≤ HARTS
        few_begun =
            few_apart (begun_by new event) HARTS (subst AllApart harts_are (begins_apart x IsOrderly law (suc n)))
            (λ k among. let due = due_after k among in subst (λ (m : ℕ). k < m) room_after (has_place new.schedule k due.0 due.1))

        goes_on : (o : Option Ending) → new.ending ≡ o → (k : ℕ) → is_among k (begun_by new event) ≡ true → new.ending ≡ None
        goes_on None is k among = is
        goes_on (Some e) is k among =
            let none_begins : begun_by new event ≡ [] = sym harts_are ∙ ended_begins x (suc n) e (ending_after event did ∙ is) in
            absurd (let no : false ≡ true = ap (is_among k) (sym none_begins) ∙ among in cc)

        pub made_after : (k : ℕ) → is_among k (begun_by new event) ≡ true → IsMade new.guest k
        made_after k among =
            let on : new.ending ≡ None = goes_on new.ending refl k among in
            let st = steady image input setting now.valid new (reached_after event did) on in
            let due = due_after k among in
            (timed_low new.guest k st.orderly (st.timed k ∙ ap is_some due.1)).0

        all_counted : AreCounts x place (length index.lines) (begun x (suc n)) (fold (with_hart new.guest) c (begun_by new event))
        unfolding begun cost
        all_counted =
            subst (λ (b : List (Beginning Timed)). AreCounts x place (length index.lines) (begun x n ++ b) (fold (with_hart new.guest) c (begun_by new event)))
            (ap₂ (λ (g : Timed) (hs : List ℕ). map (λ h. record { guest = g; hart = h }) hs) (sym (guest_after event did)) (sym harts_are))
            (each_more x place (length index.lines) new.guest (begun_by new event) (begun x n) c now.counts_are)

        work_after : (fold (with_hart new.guest) c (begun_by new event)).all ≤ most * (fold (with_hart new.guest) c (begun_by new event)).begun
        work_after =
            let timing : new.guest.beside.timing ≡ setting.timing = (on_machine image input setting now.valid new (reached_after event did)).timing in
            subst (λ (t : Timing). (fold (with_hart new.guest) c (begun_by new event)).all ≤ most_ticks t * (fold (with_hart new.guest) c (begun_by new event)).begun) timing
            (fold_work new.guest (begun_by new event) c (subst (λ (t : Timing). c.all ≤ most_ticks t * c.begun) (sym timing) now.work))

        more : (fold (with_hart new.guest) c (begun_by new event)).begun ≡ c.begun + length (begun_by new event)
        more = fold_begun new.guest (begun_by new event) c

        counting_then : IsCounting image input setting new (fold (with_hart new.guest) c (begun_by new event))
        counting_then = record {
          valid = now.valid;
          unselected = now.unselected;
          no_speedup = now.no_speedup;
          reached = reached_after event did;
          undelayed = undelayed_after event did;
          soon = time_after event did;
          trap = trap_after event did;
          few = let few = now.few in let one = few_begun in let count = count_after event did in let more = more in omega arith;
          work = work_after;
          counts_are =
              subst (λ (m : ℕ). AreCounts x place (length index.lines) (begun x m) (fold (with_hart new.guest) c (begun_by new event))) (sym (count_after event did)) all_counted;
        }

        -- the counts with what the event begins are those beside the new engine
        pub counting_on : (after : Counts) → after ≡ fold (with_hart new.guest) c (begun_by new event) → IsCounting image input setting new after
        counting_on after is = subst (IsCounting image input setting new) (sym is) counting_then

      pub count_on : (event : Event) → IsAdvance setting engine event 0 new → events_of new ≡ events_of engine + 1
      count_on event did = count_after event did ∙ sym (add-one n)

    pub more_left : engine.ending ≡ None → events_of engine < 2 * setting.choice.budget
    more_left none = events_below image input setting now.valid engine now.reached none

  module _ (engine : Engine) (valid : IsSetting setting) (unselected : setting.choice.selected ≡ None) (no_speedup : setting.choice.speedup ≡ 0) (first : IsFirst setting image input engine) where
    zero_events : events_of engine ≡ 0
    zero_events = omega (arith, first.retired, first.wakes)

    first_guest_is : x.first ≡ engine.guest
    first_guest_is =
        short_first x
        ∙ ap (λ (k : ℕ). (shortened x k).guest) (sym zero_events)
        ∙ ap (λ (o : Shortened Timed). o.guest) first.reached.reached.state

    first_time : engine.time ≡ 0
    first_time =
        ap (λ (o : Shortened Timed). o.time) (sym first.reached.reached.state)
        ∙ ap (λ (k : ℕ). (shortened x k).time) zero_events
        ∙ sym (short_time x)

    pub made_first : IsMade engine.guest 0
    made_first = subst (λ (g : Timed). IsMade g 0) first_guest_is (first_made image input setting.choice.output_limit setting.choice.layout setting.timing setting.index.now)

    first_all : AreCounts x place (length index.lines) (begun x 0) (with_hart engine.guest (no_counts (length index.lines)) 0)
    unfolding cost
    first_all =
        subst (λ (g : Timed). AreCounts x place (length index.lines) (begun x 0) (with_hart g (no_counts (length index.lines)) 0)) first_guest_is
        (first_begun x place (length index.lines))

    first_work : (with_hart engine.guest (no_counts (length index.lines)) 0).all ≤ most_ticks setting.timing * (with_hart engine.guest (no_counts (length index.lines)) 0).begun
    first_work =
        let timing : engine.guest.beside.timing ≡ setting.timing = (on_machine image input setting valid engine first.reached).timing in
        subst (λ (t : Timing). (with_hart engine.guest (no_counts (length index.lines)) 0).all ≤ most_ticks t * (with_hart engine.guest (no_counts (length index.lines)) 0).begun) timing
        (hart_work engine.guest (no_counts (length index.lines)) 0 (let none : 0 ≤ most_ticks engine.guest.beside.timing * 0 = omega arith in none))

    -- as a run begins, hart 0 has begun an instruction
    pub counting_first : (c : Counts) → c ≡ with_hart engine.guest (no_counts (length index.lines)) 0 → IsCounting image input setting engine c
    counting_first c is =
        subst (IsCounting image input setting engine) (sym is)
        (record {
          valid = valid;
          unselected = unselected;
          no_speedup = no_speedup;
          reached = first.reached;
          undelayed = subst AreUndelayed (sym first.kept) none_undelayed;
          soon = let zero : engine.time ≡ 0 = first_time in omega arith;
          trap = λ e is. absurd (let no : ◌≡◌ {A = Option Ending} None (Some e) = sym first.ending ∙ is in cc);
          few = let one = hart_begun engine.guest (no_counts (length index.lines)) 0 in omega arith;
          work = first_work;
          counts_are = subst (λ (m : ℕ). AreCounts x place (length index.lines) (begun x m) (with_hart engine.guest (no_counts (length index.lines)) 0)) (sym zero_events) first_all;
        })
