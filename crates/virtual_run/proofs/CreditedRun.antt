-- The delayed run of a program, step by step in code.
use Rattle.std.proofs.Common.{◌≡◌, ℕ, zero, suc, ◌+◌, ◌-◌, ◌*◌, ◌^◌, ◌≤◌, ◌<◌, Bool, true, false, not, if◌then◌else◌, ◌==◌, List, [], ◌∷◌, ◌++◌, map, length, get_or, slice_get, filter, nat_le, refl, sym, ap, ap₂, ◌∙◌, subst, arith, Option, Some, None, is_some, option_map, option_to_list, IsSome, eq-eqb, eqb-true, replicate, lit<, mul_comm}
use Rattle.std.proofs.lemmas.List.{length-map, length-replicate, length-set, map-append}
use Rattle.std.specs.List.{All}
use Rattle.std.proofs.lemmas.List.Elements.{All-nil, All-cons, All-head, All-tail}
use Rattle.coz_types.specs.declared.ending.Ending.{Ending}
use Rattle.coz_types.specs.declared.ending.Ending.TheVariants.{Exited, Trapped, Unsupported, Clock, OutputFull, VisitsFull, Stalled, Spent}
use Rattle.coz_types.specs.declared.ending.Trap.{Trap}
use Rattle.coz_types.specs.declared.record.Account.{Account as GivenAccount}
use Rattle.coz_types.specs.declared.record.Outcome.{Outcome}
use Rattle.coz_types.specs.declared.record.Visit.{Visit as GivenVisit}
use Rattle.coz_types.specs.Image.{ImageParts}
use Rattle.hart_schedule.specs.Keys.{key_of}
use Rattle.progress_points.specs.Points.{point_of}
use Rattle.machines.specs.declared.Fate.{Fate}
use Rattle.machines.specs.declared.Fate.TheVariants.{Goes, Waits, Leaves, Sleeps, Ends}
use Rattle.machines.specs.Places.{is_among}
use Rattle.machines.specs.Guest.{Experiment, Retirement, IsLawful, enough, goes_on, own_ending, ending_if, first_ending, started_harts, is_timed}
use Rattle.machines.specs.Delayed.{Account, Load, Hart, Delayed, Visit, total, idle_hart, has_load, run as run_from, begin, unbegun, events, after, delayed}
use Rattle.machines.specs.Shortened.{Shortened, Turn, shortened}
use Rattle.machines.specs.Shortened as short
use Rattle.machines.specs.Agreement.{LoadAgrees, Agrees}
use Rattle.machines.specs.Steps.{Steps, Passes}
use Rattle.machines.specs.Standing.{standing, delayed_record}
use Rattle.machines.specs.Lead.{before}
use Rattle.machines.specs.Records.{net, record_of, IsDelayed, IsShortened, shortened_record}
use Rattle.machines.proofs.Timed.{loads_timed, dues_timed}
use Rattle.machines.proofs.Runs.{both}
use Rattle.machines.proofs.LeadForks.{ended_begins, goes_begins, wakes_begins}
use Rattle.machines.proofs.Headline.{unique}
use Rattle.machines.proofs.Ends.{goes_on_at, few, record_is}
use Rattle.machines.proofs.Stepping.{begin_frame}
use Rattle.machines.proofs.Standing.{agrees, few_wakes, in_time, end_in_time, steps_is, last, recorded_delayed, delayed_is, net_is}
use Rattle.delay_credits.specs.Delays.{Delays, account_as, hart_at, pause_of, at, with_start, none_raised}
use Rattle.delay_credits.specs.Ticks.{without_work, hart_after_ticks}
use Rattle.timed_guest.specs.Guest.{Timed, making, IsMade, pc_of, with_wake}
use Rattle.guest_calls.specs.Guest as guests
use Rattle.timed_guest.specs.Orderly.{IsOrderly}
use Rattle.timed_guest.specs.Retire.{cycles_of_next, retire, retirement}
use Rattle.timed_guest.proofs.Law.{retire-made, timed_low, running_awake, others_idle, own_trap}
use Rattle.run_engine.specs.declared.choice.Setting.{Setting}
use Rattle.run_engine.specs.declared.engine.Event.{Event}
use Rattle.run_engine.specs.declared.engine.Event.TheVariants.{Woke, Retired}
use Rattle.run_engine.specs.declared.engine.Engine.{Engine}
use Rattle.run_engine.specs.Begin.{started_by, keys_at_rest, many, AreIdle}
use Rattle.run_engine.specs.Ending.{ending_of}
use Rattle.run_engine.specs.Visits.{Visits, visits_of}
use Rattle.run_engine.specs.Run.{IsChoice, IsSetting, experiment_in}
use Rattle.run_engine.specs.Engine.{events_of, IsEngineOf, IsSteady, IsFirst}
use Rattle.run_engine.specs.Advance.{IsRetired, IsWoken, IsAdvance}
use Rattle.virtual_run.specs.Credited.{raise_ticks, with_credits, with_starts, with_raises, with_rest, with_begun, credits_after, moment_of, credited_by, Runs, AllRun, AllBelow, Holds, CanBegin, CanWake, CanAccountRetirement, CanAccount}
use Rattle.virtual_run.specs.Credited as credited
use Rattle.run_engine.specs.Seen.{Seen, view_in, experiment_of}
use Rattle.virtual_run.specs.DelayedRun.{net_due_of, account_in, outcome_of, IsOfAHart, IsSmall, Happens, AgreesThroughout, EndsOnce, IsPaced}
use Rattle.machines.specs.KeptVisits.{visit_as}
use Rattle.run_engine.proofs.Keys.{has_place, rested_length, next_is}
use Rattle.run_engine.proofs.Many.{many_few}
use Rattle.run_engine.proofs.Begin.{one_at_most}
use Rattle.run_engine.proofs.Law.{lawful_in, lawful_on, followed_by, steady, reached_next, reached_woken, IsTurn, started_idle, none_own}
use Rattle.virtual_run.proofs.Credited.{among_filter, rest_of, with_rest_is, holds_begin}
use Rattle.virtual_run.proofs.CreditedLists.{at_latest, change_length, raises_length, raises_latest, start_is, starts_run}
use Rattle.virtual_run.proofs.CreditedBegin.{others_among, begun_places}
use Rattle.virtual_run.proofs.Cuts.{ticks_within, usual_within, delay_within}
use Rattle.virtual_run.proofs.CountedHarts.{IsUsualGuest, usual_law, usual_counted}
use Rattle.virtual_run.proofs.CreditedPlaces.{standing_has, standing_good}
use Rattle.virtual_run.proofs.CreditedSteps.{IsNext, visit_at}
use Rattle.virtual_run.proofs.CreditedSteps as steps
use Rattle.timing_model.specs.declared.timing.Timing.{Timing}
use Rattle.timing_model.specs.Timing.{IsUsual}
use Rattle.run_engine.specs.Engine.{most_ticks}
use Rattle.run_engine.proofs.Law.{on_machine, first_made}
use Rattle.run_engine.proofs.Grown.{first_timing, wake_timing}

-- a wake keeps what the guest was made with
wake_making : (t : Timed) (h : ℕ) → making (with_wake h t) ≡ making t
wake_making t h = ap (λ (timing : Timing). record { guest = guests.making t.guest; timing = timing; index = t.index }) (wake_timing t h)

-- the experiment is lawful
pub lawful_with : (image : ImageParts) (input : List ℕ) (setting : Setting) → IsSetting setting → IsLawful (experiment_in image input setting) IsOrderly
lawful_with image input setting valid = lawful_in image input setting valid.choice.speedup

one_bit : (b : Bool) → (if b then true else false) ≡ true → b ≡ true
one_bit true e = refl
one_bit false e = e

-- visits as the machine keeps them
visit_kept : (o : Option ℕ) (h time delay : ℕ) → map visit_as (visits_of o h time delay) ≡ option_to_list (option_map (λ p. record { point = p; hart = h; time = time; delay = delay }) o)
visit_kept None h time delay = refl
visit_kept (Some p) h time delay = refl

-- an ending is of a hart if each trap is
of_a_hart : (e : Ending) → ((trap : Trap) → e ≡ Trapped trap → trap.hart.0 < 256) → IsOfAHart e
of_a_hart (Exited code) low = tt
of_a_hart (Trapped trap) low = low trap refl
of_a_hart (Unsupported number) low = tt
of_a_hart Clock low = tt
of_a_hart OutputFull low = tt
of_a_hart VisitsFull low = tt
of_a_hart Stalled low = tt
of_a_hart Spent low = tt

-- no other ending than the guest's own is a trap
no_trap : (output_full visits_full idle spent : Bool) (trap : Trap)
    → first_ending (ending_if output_full OutputFull ∷ ending_if visits_full VisitsFull ∷ ending_if idle Stalled ∷ ending_if spent Spent ∷ []) ≡ Some (Trapped trap) → ⊥
no_trap true visits_full idle spent trap is = cc
no_trap false true idle spent trap is = cc
no_trap false false true spent trap is = cc
no_trap false false false true trap is = cc
no_trap false false false false trap is = cc

trap_fate : (fate : Fate) (output_full visits_full some_hart_runs : Bool) (retired budget : ℕ) (trap : Trap) → ending_of fate output_full visits_full some_hart_runs retired budget ≡ Some (Trapped trap) → fate ≡ Ends (Trapped trap)
trap_fate Goes o v r n b trap is = absurd (no_trap o v (not r) (nat_le b n) trap is)
trap_fate Waits o v r n b trap is = absurd (no_trap o v (not r) (nat_le b n) trap is)
trap_fate Leaves o v r n b trap is = absurd (no_trap o v (not r) (nat_le b n) trap is)
trap_fate (Sleeps moment) o v r n b trap is = absurd (no_trap o v (not r) (nat_le b n) trap is)
trap_fate (Ends e) o v r n b trap is = let same : e ≡ Trapped trap = cc in ap Ends same

module _ (image : ImageParts) (input : List ℕ) (setting : Setting) (engine : Engine) (credits : Delays) (now : ℕ) (p : IsPaced image input setting engine credits now) where
  abbrev x : Experiment Timed
  x = experiment_in image input setting

  abbrev d : Delayed Timed
  d = standing x (events_of engine)

  abbrev s : Shortened Timed
  s = shortened x (events_of engine)

  law : IsLawful x IsOrderly
  law = lawful_with image input setting p.valid

  pub agree : Agrees d s
  agree = agrees x IsOrderly law (events_of engine)

  pub ending_now : d.ending ≡ engine.ending
  ending_now = agree.ending ∙ ap (λ (t : Shortened Timed). t.ending) p.reached.reached.state

  pub wakes_now : d.wakes ≡ engine.wakes
  wakes_now = agree.wakes ∙ ap (λ (t : Shortened Timed). t.wakes) p.reached.reached.state

  pub retired_now : d.retired ≡ engine.retired
  retired_now = agree.retired ∙ ap (λ (t : Shortened Timed). t.retired) p.reached.reached.state

  pub events_now : events d ≡ events_of engine
  events_now = ap₂ (λ (m n : ℕ). m + n) retired_now wakes_now

  pub starts_now : d.starts ≡ engine.starts
  starts_now = agree.starts ∙ ap (λ (t : Shortened Timed). t.starts) p.reached.reached.state

  short_guest : s.guest ≡ engine.guest
  short_guest = ap (λ (t : Shortened Timed). t.guest) p.reached.reached.state

  pub guest_now : d.guest ≡ engine.guest
  guest_now = agree.guest ∙ short_guest

  pub now_is : now ≡ d.now
  now_is = p.moment

  -- on the usual machine there is an account for each hart
  pub harts_now : IsUsual setting.timing → length d.harts ≡ length engine.guest.guest.harts
  harts_now usual =
      standing_has x IsUsualGuest (usual_law image input setting p.valid.choice.speedup usual) (λ g. length g.guest.harts) (usual_counted image input setting p.valid.choice.speedup usual) (events_of engine)
      ∙ ap (λ (g : Timed). length g.guest.harts) guest_now

  abbrev pub most : ℕ
  most = most_ticks setting.timing

  -- the delay is at most the ticks of the dearest instruction for each start
  delay_few : d.delay ≤ most * d.starts
  delay_few = delay_within image input setting p.valid (events_of engine)

  -- each wake followed a retirement
  pub wakes_few : engine.wakes ≤ engine.retired
  wakes_few = followed_by image input setting p.valid engine p.reached

  pub starts_few : engine.starts ≤ 2 * setting.choice.budget + 256
  starts_few =
      let most : many engine.schedule ≤ length engine.schedule = many_few engine.schedule in
      let room : length engine.schedule ≡ 256 = p.reached.room in
      let few : engine.starts ≤ events_of engine + many engine.schedule = p.reached.few in
      let below : engine.retired ≤ setting.choice.budget = p.reached.retired in
      omega (arith, wakes_few, most, room, few, below)

  raised_of : credits.raised ≤ most * engine.starts
  raised_of =
      let few : d.delay ≤ most * d.starts = delay_few in
      let is : credits.raised ≡ d.delay = p.holds.raised in
      subst (λ (n : ℕ). credits.raised ≤ most * n) starts_now (omega (arith, few, is))

  pub raised_few : credits.raised ≤ 41 * 10 ^ 15
  raised_few =
      let few : most * engine.starts ≤ 41 * 10 ^ 15 = ticks_within setting.timing setting.choice.budget engine.starts p.valid.machine p.valid.choice.few (omega (arith, starts_few)) in
      omega (arith, raised_of, few)

  pub raised_usual : IsUsual setting.timing → credits.raised ≤ 10 ^ 16
  raised_usual usual =
      let budget : setting.choice.budget ≤ 10 ^ 12 = p.valid.choice.few in
      let few : most * engine.starts ≤ 10 ^ 16 = usual_within setting.timing engine.starts usual (omega (arith, starts_few, budget)) in
      omega (arith, raised_of, few)

  first_machine : x.first.beside.timing ≡ setting.timing
  first_machine = first_timing image input setting.choice.output_limit setting.choice.layout setting.timing setting.index.now

  -- a hart is due in time
  due_few : (h due : ℕ) → key_of engine.schedule h ≡ Some due → due ≤ 51 * 10 ^ 15
  due_few h due has =
      let soon : due ≤ 10 ^ 16 + most * (events_of engine + 1) = subst (λ (t : Timing). due ≤ 10 ^ 16 + most_ticks t * (events_of engine + 1)) first_machine (p.reached.within h due has) in
      let below : engine.retired ≤ setting.choice.budget = p.reached.retired in
      let few : most * (events_of engine + 1) ≤ 41 * 10 ^ 15 = ticks_within setting.timing setting.choice.budget (events_of engine + 1) p.valid.machine p.valid.choice.few (omega (arith, wakes_few, below)) in
      omega (arith, soon, few)

  -- the machine of the engine
  pub machine_now : engine.guest.beside.timing ≡ setting.timing
  machine_now = (on_machine image input setting p.valid engine p.reached).timing

  pub is_steady : engine.ending ≡ None → IsSteady engine
  is_steady none = steady image input setting p.valid engine p.reached none

  module _ (new : Engine) (h : ℕ) (fate : Fate) (delay : ℕ) (given : delay ≡ credits.raised) (goes : engine.ending ≡ None) (a : IsRetired setting engine h fate delay new) where
    abbrev t : Turn
    t = record { hart = h; due = new.time }

    abbrev pub later_now : ℕ
    later_now = new.time + delay

    next : IsNext x IsOrderly law (events_of engine) t later_now credits
    next = record {
      goes = ending_now ∙ goes;
      turn = next_is engine.schedule s.dues h new.time p.reached.reached.dues a.turn a.first;
      moment = ap (λ (m : ℕ). new.time + m) given;
      holds = p.holds;
    }

    pub time_few : new.time ≤ 51 * 10 ^ 15
    time_few = due_few h new.time a.turn

    pub hart_below : h < length credits.harts
    hart_below = subst (λ (n : ℕ). h < n) (p.reached.room ∙ sym p.room) (has_place engine.schedule h new.time a.turn)

    pub is_later : credits.latest ≤ later_now
    is_later = steps.later x IsOrderly law (events_of engine) t later_now credits next

    pub hart_runs : has_load (hart_at credits h) ≡ true
    hart_runs = steps.running x IsOrderly law (events_of engine) t later_now credits next

    pub hart_unpaused : pause_of (hart_at (at later_now credits) h) ≡ 0
    hart_unpaused = steps.unpaused x IsOrderly law (events_of engine) t later_now credits next

    pub hart_still : run_from 0 (hart_at (at later_now credits) h) ≡ hart_at (at later_now credits) h
    hart_still = steps.still x IsOrderly law (events_of engine) t later_now credits next

    abbrev stopped : Delays
    stopped = with_rest h fate later_now credits

    stopped_places : length stopped.harts ≡ 256
    stopped_places =
        let same : length (at later_now credits).harts ≡ length credits.harts = length-map credits.harts (hart_after_ticks (later_now - credits.latest)) in
        ap (λ (c : Delays). length c.harts) (with_rest_is h fate later_now credits)
        ∙ change_length h (rest_of fate) (at later_now credits).harts (subst (λ (n : ℕ). h < n) (sym same) hart_below) ∙ same ∙ p.room

    stopped_raised : stopped.raised ≡ credits.raised
    stopped_raised = ap (λ (c : Delays). c.raised) (with_rest_is h fate later_now credits)

    was_awake : x.guest.is_sleeping s.guest h ≡ false
    was_awake = ap (λ (g : Timed). x.guest.is_sleeping g h) short_guest ∙ running_awake engine.guest h a.running

    turned : IsTurn engine.guest engine.schedule h new.time
    turned = let st : IsSteady engine = is_steady goes in record { orderly = st.orderly; timed = st.timed; running = a.running; room = st.room; turn = a.turn }

    begin_idle : new.ending ≡ None → AreIdle new.guest (keys_at_rest h fate engine.schedule) (started_by h fate new.started)
    begin_idle none =
        let own : own_ending fate ≡ None = none_own fate _ _ _ new.retired setting.choice.budget (sym a.ending ∙ none) in
        started_idle engine.guest engine.schedule h new.time new.guest fate new.started turned a.retires own

    still_idle : (k : ℕ) → is_among k new.started ≡ true → is_timed x.guest s.guest k ≡ false
    still_idle k among =
        ap (λ (g : Timed). is_timed x.guest g k) short_guest
        ∙ others_idle engine.guest h new.time turned.orderly a.running k (ap (λ (r : Retirement Timed). is_among k r.others) (sym a.retires) ∙ among)

    pub reached_new : IsEngineOf x new
    reached_new = reached_next image input setting p.valid engine p.reached new goes (a.moved x.first s.dues p.reached.reached.dues) a.room (ap (λ (v : Visits). v.limit) a.visits) a.unfull a.retired a.wakes a.few a.within

    next_count : events_of new ≡ suc (events_of engine)
    next_count = omega (arith, a.retired, a.wakes)

    after_is : (standing x (suc (events_of engine))).ending ≡ new.ending
    after_is =
        (agrees x IsOrderly law (suc (events_of engine))).ending
        ∙ ap (λ (n : ℕ). (shortened x n).ending) (sym next_count)
        ∙ ap (λ (t : Shortened Timed). t.ending) reached_new.reached.state

    after_starts : (standing x (suc (events_of engine))).starts ≡ new.starts
    after_starts =
        (agrees x IsOrderly law (suc (events_of engine))).starts
        ∙ ap (λ (n : ℕ). (shortened x n).starts) (sym next_count)
        ∙ ap (λ (t : Shortened Timed). t.starts) reached_new.reached.state

    abbrev r : Retirement Timed
    r = retirement new.guest fate new.started

    retires_as : r ≡ x.guest.retire s.guest h new.time
    retires_as = a.retires ∙ ap (λ (g : Timed). retire g h new.time) (sym short_guest)

    new_machine : new.guest.beside.timing ≡ setting.timing
    new_machine = (on_machine image input setting p.valid new reached_new).timing

    raises_few : new.ending ≡ None → credits.raised + most_ticks new.guest.beside.timing * length new.selected ≤ 10 ^ 17
    raises_few none =
        let raised : credits.raised ≤ 41 * 10 ^ 15 = raised_few in
        let more : (standing x (suc (events_of engine))).starts ≡ d.starts + length (filter (x.guest.is_selected new.guest) (started_by h fate new.started)) = steps.starts_next x IsOrderly law (events_of engine) t later_now credits next was_awake r retires_as (after_is ∙ none) in
        let same : length new.selected ≡ length (filter (x.guest.is_selected new.guest) (started_by h fate new.started)) = ap length (a.selected none) in
        let starts : (standing x (suc (events_of engine))).starts ≡ new.starts = after_starts in
        let most_due : many new.schedule ≤ length new.schedule = many_few new.schedule in
        let room : length new.schedule ≡ 256 = a.room in
        let kept : new.starts ≤ events_of new + many new.schedule = a.few in
        let below : new.retired ≤ setting.choice.budget = reached_new.retired in
        let few : most * length new.selected ≤ 41 * 10 ^ 15 =
        ticks_within setting.timing setting.choice.budget (length new.selected) p.valid.machine p.valid.choice.few (omega (arith, wakes_few, below, most_due, room, kept, starts, more, same, a.retired, a.wakes)) in
        subst (λ (t : Timing). credits.raised + most_ticks t * length new.selected ≤ 10 ^ 17) (sym new_machine) (omega (arith, raised, few))

    -- if the run goes on, what it started can begin
    pub can_begin : new.ending ≡ None → CanBegin stopped new.guest h fate new.started new.selected
    can_begin none =
        let idle = begin_idle none in
        let many_harts : length (keys_at_rest h fate engine.schedule) ≡ 256 = rested_length fate engine.schedule h ∙ p.reached.room in
        let low : (k : ℕ) → is_among k (started_by h fate new.started) ≡ true → k < length stopped.harts = λ k among. subst (λ (n : ℕ). k < n) (many_harts ∙ sym stopped_places) (idle.idle k among).below in
        let chosen : (k : ℕ) → is_among k new.selected ≡ true → is_among k (started_by h fate new.started) ≡ true =
        λ k among. (among_filter (x.guest.is_selected new.guest) k (started_by h fate new.started) (ap (is_among k) (sym (a.selected none)) ∙ among)).1 in
        record {
          below = subst (λ (n : ℕ). h < n) (p.room ∙ sym stopped_places) hart_below;
          whole = steps.whole_stopped x IsOrderly law (events_of engine) t later_now credits next fate ∙ sym stopped_raised;
          rest = λ k among. record {
            below = low k (others_among (goes_on fate) h k new.started among);
            rests = steps.idle x IsOrderly law (events_of engine) t later_now credits next fate k (still_idle k among);
          };
          started = low;
          selected = chosen;
          made = λ k among. (idle.idle k (chosen k among)).made;
          few = rw stopped_raised (raises_few none);
        }

    settled : Delays
    settled = credits_after new.ending (raise_ticks new.guest setting.choice.speedup) h fate new.started new.selected stopped

    ticks_are : (k : ℕ) → raise_ticks new.guest setting.choice.speedup k ≡ x.speedup * x.guest.cycles new.guest k
    ticks_are k = mul_comm (cycles_of_next new.guest k) setting.choice.speedup

    settled_holds : (o : Option Ending) → new.ending ≡ o
        → Holds (credits_after o (raise_ticks new.guest setting.choice.speedup) h fate new.started new.selected stopped) (standing x (suc (events_of engine)))
        × (length (credits_after o (raise_ticks new.guest setting.choice.speedup) h fate new.started new.selected stopped).harts ≡ 256)
    settled_holds (Some e) is = (steps.holds_ended x IsOrderly law (events_of engine) t later_now credits next was_awake e fate (ap (λ (r : Retirement Timed). r.fate) retires_as) (after_is ∙ is), stopped_places)
    settled_holds None is =
        let ticks : ℕ → ℕ = raise_ticks new.guest setting.choice.speedup in (
          subst (λ (hs : List ℕ). Holds (with_begun ticks h fate new.started hs stopped) (standing x (suc (events_of engine)))) (sym (a.selected is))
              (steps.holds_goes x IsOrderly law (events_of engine) t later_now credits next was_awake ticks r retires_as ticks_are (after_is ∙ is)),
          begun_places stopped new.guest h fate new.started new.selected (can_begin is) ticks ∙ stopped_places,
        )

    kept_next : map visit_as new.visits.kept ≡ (standing x (suc (events_of engine))).visits
    unfolding visit_at
    kept_next =
        let point : Option ℕ = point_of setting.points.now (pc_of engine.guest h) in
        ap (λ (v : Visits). map visit_as v.kept) a.visits
        ∙ map-append visit_as engine.visits.kept (visits_of point h later_now delay)
        ∙ ap₂ (λ (vs ws : List Visit). vs ++ ws) p.visits
        (visit_kept point h later_now delay ∙ ap₂ (λ (m : ℕ) (g : Timed). visit_at x h later_now m g) given (sym short_guest))
        ∙ sym (steps.visits_next x IsOrderly law (events_of engine) t later_now credits next was_awake)

    latest_is : (o : Option Ending) → (credits_after o (raise_ticks new.guest setting.choice.speedup) h fate new.started new.selected stopped).latest ≡ later_now
    latest_is (Some e) = ap (λ (c : Delays). c.latest) (with_rest_is h fate later_now credits)
    latest_is None =
        raises_latest (raise_ticks new.guest setting.choice.speedup) new.selected (with_starts (started_by h fate new.started) (with_credits new.started stopped))
        ∙ ap (λ (c : Delays). c.latest) (with_rest_is h fate later_now credits)

    -- the fields stand for the state after the retirement
    soon_new : later_now ≤ 10 ^ 17
    soon_new = let few : credits.raised ≤ 41 * 10 ^ 15 = raised_few in let time = time_few in omega (arith, few, time, given)

    -- a trap is that of the hart that retired
    trap_new : (e : Ending) → new.ending ≡ Some e → IsOfAHart e
    trap_new e is =
        of_a_hart e (λ trap trapped.
        let fate_is : fate ≡ Ends (Trapped trap) = trap_fate fate _ _ _ new.retired setting.choice.budget trap (sym a.ending ∙ is ∙ ap Some trapped) in
        let own : trap.hart.0 ≡ h = own_trap engine.guest h new.time turned.orderly a.running trap (ap (λ (r : Retirement Timed). r.fate) (sym a.retires) ∙ fate_is) in
        let below = subst (λ (n : ℕ). h < n) p.room hart_below in
        omega (arith, own, below))

    -- those that are selected began last
    selected_new : (o : Option Ending) → new.ending ≡ o → new.selected ≡ filter (x.guest.is_selected new.guest) (before x (suc (events_of engine))).harts
    selected_new (Some e) is =
        a.none_selected (ap is_some is) ∙ sym (ap (filter (x.guest.is_selected new.guest)) (ended_begins x (suc (events_of engine)) e (after_is ∙ is)))
    selected_new None is =
        let begins = goes_begins x IsOrderly law (events_of engine) t (ending_now ∙ goes) next.turn was_awake (after_is ∙ is) in
        a.selected is ∙ sym (ap (filter (x.guest.is_selected new.guest)) (begins ∙ sym (ap (started_harts h) retires_as)))

    pub paced_next : (after : Delays) → after ≡ credits_after new.ending (raise_ticks new.guest setting.choice.speedup) h fate new.started new.selected stopped → IsPaced image input setting new after later_now
    paced_next after is =
        let both = settled_holds new.ending refl in
        let holds : Holds after (standing x (events_of new)) = subst (λ (n : ℕ). Holds after (standing x n)) (sym next_count) (subst (λ (c : Delays). Holds c (standing x (suc (events_of engine)))) (sym is) both.0) in
        record {
          valid = p.valid;
          reached = reached_new;
          holds = holds;
          room = ap (λ (c : Delays). length c.harts) is ∙ both.1;
          visits = kept_next ∙ ap (λ (n : ℕ). (standing x n).visits) (sym next_count);
          moment = sym (latest_is new.ending) ∙ ap (λ (c : Delays). c.latest) (sym is) ∙ holds.latest;
          soon = soon_new;
          trap = trap_new;
          made = ap (λ (r : Retirement Timed). making r.guest) a.retires ∙ retire-made engine.guest h new.time turned.orderly a.running ∙ p.made;
          selected = selected_new new.ending refl ∙ ap (λ (n : ℕ). filter (x.guest.is_selected new.guest) (before x n).harts) (sym next_count);
        }

    -- the moves up to the retirement
    pub steps_next : Steps x d (standing x (events_of new))
    steps_next =
        let by = steps_is x IsOrderly law (events_of engine) t (ending_now ∙ goes) next.turn in
        subst (λ (n : ℕ). Steps x d (standing x n)) (sym next_count) (by.retires (ap (λ (g : Timed). x.guest.is_sleeping g h) agree.guest ∙ was_awake)).1

    pub can_account_retirement : CanAccountRetirement credits new h fate later_now
    can_account_retirement = record { below = hart_below; later = is_later; running = hart_runs; unpaused = hart_unpaused; can = can_begin }

  -- a wake
  module _ (new : Engine) (h due : ℕ) (delay : ℕ) (given : delay ≡ credits.raised) (goes : engine.ending ≡ None) (a : IsWoken setting engine h due new) where
    abbrev wake_turn : Turn
    wake_turn = record { hart = h; due = due }

    abbrev wake_now : ℕ
    wake_now = due + delay

    next_wake : IsNext x IsOrderly law (events_of engine) wake_turn wake_now credits
    next_wake = record {
      goes = ending_now ∙ goes;
      turn = next_is engine.schedule s.dues h due p.reached.reached.dues a.turn a.first;
      moment = ap (λ (m : ℕ). due + m) given;
      holds = p.holds;
    }

    was_asleep : x.guest.is_sleeping s.guest h ≡ true
    was_asleep = ap (λ (g : Timed). x.guest.is_sleeping g h) short_guest ∙ a.asleep

    pub wake_few : due ≤ 51 * 10 ^ 15
    wake_few = due_few h due a.turn

    wake_below : h < length credits.harts
    wake_below = subst (λ (n : ℕ). h < n) (p.reached.room ∙ sym p.room) (has_place engine.schedule h due a.turn)

    same_visits : new.visits ≡ engine.visits
    same_visits = ap (λ (o : Engine). o.visits) a.rest

    same_retired : new.retired ≡ engine.retired
    same_retired = ap (λ (o : Engine). o.retired) a.rest

    still_goes : new.ending ≡ None
    still_goes = ap (λ (o : Engine). o.ending) a.rest ∙ goes

    reached_wake : IsEngineOf x new
    reached_wake =
        reached_woken image input setting p.valid engine p.reached new goes
        (a.moved x.first s.dues p.reached.reached.dues) a.room same_visits same_retired a.wakes a.few a.within

    pub count_wake : events_of new ≡ events_of engine + 1
    count_wake = omega (arith, same_retired, a.wakes)

    wake_count : events_of new ≡ suc (events_of engine)
    wake_count = omega (arith, count_wake)

    wake_guest : new.guest ≡ x.guest.wake s.guest h
    wake_guest = a.guest ∙ ap (λ (g : Timed). with_wake h g) (sym short_guest)

    wake_selected : new.selected ≡ filter (x.guest.is_selected new.guest) (h ∷ [])
    wake_selected = a.selected

    only_here : (k : ℕ) → is_among k new.selected ≡ true → k ≡ h
    only_here k among = let there = among_filter (x.guest.is_selected new.guest) k (h ∷ []) (ap (is_among k) (sym wake_selected) ∙ among) in eqb-true k h (one_bit (k == h) there.1)

    pub can_wake : CanWake credits new h wake_now
    can_wake =
        let same : length (at wake_now credits).harts ≡ length credits.harts = length-map credits.harts (hart_after_ticks (wake_now - credits.latest)) in
        let here : AllBelow (at wake_now credits) (h ∷ []) = λ k among. let is : k ≡ h = eqb-true k h (one_bit (k == h) among) in omega (arith, is, same, wake_below) in
        let st : IsSteady engine = is_steady goes in
        let low = timed_low engine.guest h st.orderly (st.timed h ∙ ap is_some a.turn) in
        let made : length new.guest.guest.harts ≡ length engine.guest.guest.harts = ap (λ (g : Timed). length g.guest.harts) a.guest ∙ length-set engine.guest.guest.harts h _ in
        let raised : credits.raised ≤ 41 * 10 ^ 15 = raised_few in
        let timing : new.guest.beside.timing ≡ setting.timing = ap (λ (g : Timed). g.beside.timing) a.guest ∙ wake_timing engine.guest h ∙ machine_now in
        let one : length new.selected ≤ 1 = subst (λ (hs : List ℕ). length hs ≤ 1) (sym wake_selected) (one_at_most (x.guest.is_selected new.guest) h) in
        record {
          below = wake_below;
          later = steps.later x IsOrderly law (events_of engine) wake_turn wake_now credits next_wake;
          runs = λ k among. starts_run (h ∷ []) (at wake_now credits) here k (rw (only_here k among, eq-eqb h h refl) refl);
          made = λ k among. let is : k ≡ h = only_here k among in omega (arith, is, low.0, made);
          few =
              let few : most * length new.selected ≤ 41 * 10 ^ 15 = ticks_within setting.timing setting.choice.budget (length new.selected) p.valid.machine p.valid.choice.few (omega (arith, one)) in
              subst (λ (t : Timing). credits.raised + most_ticks t * length new.selected ≤ 10 ^ 17) (sym timing) (omega (arith, raised, few));
        }

    ticks_wake : (k : ℕ) → raise_ticks new.guest setting.choice.speedup k ≡ x.speedup * x.guest.cycles new.guest k
    ticks_wake k = mul_comm (cycles_of_next new.guest k) setting.choice.speedup

    abbrev waked : Delays
    waked = credited.with_wake (raise_ticks new.guest setting.choice.speedup) h new.selected (at wake_now credits)

    holds_waked : Holds waked (standing x (suc (events_of engine)))
    holds_waked =
        subst (λ (hs : List ℕ). Holds (credited.with_wake (raise_ticks new.guest setting.choice.speedup) h hs (at wake_now credits)) (standing x (suc (events_of engine)))) (sym wake_selected)
        (steps.holds_wake x IsOrderly law (events_of engine) wake_turn wake_now credits next_wake was_asleep (raise_ticks new.guest setting.choice.speedup) new.guest wake_guest ticks_wake)

    waked_places : length waked.harts ≡ 256
    waked_places =
        let same : length (at wake_now credits).harts ≡ length credits.harts = length-map credits.harts (hart_after_ticks (wake_now - credits.latest)) in
        raises_length (raise_ticks new.guest setting.choice.speedup) new.selected (with_starts (h ∷ []) (at wake_now credits))
        ∙ change_length h (run_from 0) (at wake_now credits).harts (subst (λ (n : ℕ). h < n) (sym same) wake_below) ∙ same ∙ p.room

    pub paced_wake : (after : Delays) → after ≡ waked → IsPaced image input setting new after wake_now
    paced_wake after is =
        let holds : Holds after (standing x (events_of new)) = subst (λ (n : ℕ). Holds after (standing x n)) (sym wake_count) (subst (λ (c : Delays). Holds c (standing x (suc (events_of engine)))) (sym is) holds_waked) in
        let few : credits.raised ≤ 41 * 10 ^ 15 = raised_few in
        record {
          valid = p.valid;
          reached = reached_wake;
          holds = holds;
          room = ap (λ (c : Delays). length c.harts) is ∙ waked_places;
          visits =
              ap (λ (v : Visits). map visit_as v.kept) same_visits ∙ p.visits
              ∙ sym (steps.visits_wake x IsOrderly law (events_of engine) wake_turn wake_now credits next_wake was_asleep)
              ∙ ap (λ (n : ℕ). (standing x n).visits) (sym wake_count);
          moment =
              sym (raises_latest (raise_ticks new.guest setting.choice.speedup) new.selected (with_starts (h ∷ []) (at wake_now credits)))
              ∙ ap (λ (c : Delays). c.latest) (sym is) ∙ holds.latest;
          soon = omega (arith, few, wake_few, given);
          trap = λ e ended. absurd (let no : ◌≡◌ {A = Option Ending} None (Some e) = sym still_goes ∙ ended in cc);
          made = ap making a.guest ∙ wake_making engine.guest h ∙ p.made;
          selected =
              wake_selected
              ∙ ap (filter (x.guest.is_selected new.guest)) (sym (wakes_begins x IsOrderly law (events_of engine) wake_turn (ending_now ∙ goes) next_wake.turn was_asleep))
              ∙ ap (λ (n : ℕ). filter (x.guest.is_selected new.guest) (before x n).harts) (sym wake_count);
        }

    pub happens_wake : Passes x d (standing x (events_of new)) × ((standing x (events_of new)).ending ≡ None)
    happens_wake =
        subst (λ (n : ℕ). Passes x d (standing x n) × ((standing x n).ending ≡ None)) (sym wake_count)
        (steps.passes_wake x IsOrderly law (events_of engine) wake_turn wake_now credits next_wake was_asleep, steps.goes_wake x IsOrderly law (events_of engine) wake_turn wake_now credits next_wake was_asleep)

  -- an event
  pub event_few : (new : Engine) (event : Event) (delay : ℕ) → delay ≡ credits.raised → engine.ending ≡ None → IsAdvance setting engine event delay new → moment_of event new ≤ 51 * 10 ^ 15
  event_few new (Woke turn) delay given goes a = wake_few new turn.hart.0 turn.due delay given goes a
  event_few new (Retired retired) delay given goes a = time_few new retired.hart.0 retired.fate delay given goes a

  pub event_count : (new : Engine) (event : Event) (delay : ℕ) → delay ≡ credits.raised → engine.ending ≡ None → IsAdvance setting engine event delay new → events_of new ≡ events_of engine + 1
  event_count new (Woke turn) delay given goes a = count_wake new turn.hart.0 turn.due delay given goes a
  event_count new (Retired retired) delay given goes a = omega (arith, a.retired, a.wakes)

  pub can_follow : (new : Engine) (event : Event) (delay : ℕ) → delay ≡ credits.raised → engine.ending ≡ None → IsAdvance setting engine event delay new → CanAccount event credits new (moment_of event new + delay)
  can_follow new (Woke turn) delay given goes a = can_wake new turn.hart.0 turn.due delay given goes a
  can_follow new (Retired retired) delay given goes a = can_account_retirement new retired.hart.0 retired.fate delay given goes a

  pub paced_event : (new : Engine) (event : Event) (delay : ℕ) → delay ≡ credits.raised → engine.ending ≡ None → IsAdvance setting engine event delay new
      → (after : Delays) → after ≡ credited_by event new (raise_ticks new.guest setting.choice.speedup) (moment_of event new + delay) credits → IsPaced image input setting new after (moment_of event new + delay)
  paced_event new (Woke turn) delay given goes a after is = paced_wake new turn.hart.0 turn.due delay given goes a after is
  paced_event new (Retired retired) delay given goes a after is = paced_next new retired.hart.0 retired.fate delay given goes a after is

  pub happens_event : (new : Engine) (event : Event) (delay : ℕ) → delay ≡ credits.raised → engine.ending ≡ None → IsAdvance setting engine event delay new → Happens x event d (standing x (events_of new))
  happens_event new (Woke turn) delay given goes a = happens_wake new turn.hart.0 turn.due delay given goes a
  happens_event new (Retired retired) delay given goes a = steps_next new retired.hart.0 retired.fate delay given goes a

-- when a hart retires, of its load
due_of : (now delay : ℕ) (a : Account) (o : Option Load) (due : Option ℕ) → LoadAgrees now delay a o due → due ≡ option_map (λ load. now + load.work + load.pause - delay) o
due_of now delay a None None agree = refl
due_of now delay a None (Some u) agree = absurd agree
due_of now delay a (Some l) None agree = absurd agree
due_of now delay a (Some l) (Some u) agree = ap Some (let same : u ≡ now + l.work + l.pause - delay = omega arith in same)

account_held : (hart : Hart) → (without_work hart).account ≡ hart.account
account_held hart = go hart.account hart.load
  where
    go : (a : Account) (o : Option Load) → (without_work (record { account = a; load = o })).account ≡ a
    go a None = refl
    go a (Some l) = refl

-- the hart at a place, if there is one
place_some : (harts : List Hart) (h : ℕ) → h < length harts → slice_get harts h ≡ Some (get_or harts h idle_hart)
place_some [] h below = absurd (omega arith)
place_some (hart ∷ harts) zero below = refl
place_some (hart ∷ harts) (suc h) below = let less : h < length harts = omega arith in place_some harts h less

place_none : (harts : List Hart) (h : ℕ) → length harts ≤ h → slice_get harts h ≡ None
place_none [] h past = refl
place_none (hart ∷ harts) zero past = absurd (omega arith)
place_none (hart ∷ harts) (suc h) past = let more : length harts ≤ h = omega arith in place_none harts h more

given_in_time : (vs : List GivenVisit) → All (λ (v : Visit). v.delay ≤ v.time) (map visit_as vs) → All (λ (v : GivenVisit). v.delay ≤ v.time) vs
given_in_time [] all = All-nil (λ v. v.delay ≤ v.time)
given_in_time (v ∷ vs) all =
    All-cons (λ v. v.delay ≤ v.time) v vs (All-head (λ v. v.delay ≤ v.time) (visit_as v) (map visit_as vs) all)
    (given_in_time vs (All-tail (λ v. v.delay ≤ v.time) (visit_as v) (map visit_as vs) all))

same_outcome : (e : Ending) (m m' g g' r r' s s' : ℕ) → m ≡ m' → g ≡ g' → r ≡ r' → s ≡ s'
    → ◌≡◌ {A = Outcome} (record { ending = e; time = m; delay = g; retired = r; starts = s }) (record { ending = e; time = m'; delay = g'; retired = r'; starts = s' })
same_outcome e m m' g g' r r' s s' is_m is_g is_r is_s = cc

total_within : (now delay : ℕ) (a : Account) (o : Option Load) (due : Option ℕ) → LoadAgrees now delay a o due → total a ≤ delay
total_within now delay a (Some l) (Some due) e = omega (arith, e.0)
total_within now delay a None None e = e
total_within now delay a None (Some due) e = elim e [ ]
total_within now delay a (Some l) None e = elim e [ ]

-- what the methods that change nothing give
module _ (image : ImageParts) (input : List ℕ) (setting : Setting) (engine : Engine) (credits : Delays) (now : ℕ) (p : IsPaced image input setting engine credits now) where
  abbrev seen : Delayed Timed
  seen = standing (experiment_in image input setting) (events_of engine)

  pub due_ended : (h : ℕ) (e : Ending) → engine.ending ≡ Some e → None ≡ net_due_of seen h
  due_ended h e is = rw (ending_now image input setting engine credits now p, is) refl

  pub due_goes : (h : ℕ) → engine.ending ≡ None → key_of engine.schedule h ≡ net_due_of seen h
  due_goes h none =
      let hart : Hart = get_or seen.harts h idle_hart in
      rw (ending_now image input setting engine credits now p, none)
      (p.reached.reached.dues h
      ∙ due_of seen.now seen.delay hart.account hart.load (get_or (shortened (experiment_in image input setting) (events_of engine)).dues h None) ((agree image input setting engine credits now p).harts h))

  pub latest_now : credits.latest ≡ now
  latest_now = p.holds.latest ∙ sym p.moment

  -- the account of a hart
  pub account_is : (h : ℕ) (given : GivenAccount) → account_as given ≡ (hart_at (at now credits) h).account → account_as given ≡ (get_or seen.harts h idle_hart).account
  account_is h given is = is ∙ ap (λ (c : Delays). (hart_at c h).account) (at_latest credits now latest_now) ∙ ap (λ (o : Hart). o.account) (p.holds.harts h) ∙ account_held (get_or seen.harts h idle_hart)

  pub account_some : IsUsual setting.timing → (h : ℕ) (given : GivenAccount) → h < length engine.guest.guest.harts → account_as given ≡ (hart_at (at now credits) h).account → Some (account_as given) ≡ account_in seen h
  account_some usual h given made is =
      let there : h < length seen.harts = rw (harts_now image input setting engine credits now p usual) made in
      ap Some (account_is h given is)
      ∙ sym (ap (λ (o : Option Hart). option_map (λ (h : Hart). h.account) o) (place_some seen.harts h there))

  -- an account is at most the global delay
  pub account_within : (h : ℕ) (given : GivenAccount) → account_as given ≡ (hart_at (at now credits) h).account → given.own + given.paused + given.credited ≤ seen.delay
  account_within h given is =
      let hart : Hart = get_or seen.harts h idle_hart in
      let same : account_as given ≡ hart.account = is ∙ ap (λ (c : Delays). (hart_at c h).account) (at_latest credits now latest_now) ∙ ap (λ (o : Hart). o.account) (p.holds.harts h) ∙ account_held hart in
      subst (λ (a : Account). total a ≤ seen.delay) (sym same)
      (total_within seen.now seen.delay hart.account hart.load (get_or (shortened (experiment_in image input setting) (events_of engine)).dues h None) ((agree image input setting engine credits now p).harts h))

  pub account_none : IsUsual setting.timing → (h : ℕ) → length engine.guest.guest.harts ≤ h → ◌≡◌ {A = Option Account} None (account_in seen h)
  account_none usual h past =
      let there : length seen.harts ≤ h = rw (harts_now image input setting engine credits now p usual) past in
      sym (ap (λ (o : Option Hart). option_map (λ (h : Hart). h.account) o) (place_none seen.harts h there))

  pub harts_few : length engine.guest.guest.harts ≤ 256
  harts_few =
      let good : IsOrderly seen.guest = standing_good (experiment_in image input setting) IsOrderly (lawful_with image input setting p.valid) (events_of engine) in
      subst (λ (g : Timed). length g.guest.harts ≤ 256) (guest_now image input setting engine credits now p) good.guest.few

  pub visits_in_time : All (λ (v : Visit). v.delay ≤ v.time) seen.visits
  visits_in_time = in_time (experiment_in image input setting) IsOrderly (lawful_with image input setting p.valid) (events_of engine)

  pub kept_in_time : All (λ (v : GivenVisit). v.delay ≤ v.time) engine.visits.kept
  kept_in_time = given_in_time engine.visits.kept (subst (All (λ (v : Visit). v.delay ≤ v.time)) (sym p.visits) visits_in_time)

  pub outcome_some : (e : Ending) → engine.ending ≡ Some e → Some (record { ending = e; time = now; delay = credits.raised; retired = engine.retired; starts = engine.starts }) ≡ outcome_of seen
  outcome_some e is =
      rw (ending_now image input setting engine credits now p, is)
      (ap Some (same_outcome e now seen.now credits.raised seen.delay engine.retired seen.retired engine.starts seen.starts
      p.moment p.holds.raised (sym (retired_now image input setting engine credits now p)) (sym (starts_now image input setting engine credits now p))))

  -- the numbers of an outcome
  pub outcome_small : (e : Ending) (delay : ℕ) → engine.ending ≡ Some e → IsSmall (record { ending = e; time = now; delay = delay; retired = engine.retired; starts = engine.starts })
  outcome_small e delay is =
      let below : engine.retired ≤ setting.choice.budget = p.reached.retired in
      let budget : setting.choice.budget ≤ 10 ^ 12 = p.valid.choice.few in
      let most : many engine.schedule ≤ length engine.schedule = many_few engine.schedule in
      let room : length engine.schedule ≡ 256 = p.reached.room in
      let kept : engine.starts ≤ events_of engine + many engine.schedule = p.reached.few in
      record {
        ending = p.trap e is;
        time = p.soon;
        retired = omega (arith, below, budget);
        starts = omega (arith, below, budget, most, room, kept, wakes_few image input setting engine credits now p);
      }

  pub outcome_none : engine.ending ≡ None → ◌≡◌ {A = Option Outcome} None (outcome_of seen)
  outcome_none is = rw (ending_now image input setting engine credits now p, is) refl

-- what contracts see of the fields
abbrev pub seen_of : ImageParts → List ℕ → Setting → Engine → Seen (Delayed Timed)
seen_of image input setting engine = view_in image input setting (λ x. standing x (events_of engine))

pub none_of : (o : Option Ending) → is_some o ≡ false → o ≡ None
none_of None e = refl
none_of (Some a) e = absurd (let no : true ≡ false = e in cc)

some_none : (o : Option Ending) → is_some o ≡ true → o ≡ None → ⊥
some_none o some none = let no : false ≡ true = sym (ap is_some none) ∙ some in cc

module _ (image : ImageParts) (input : List ℕ) (setting : Setting) (engine : Engine) (credits : Delays) (now : ℕ) (p : IsPaced image input setting engine credits now) where
  -- a run that has ended
  pub not_over : (v : Seen (Delayed Timed)) → seen_of image input setting engine ≡ v → is_some engine.ending ≡ true → v.state.ending ≡ None → ⊥
  not_over v view some none = some_none engine.ending some (sym (ending_now image input setting engine credits now p) ∙ ap (λ (v : Seen (Delayed Timed)). v.state.ending) view ∙ none)

  -- one that goes on
  pub not_ended : (v : Seen (Delayed Timed)) → seen_of image input setting engine ≡ v → engine.ending ≡ None → IsSome v.state.ending → ⊥
  not_ended v view none some = let no : false ≡ true = sym (ap is_some (sym (ap (λ (v : Seen (Delayed Timed)). v.state.ending) view) ∙ ending_now image input setting engine credits now p ∙ none)) ∙ some in cc

  -- beside the shortened machine
  pub agrees_seen : (v : Seen (Delayed Timed)) → seen_of image input setting engine ≡ v → Agrees v.state (shortened (experiment_of v) (events v.state))
  agrees_seen v view =
      subst (λ (v : Seen (Delayed Timed)). Agrees v.state (shortened (experiment_of v) (events v.state))) view
      (subst (λ (n : ℕ). Agrees (standing (experiment_in image input setting) (events_of engine)) (shortened (experiment_in image input setting) n)) (sym (events_now image input setting engine credits now p)) (agree image input setting engine credits now p))

  pub goes_seen : (v : Seen (Delayed Timed)) → seen_of image input setting engine ≡ v → v.state.ending ≡ None → engine.ending ≡ None
  goes_seen v view none = sym (ending_now image input setting engine credits now p) ∙ ap (λ (v : Seen (Delayed Timed)). v.state.ending) view ∙ none

  -- one event more
  pub count_seen : (v : Seen (Delayed Timed)) (n : ℕ) → seen_of image input setting engine ≡ v → n ≡ events_of engine + 1 → n ≡ events v.state + 1
  count_seen v n view is =
      is ∙ ap (λ (m : ℕ). m + 1) (sym (events_now image input setting engine credits now p) ∙ ap (λ (v : Seen (Delayed Timed)). events v.state) view)

  pub next_seen : (v : Seen (Delayed Timed)) (n : ℕ) → seen_of image input setting engine ≡ v → n ≡ events_of engine + 1 → standing (experiment_in image input setting) n ≡ standing (experiment_of v) (events v.state + 1)
  next_seen v n view is =
      subst (λ (v : Seen (Delayed Timed)). standing (experiment_in image input setting) n ≡ standing (experiment_of v) (events v.state + 1)) view
      (ap (standing (experiment_in image input setting)) (is ∙ ap (λ (m : ℕ). m + 1) (sym (events_now image input setting engine credits now p))))

  pub happens_seen : (v : Seen (Delayed Timed)) (event : Event) (d : Delayed Timed) → seen_of image input setting engine ≡ v → Happens (experiment_in image input setting) event (standing (experiment_in image input setting) (events_of engine)) d
      → Happens (experiment_of v) event v.state d
  happens_seen v event d view happens = subst (λ (v : Seen (Delayed Timed)). Happens (experiment_of v) event v.state d) view happens

only_first : (k : ℕ) → is_among k (0 ∷ []) ≡ true → k ≡ 0
only_first k e = eqb-true k 0 (one_bit (k == 0) e)

-- what contracts see of a run between two steps
module _ (image : ImageParts) (input : List ℕ) (setting : Setting) (engine : Engine) (credits : Delays) (now : ℕ) (p : IsPaced image input setting engine credits now) where
  abbrev paced_x : Experiment Timed
  paced_x = experiment_in image input setting

  pub stands_seen : (v : Seen (Delayed Timed)) → seen_of image input setting engine ≡ v → v.state ≡ standing (experiment_of v) (events v.state)
  stands_seen v view =
      subst (λ (v : Seen (Delayed Timed)). v.state ≡ standing (experiment_of v) (events v.state)) view
      (ap (standing paced_x) (sym (events_now image input setting engine credits now p)))

  -- a hart is due as in the shortened machine
  pub due_seen : (v : Seen (Delayed Timed)) (h : ℕ) → seen_of image input setting engine ≡ v → key_of engine.schedule h ≡ key_of (shortened (experiment_of v) (events v.state)).dues h
  due_seen v h view =
      subst (λ (v : Seen (Delayed Timed)). key_of engine.schedule h ≡ key_of (shortened (experiment_of v) (events v.state)).dues h) view
      (p.reached.reached.dues h ∙ ap (λ (n : ℕ). key_of (shortened paced_x n).dues h) (sym (events_now image input setting engine credits now p)))

  -- of a run that goes on, a hart has a key exactly if it runs or sleeps
  pub timed_seen : (v : Seen (Delayed Timed)) (h : ℕ) → seen_of image input setting engine ≡ v → v.state.ending ≡ None → is_some (key_of engine.schedule h) ≡ is_timed (experiment_of v).guest v.state.guest h
  timed_seen v h view =
      subst (λ (v : Seen (Delayed Timed)). v.state.ending ≡ None → is_some (key_of engine.schedule h) ≡ is_timed (experiment_of v).guest v.state.guest h) view
      (λ none.
      let beside : Agrees (standing paced_x (events_of engine)) (shortened paced_x (events_of engine)) = agree image input setting engine credits now p in
      let goes : (shortened paced_x (events_of engine)).ending ≡ None = sym beside.ending ∙ none in
      ap is_some (p.reached.reached.dues h)
      ∙ sym (dues_timed paced_x IsOrderly (lawful_with image input setting p.valid) (events_of engine) goes h)
      ∙ ap (λ (g : Timed). is_timed paced_x.guest g h) (sym beside.guest))

  pub none_seen : (v : Seen (Delayed Timed)) → seen_of image input setting engine ≡ v → engine.ending ≡ None → v.state.ending ≡ None
  none_seen v view none = sym (ap (λ (v : Seen (Delayed Timed)). v.state.ending) view) ∙ ending_now image input setting engine credits now p ∙ none

  -- an ended run isn't before its delay
  pub delay_in_time : (e : Ending) → engine.ending ≡ Some e → credits.raised ≤ now
  delay_in_time e over =
      let d : Delayed Timed = standing paced_x (events_of engine) in
      let raised : credits.raised ≡ d.delay = p.holds.raised in
      let moment : now ≡ d.now = p.moment in
      let in_time : d.delay ≤ d.now = end_in_time paced_x IsOrderly (lawful_with image input setting p.valid) (events_of engine) e (ending_now image input setting engine credits now p ∙ over) in
      omega arith

-- as a run begins
module _ (image : ImageParts) (input : List ℕ) (setting : Setting) (engine : Engine) (valid : IsSetting setting) (f : IsFirst setting image input engine) where
  abbrev begun_x : Experiment Timed
  begun_x = experiment_in image input setting

  short_first : (shortened begun_x 0).guest ≡ begun_x.first
  unfolding shortened short.begin short.unbegun
  short_first = refl

  zeroth : events_of engine ≡ 0
  zeroth = omega (arith, f.retired, f.wakes)

  guest_first : engine.guest ≡ begun_x.first
  guest_first = sym (ap (λ (t : Shortened Timed). t.guest) f.reached.reached.state) ∙ ap (λ (n : ℕ). (shortened begun_x n).guest) zeroth ∙ short_first

  pub first_made_here : (hs : List ℕ) → hs ≡ engine.selected → (k : ℕ) → is_among k hs ≡ true → IsMade engine.guest k
  first_made_here hs is k among =
      let chosen : is_among k (filter (begun_x.guest.is_selected engine.guest) (0 ∷ [])) ≡ true = ap (is_among k) (sym (is ∙ f.selected)) ∙ among in
      let first : k ≡ 0 = only_first k (among_filter (begun_x.guest.is_selected engine.guest) k (0 ∷ []) chosen).1 in
      let made : IsMade begun_x.first 0 = first_made image input setting.choice.output_limit setting.choice.layout setting.timing setting.index.now in
      subst (λ (g : Timed). IsMade g k) (sym guest_first) (subst (IsMade begun_x.first) (sym first) made)

  -- those that raise the delay at first run: hart 0 was started, and no other can be selected
  pub first_runs_here : (made started : Delays) (hs : List ℕ) → made ≡ none_raised 256 → started ≡ with_start 0 0 made → hs ≡ engine.selected → AllRun started hs
  first_runs_here made started hs is_made is_started is k among =
      let starts : started ≡ with_starts (0 ∷ []) (none_raised 256) = is_started ∙ ap (with_start 0 0) is_made ∙ start_is 0 0 (none_raised 256) refl in
      let chosen : is_among k (filter (begun_x.guest.is_selected engine.guest) (0 ∷ [])) ≡ true = ap (is_among k) (sym (is ∙ f.selected)) ∙ among in
      let below : AllBelow (none_raised 256) (0 ∷ []) = λ j low. let first : j ≡ 0 = only_first j low in let size = length-replicate {A = Hart} 256 idle_hart in omega (arith, first, size) in
      subst (λ (c : Delays). Runs c k) (sym starts) (starts_run (0 ∷ []) (none_raised 256) below k (among_filter (begun_x.guest.is_selected engine.guest) k (0 ∷ []) chosen).1)

  -- nothing was raised, and hart 0 alone raises the delay at first
  pub first_few_here : (started : Delays) (hs : List ℕ) → started.raised ≡ 0 → hs ≡ engine.selected → started.raised + most_ticks engine.guest.beside.timing * length hs ≤ 10 ^ 17
  first_few_here started hs none is =
      let one : length (filter (begun_x.guest.is_selected engine.guest) (0 ∷ [])) ≤ 1 = one_at_most (begun_x.guest.is_selected engine.guest) 0 in
      let same : length hs ≡ length (filter (begun_x.guest.is_selected engine.guest) (0 ∷ [])) = ap length (is ∙ f.selected) in
      let few : most_ticks setting.timing * length hs ≤ 41 * 10 ^ 15 = ticks_within setting.timing setting.choice.budget (length hs) valid.machine valid.choice.few (omega (arith, one, same)) in
      subst (λ (t : Timing). started.raised + most_ticks t * length hs ≤ 10 ^ 17) (sym (on_machine image input setting valid engine f.reached).timing) (omega (arith, none, few))

  first_raised : Delays
  first_raised = with_raises (raise_ticks engine.guest setting.choice.speedup) (filter (begun_x.guest.is_selected engine.guest) (0 ∷ [])) (with_starts (0 ∷ []) (none_raised 256))

  first_raised_is : first_raised ≡ with_raises (raise_ticks engine.guest setting.choice.speedup) (filter (begun_x.guest.is_selected engine.guest) (0 ∷ [])) (with_starts (0 ∷ []) (none_raised 256))
  unfolding first_raised
  first_raised_is = refl

  none_held : (k n : ℕ) → get_or (replicate n idle_hart) k idle_hart ≡ idle_hart
  none_held k zero = refl
  none_held zero (suc n) = refl
  none_held (suc k) (suc n) = none_held k n

  holds_none : Holds (none_raised 256) (unbegun begun_x)
  unfolding unbegun
  holds_none = record { latest = refl; raised = refl; harts = λ k. none_held k 256 }

  unbegun_guest : (unbegun begun_x).guest ≡ begun_x.first
  unfolding unbegun
  unbegun_guest = refl

  standing_first : standing begun_x 0 ≡ begin begun_x (0 ∷ []) (unbegun begun_x)
  unfolding standing delayed after
  standing_first = refl

  first_visits : (standing begun_x 0).visits ≡ []
  unfolding standing delayed after unbegun
  first_visits = ap (λ o. o.visits) (begin_frame begun_x (0 ∷ []) (unbegun begun_x))

  first_holds : Holds first_raised (standing begun_x 0)
  unfolding first_raised
  first_holds =
      let same : (unbegun begun_x).guest ≡ engine.guest = unbegun_guest ∙ sym guest_first in
      subst (Holds first_raised) (sym standing_first)
      (subst (λ (g : Timed). Holds (with_raises (raise_ticks engine.guest setting.choice.speedup) (filter (begun_x.guest.is_selected g) (0 ∷ [])) (with_starts (0 ∷ []) (none_raised 256))) (begin begun_x (0 ∷ []) (unbegun begun_x))) same
      (holds_begin begun_x (0 ∷ []) (raise_ticks engine.guest setting.choice.speedup) (none_raised 256) (unbegun begun_x)
      (λ h. mul_comm (cycles_of_next engine.guest h) setting.choice.speedup ∙ ap (λ (g : Timed). setting.choice.speedup * cycles_of_next g h) (sym same)) holds_none))

  first_begins : (before begun_x 0).harts ≡ 0 ∷ []
  unfolding before
  first_begins = refl

  pub first_paced : (made started raised : Delays) (hs : List ℕ) → made ≡ none_raised 256 → started ≡ with_start 0 0 made → hs ≡ engine.selected → raised ≡ with_raises (raise_ticks engine.guest setting.choice.speedup) hs started
      → IsPaced image input setting engine raised 0
  first_paced made started raised hs is_made is_started is_selected is_raised =
      let ticks : ℕ → ℕ = raise_ticks engine.guest setting.choice.speedup in
      let starts : started ≡ with_starts (0 ∷ []) (none_raised 256) = is_started ∙ ap (with_start 0 0) is_made ∙ start_is 0 0 (none_raised 256) refl in
      let is : raised ≡ first_raised = is_raised ∙ ap₂ (with_raises ticks) (is_selected ∙ f.selected) starts ∙ sym first_raised_is in
      let holds : Holds raised (standing begun_x (events_of engine)) = subst (λ (n : ℕ). Holds raised (standing begun_x n)) (sym zeroth) (subst (λ (c : Delays). Holds c (standing begun_x 0)) (sym is) first_holds) in
      record {
        valid = valid;
        reached = f.reached;
        holds = holds;
        room = ap (λ (c : Delays). length c.harts) (is ∙ first_raised_is) ∙ raises_length ticks (filter (begun_x.guest.is_selected engine.guest) (0 ∷ [])) (with_starts (0 ∷ []) (none_raised 256))
            ∙ change_length 0 (run_from 0) (replicate 256 idle_hart) (rw length-replicate (lit< tt)) ∙ length-replicate {A = Hart} 256 idle_hart;
        visits = ap (map visit_as) f.kept ∙ sym (ap (λ (n : ℕ). (standing begun_x n).visits) zeroth ∙ first_visits);
        moment = sym (raises_latest ticks (filter (begun_x.guest.is_selected engine.guest) (0 ∷ [])) (with_starts (0 ∷ []) (none_raised 256))) ∙ ap (λ (c : Delays). c.latest) (sym (is ∙ first_raised_is)) ∙ holds.latest;
        soon = omega arith;
        trap = λ e ended. absurd (let no : ◌≡◌ {A = Option Ending} None (Some e) = sym f.ending ∙ ended in cc);
        made = ap making guest_first;
        selected = f.selected ∙ ap (filter (begun_x.guest.is_selected engine.guest)) (sym (ap (λ (n : ℕ). (before begun_x n).harts) zeroth ∙ first_begins));
      }

-- a run between two events: only its state changes, and it stands after as many events as it counts
pub record IsAt (old new : Seen (Delayed Timed)) : Type 0 where
  pub valid : IsChoice old.choice
  pub rest : new ≡ record old { state = new.state }
  pub stands : new.state ≡ standing (experiment_of old) (events new.state)

-- and within its budget
pub record IsGoing (old new : Seen (Delayed Timed)) : Type 0 where
  pub at : IsAt old new
  pub within : new.state.retired ≤ old.choice.budget

pub going_first : (image : ImageParts) (input : List ℕ) (setting : Setting) (engine : Engine) (credits : Delays) (now : ℕ) → IsPaced image input setting engine credits now → (v : Seen (Delayed Timed)) → seen_of image input setting engine ≡ v → IsGoing v v
going_first image input setting engine credits now p v view =
    subst (λ (v : Seen (Delayed Timed)). IsGoing v v) view
    (record {
      at = record { valid = p.valid.choice; rest = refl; stands = ap (standing (experiment_in image input setting)) (sym (events_now image input setting engine credits now p)) };
      within = rw (retired_now image input setting engine credits now p) p.reached.retired;
    })

lawful_of : (v : Seen (Delayed Timed)) → IsChoice v.choice → IsLawful (experiment_of v) IsOrderly
lawful_of v valid = lawful_on v.timing v.image v.index (point_of v.points) v.input v.choice valid.speedup

module _ (old now : Seen (Delayed Timed)) (g : IsAt old now) where
  -- a run that goes on has come to fewer events than it can
  events_left : now.state.ending ≡ None → events now.state < 2 * old.choice.budget
  events_left none =
      let x : Experiment Timed = experiment_of old in
      let n : ℕ = events now.state in
      let agree : Agrees (standing x n) (shortened x n) = agrees x IsOrderly (lawful_of old g.valid) n in
      let goes : (shortened x n).ending ≡ None = sym agree.ending ∙ ap (λ (d : Delayed Timed). d.ending) (sym g.stands) ∙ none in
      few x IsOrderly (lawful_of old g.valid) n g.valid.some_budget (goes_on_at x IsOrderly (lawful_of old g.valid) n goes)

  -- an event later
  pub at_next : (new : Seen (Delayed Timed)) → new.state ≡ standing (experiment_of now) (events now.state + 1) → events new.state ≡ events now.state + 1 → new ≡ record now { state = new.state } → IsAt old new
  at_next new next count rest = record {
    valid = g.valid;
    rest = rest ∙ ap (λ (v : Seen (Delayed Timed)). record v { state = new.state }) g.rest;
    stands = next ∙ ap₂ (λ (y : Experiment Timed) (n : ℕ). standing y n) (ap experiment_of g.rest) (sym count);
  }

  -- one event or more later
  pub at_far : (new : Seen (Delayed Timed)) → new.state ≡ standing (experiment_of now) (events new.state) → new ≡ record now { state = new.state } → IsAt old new
  at_far new next rest = record {
    valid = g.valid;
    rest = rest ∙ ap (λ (v : Seen (Delayed Timed)). record v { state = new.state }) g.rest;
    stands = next ∙ ap (λ (y : Experiment Timed). standing y (events new.state)) (ap experiment_of g.rest);
  }

  pub far_smaller : (new : Seen (Delayed Timed)) → now.state.ending ≡ None → events now.state < events new.state → 2 * old.choice.budget - events new.state < 2 * old.choice.budget - events now.state
  far_smaller new none more = let left : events now.state < 2 * old.choice.budget = events_left none in omega (arith, more)

  pub at_smaller : (new : Seen (Delayed Timed)) → now.state.ending ≡ None → events new.state ≡ events now.state + 1 → 2 * old.choice.budget - events new.state < 2 * old.choice.budget - events now.state
  at_smaller new none count = let left : events now.state < 2 * old.choice.budget = events_left none in omega (arith, count)

module _ (old now : Seen (Delayed Timed)) (g : IsGoing old now) where
  -- one event or more later
  pub going_far : (new : Seen (Delayed Timed)) → new.state ≡ standing (experiment_of now) (events new.state) → new.state.retired ≤ now.choice.budget → new ≡ record now { state = new.state } → IsGoing old new
  going_far new next within rest = record {
    at = at_far old now g.at new next rest;
    within = subst (λ (v : Seen (Delayed Timed)). new.state.retired ≤ v.choice.budget) g.at.rest within;
  }

  abbrev run_x : Experiment Timed
  run_x = experiment_of old

  module _ (e : Ending) (over : now.state.ending ≡ Some e) where
    within_enough : events now.state ≤ 2 * old.choice.budget
    within_enough =
        let within : now.state.retired ≤ old.choice.budget = g.within in
        let each = subst (λ (d : Delayed Timed). d.wakes + run_x.guest.sleepers d.guest ≤ d.retired) (sym g.at.stands) (few_wakes run_x IsOrderly (lawful_of old g.at.valid) (events now.state)) in
        omega (arith, within, each)

    stands_over : (standing run_x (events now.state)).ending ≡ Some e
    stands_over = ap (λ (d : Delayed Timed). d.ending) (sym g.at.stands) ∙ over

    pub record_now : record_of run_x now.state e ≡ delayed_record run_x
    record_now = ap (λ (d : Delayed Timed). record_of run_x d e) g.at.stands ∙ recorded_delayed run_x IsOrderly (lawful_of old g.at.valid) (events now.state) e within_enough stands_over

    pub last_now : now.state ≡ standing run_x (enough run_x)
    last_now = g.at.stands ∙ last run_x IsOrderly (lawful_of old g.at.valid) (events now.state) e within_enough stands_over

    pub agrees_last : Agrees now.state (shortened run_x (enough run_x))
    agrees_last = subst (λ (d : Delayed Timed). Agrees d (shortened run_x (enough run_x))) (sym last_now) (agrees run_x IsOrderly (lawful_of old g.at.valid) (enough run_x))

  pub delayed_now : IsDelayed run_x (delayed_record run_x)
  delayed_now = delayed_is run_x IsOrderly (lawful_of old g.at.valid) g.at.valid.some_budget

  pub moves_now : AgreesThroughout run_x
  moves_now = record {
    agrees = λ moves. (both run_x IsOrderly (lawful_of old g.at.valid) moves).agrees;
    timed = loads_timed run_x IsOrderly (lawful_of old g.at.valid);
  }

  pub once_now : EndsOnce run_x
  once_now = (delayed_record run_x, delayed_now, λ other is. unique run_x IsOrderly (lawful_of old g.at.valid) other (delayed_record run_x) is delayed_now)

  pub law_now : net (delayed_record run_x) ≡ shortened_record run_x
  law_now = net_is run_x IsOrderly (lawful_of old g.at.valid) g.at.valid.some_budget

  pub shortened_now : IsShortened run_x (shortened_record run_x)
  shortened_now = record_is run_x IsOrderly (lawful_of old g.at.valid) g.at.valid.some_budget
