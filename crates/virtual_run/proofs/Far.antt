-- Several events of the delayed machine at once. Quiet retirements change no account: the credits
-- before them, at the moment of the last of them, hold the state after it.
use Rattle.std.proofs.Common.{◌≡◌, ℕ, zero, suc, ◌+◌, ◌-◌, ◌*◌, ◌^◌, ◌≤◌, ◌<◌, List, [], ◌∷◌, map, length, get_or, refl, sym, ap, ap₂, ◌∙◌, subst, arith, Option, Some, None, is_some, zero-add, suc-add}
use Rattle.std.proofs.lemmas.List.{length-map}
use Rattle.std.proofs.Math.ListN.{get_or-map}
use Rattle.coz_types.specs.Image.{ImageParts}
use Rattle.machines.specs.declared.Fate.{Fate}
use Rattle.machines.specs.declared.Fate.TheVariants.{Goes}
use Rattle.machines.specs.Places.{change}
use Rattle.machines.specs.Guest.{Experiment}
use Rattle.machines.specs.Delayed.{Account, Load, Hart, Delayed, idle_hart, has_load, run, tick_hart, events}
use Rattle.machines.specs.Standing.{standing}
use Rattle.delay_credits.specs.Delays.{Delays, hart_at, pause_of, at, with_start}
use Rattle.delay_credits.specs.Ticks.{hart_after_ticks}
use Rattle.delay_credits.proofs.TicksLemmas.{ticked_is}
use Rattle.machines.specs.Steps.{sit_hart}
use Rattle.timed_guest.specs.Guest.{Timed}
use Rattle.run_engine.specs.declared.choice.Setting.{Setting}
use Rattle.run_engine.specs.declared.engine.Event.{Event}
use Rattle.run_engine.specs.declared.engine.Event.TheVariants.{Woke, Retired}
use Rattle.run_engine.specs.declared.engine.Engine.{Engine}
use Rattle.run_engine.specs.Engine.{events_of}
use Rattle.run_engine.specs.Run.{experiment_in}
use Rattle.run_engine.specs.Far.{IsQuiet, IsFarAdvance}
use Rattle.run_engine.specs.Seen.{Seen, experiment_of}
use Rattle.run_engine.proofs.Far.{after_all}
use Rattle.virtual_run.specs.Credited.{raise_ticks, with_starts, with_rest, credits_after, credited_by, moment_of, AllRun, CanBegin, CanWake, CanAccountRetirement, CanAccount}
use Rattle.virtual_run.specs.Credited as credited
use Rattle.virtual_run.specs.DelayedRun.{IsPaced}
use Rattle.virtual_run.proofs.Credited.{rest_of, with_rest_is}
use Rattle.virtual_run.proofs.CreditedLists.{at_latest}
use Rattle.virtual_run.proofs.CreditedBegin.{goes-on-alone}
use Rattle.virtual_run.proofs.CreditedRun.{latest_now, starts_now, events_now, retired_now, is_later, hart_below, hart_still, paced_next, event_few, event_count, can_follow, paced_event, seen_of}

-- ticks after ticks
ticks_after : (m n : ℕ) (hart : Hart) → hart_after_ticks m (hart_after_ticks n hart) ≡ hart_after_ticks (m + n) hart
ticks_after zero n hart = ap (λ k. hart_after_ticks k hart) (sym (zero-add n))
ticks_after (suc m) n hart = ap tick_hart (ticks_after m n hart) ∙ ap (λ k. hart_after_ticks k hart) (sym (suc-add m n))

all_after : (m n : ℕ) (harts : List Hart) → map (hart_after_ticks m) (map (hart_after_ticks n) harts) ≡ map (hart_after_ticks (m + n)) harts
all_after m n [] = refl
all_after m n (hart ∷ harts) = ap₂ (λ (first : Hart) (rest : List Hart). first ∷ rest) (ticks_after m n hart) (all_after m n harts)

-- credits at a moment, by way of an earlier one
pub at_after : (c : Delays) (moment now : ℕ) → c.latest ≤ moment → moment ≤ now → at now (at moment c) ≡ at now c
at_after c moment now first later =
    let ticks : now - moment + (moment - c.latest) ≡ now - c.latest = omega arith in
    ap (λ (hs : List Hart). record { latest = now; raised = c.raised; harts = hs })
    (all_after (now - moment) (moment - c.latest) c.harts ∙ ap (λ n. map (hart_after_ticks n) c.harts) ticks)

-- a hart runs after ticks exactly if it did
runs_sat : (n : ℕ) (hart : Hart) → has_load (sit_hart n hart) ≡ has_load hart
runs_sat n hart = go hart.account hart.load
  where
    go : (a : Account) (o : Option Load) → has_load (sit_hart n (record { account = a; load = o })) ≡ is_some o
    go a None = refl
    go a (Some l) = refl

runs_at : (c : Delays) (moment k : ℕ) → has_load (hart_at (at moment c) k) ≡ has_load (hart_at c k)
runs_at c moment k =
    ap has_load
    (ap (get_or (at moment c).harts k) (sym (ticked_is (moment - c.latest) idle_hart))
    ∙ get_or-map (hart_after_ticks (moment - c.latest)) c.harts k idle_hart
    ∙ ticked_is (moment - c.latest) (hart_at c k))
    ∙ runs_sat (moment - c.latest) (hart_at c k)

-- a change that leaves the one value as it is
change_still : (h : ℕ) (f : Hart → Hart) (harts : List Hart) → h < length harts → f (get_or harts h idle_hart) ≡ get_or harts h idle_hart → change idle_hart h f harts ≡ harts
change_still h f [] below same = absurd (omega (arith, below))
change_still zero f (hart ∷ harts) below same = ap (λ (o : Hart). o ∷ harts) same
change_still (suc h) f (hart ∷ harts) below same = let less : h < length harts = omega arith in ap (λ (hs : List Hart). hart ∷ hs) (change_still h f harts less same)

-- an event is accounted for alike with the credits of an earlier moment
module _ (c : Delays) (moment : ℕ) (first : c.latest ≤ moment) where
  rest_after : (h : ℕ) (fate : Fate) (now : ℕ) → moment ≤ now → with_rest h fate now (at moment c) ≡ with_rest h fate now c
  rest_after h fate now later =
      with_rest_is h fate now (at moment c)
      ∙ ap (λ (o : Delays). record o { harts = change idle_hart h (rest_of fate) o.harts }) (at_after c moment now first later)
      ∙ sym (with_rest_is h fate now c)

  same_harts : length (at moment c).harts ≡ length c.harts
  same_harts = length-map c.harts (hart_after_ticks (moment - c.latest))

  pub can_after : (event : Event) (new : Engine) (now : ℕ) → CanAccount event (at moment c) new now → CanAccount event c new now
  can_after (Woke turn) new now can =
      let later : moment ≤ now = can.later in
      record {
        below = subst (λ (n : ℕ). turn.hart.0 < n) same_harts can.below;
        later = omega (arith, first, later);
        runs = subst (λ (o : Delays). AllRun (with_starts (turn.hart.0 ∷ []) o) new.selected) (at_after c moment now first later) can.runs;
        made = can.made;
        few = can.few;
      }
  can_after (Retired retired) new now can =
      let later : moment ≤ now = can.later in
      record {
        below = subst (λ (n : ℕ). retired.hart.0 < n) same_harts can.below;
        later = omega (arith, first, later);
        running = sym (runs_at c moment retired.hart.0) ∙ can.running;
        unpaused = ap (λ (o : Delays). pause_of (hart_at o retired.hart.0)) (sym (at_after c moment now first later)) ∙ can.unpaused;
        can = λ none. subst (λ (o : Delays). CanBegin o new.guest retired.hart.0 retired.fate new.started new.selected) (rest_after retired.hart.0 retired.fate now later) (can.can none);
      }

  pub credited_after : (event : Event) (new : Engine) (ticks : ℕ → ℕ) (now : ℕ) → CanAccount event (at moment c) new now → credited_by event new ticks now c ≡ credited_by event new ticks now (at moment c)
  credited_after (Woke turn) new ticks now can = ap (credited.with_wake ticks turn.hart.0 new.selected) (sym (at_after c moment now first can.later))
  credited_after (Retired retired) new ticks now can =
      ap (credits_after new.ending ticks retired.hart.0 retired.fate new.started new.selected) (sym (rest_after retired.hart.0 retired.fate now can.later))

-- after a quiet retirement the credits hold the state as they are, at its moment
module _ (image : ImageParts) (input : List ℕ) (setting : Setting) (engine : Engine) (credits : Delays) (now : ℕ) (p : IsPaced image input setting engine credits now) (goes : engine.ending ≡ None) (new : Engine) (q : IsQuiet setting engine new) where
  abbrev later : ℕ
  later = new.time + credits.raised

  pub quiet_later : credits.latest ≤ later
  quiet_later = is_later image input setting engine credits now p new q.hart Goes credits.raised refl goes (q.retired credits.raised)

  goes_on : with_start q.hart later credits ≡ at later credits
  goes_on =
      let harts : List Hart = (at later credits).harts in
      let same : length harts ≡ length credits.harts = length-map credits.harts (hart_after_ticks (later - credits.latest)) in
      ap (λ (hs : List Hart). record (at later credits) { harts = hs })
      (change_still q.hart (run 0) harts (subst (λ (n : ℕ). q.hart < n) (sym same) (hart_below image input setting engine credits now p new q.hart Goes credits.raised refl goes (q.retired credits.raised)))
      (hart_still image input setting engine credits now p new q.hart Goes credits.raised refl goes (q.retired credits.raised)))

  none_credited : at later credits ≡ credits_after new.ending (raise_ticks new.guest setting.choice.speedup) q.hart Goes new.started new.selected (with_rest q.hart Goes later credits)
  none_credited =
      rw (q.goes, q.started, q.selected)
      (sym goes_on ∙ goes-on-alone q.hart later None Goes [] credits (record { goes-on = refl; goes = refl; none = refl }))

  pub paced_quiet : IsPaced image input setting new (at later credits) later
  paced_quiet = paced_next image input setting engine credits now p new q.hart Goes credits.raised refl goes (q.retired credits.raised) (at later credits) none_credited

-- after n of them
record IsPacedAfter (image : ImageParts) (input : List ℕ) (setting : Setting) (engine : Engine) (credits : Delays) (n : ℕ) (new : Engine) : Type 0 where
  pub moment : ℕ
  pub later : credits.latest ≤ moment
  pub paced : IsPaced image input setting new (at moment credits) moment
  pub goes : new.ending ≡ None
  pub starts : new.starts ≡ engine.starts
  pub count : events_of new ≡ events_of engine + n

one_more : (image : ImageParts) (input : List ℕ) (setting : Setting) (engine : Engine) (credits : Delays) (n : ℕ) (last new : Engine) → IsPacedAfter image input setting engine credits n last → IsQuiet setting last new
    → IsPacedAfter image input setting engine credits (suc n) new
one_more image input setting engine credits n last new before q =
    let c : Delays = at before.moment credits in
    let next : ℕ = new.time + credits.raised in
    let later : before.moment ≤ next = quiet_later image input setting last c before.moment before.paced before.goes new q in
    let quiet = q.retired 0 in
    record {
      moment = next;
      later = omega (arith, before.later, later);
      paced = subst (λ (o : Delays). IsPaced image input setting new o next) (at_after credits before.moment next before.later later) (paced_quiet image input setting last c before.moment before.paced before.goes new q);
      goes = q.goes;
      starts = q.starts ∙ before.starts;
      count = omega (arith, before.count, quiet.retired, quiet.wakes);
    }

module _ (image : ImageParts) (input : List ℕ) (setting : Setting) (engine : Engine) (credits : Delays) (now : ℕ) (p : IsPaced image input setting engine credits now) (new : Engine) (event : Event) (delay : ℕ) (given : delay ≡ credits.raised) (goes : engine.ending ≡ None)
    (did : IsFarAdvance setting engine event delay new) where
  abbrev x : Experiment Timed
  x = experiment_in image input setting

  none_yet : IsPacedAfter image input setting engine credits 0 engine
  none_yet =
      let latest : credits.latest ≡ now = latest_now image input setting engine credits now p in
      record {
        moment = now;
        later = omega (arith, latest);
        paced = subst (λ (o : Delays). IsPaced image input setting engine o now) (sym (at_latest credits now latest)) p;
        goes = goes;
        starts = refl;
        count = omega arith;
      }

  before : IsPacedAfter image input setting engine credits did.1 did.0
  before = after_all setting (IsPacedAfter image input setting engine credits) (one_more image input setting engine credits) did.1 engine did.0 did.2 none_yet

  abbrev c : Delays
  c = at before.moment credits

  pub far_few : moment_of event new ≤ 51 * 10 ^ 15
  far_few = event_few image input setting did.0 c before.moment before.paced new event delay given before.goes did.3

  can_last : CanAccount event c new (moment_of event new + delay)
  can_last = can_follow image input setting did.0 c before.moment before.paced new event delay given before.goes did.3

  pub far_can : CanAccount event credits new (moment_of event new + delay)
  far_can = can_after credits before.moment before.later event new (moment_of event new + delay) can_last

  pub far_paced : (after : Delays) → after ≡ credited_by event new (raise_ticks new.guest setting.choice.speedup) (moment_of event new + delay) credits → IsPaced image input setting new after (moment_of event new + delay)
  far_paced after is =
      paced_event image input setting did.0 c before.moment before.paced new event delay given before.goes did.3 after
      (is ∙ credited_after credits before.moment before.later event new (raise_ticks new.guest setting.choice.speedup) (moment_of event new + delay) can_last)

  last_count : events_of new ≡ events_of did.0 + 1
  last_count = event_count image input setting did.0 c before.moment before.paced new event delay given before.goes did.3

  pub far_count : events_of engine < events_of new
  far_count = omega (arith, last_count, before.count)

  -- no start was counted before the last event
  pub far_starts : (standing x (events_of new - 1)).starts ≡ (standing x (events_of engine)).starts
  far_starts =
      let last : events_of new - 1 ≡ events_of did.0 = omega (arith, last_count) in
      ap (λ (n : ℕ). (standing x n).starts) last
      ∙ starts_now image input setting did.0 c before.moment before.paced ∙ before.starts
      ∙ sym (starts_now image input setting engine credits now p)

  -- and what contracts see of it
  module _ (after : Delays) (is : after ≡ credited_by event new (raise_ticks new.guest setting.choice.speedup) (moment_of event new + delay) credits) (v : Seen (Delayed Timed)) (view : seen_of image input setting engine ≡ v) where
    now_new : events (standing x (events_of new)) ≡ events_of new
    now_new = events_now image input setting new after (moment_of event new + delay) (far_paced after is)

    same_run : x ≡ experiment_of v
    same_run = ap experiment_of view

    pub far_next : standing x (events_of new) ≡ standing (experiment_of v) (events (standing x (events_of new)))
    far_next = ap (standing x) (sym now_new) ∙ ap (λ (y : Experiment Timed). standing y (events (standing x (events_of new)))) same_run

    pub far_more : events v.state < events (standing x (events_of new))
    far_more =
        let old : events (standing x (events_of engine)) ≡ events v.state = ap (λ (o : Seen (Delayed Timed)). events o.state) view in
        let here : events (standing x (events_of engine)) ≡ events_of engine = events_now image input setting engine credits now p in
        omega (arith, old, here, now_new, far_count)

    pub far_none : (standing (experiment_of v) (events (standing x (events_of new)) - 1)).starts ≡ v.state.starts
    far_none =
        ap₂ (λ (y : Experiment Timed) (n : ℕ). (standing y (n - 1)).starts) (sym same_run) now_new
        ∙ far_starts
        ∙ ap (λ (o : Seen (Delayed Timed)). o.state.starts) view

    pub far_within : (standing x (events_of new)).retired ≤ v.choice.budget
    far_within =
        let paced = far_paced after is in
        let count : (standing x (events_of new)).retired ≡ new.retired = retired_now image input setting new after (moment_of event new + delay) paced in
        let few : new.retired ≤ setting.choice.budget = paced.reached.retired in
        let same : setting.choice.budget ≡ v.choice.budget = ap (λ (o : Seen (Delayed Timed)). o.choice.budget) view in
        omega (arith, count, few, same)
