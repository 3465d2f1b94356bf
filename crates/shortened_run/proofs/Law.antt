-- What holds of a shortened run from move to move, and at its end.
use Rattle.std.proofs.Common.{◌≡◌, ℕ, suc, ◌+◌, ◌*◌, ◌<◌, List, [], ◌++◌, Option, Some, None, refl, sym, ap, subst, arith}
use Rattle.std.proofs.lemmas.List.Elements.{All-nil, All-cons, All-append}
use Rattle.coz_types.specs.declared.ending.Ending.{Ending}
use Rattle.coz_types.specs.declared.record.Visit.{Visit}
use Rattle.coz_types.specs.Image.{ImageParts}
use Rattle.machines.specs.declared.Fate.TheVariants.{Goes}
use Rattle.machines.specs.Guest.{Experiment, enough}
use Rattle.machines.specs.Shortened.{Shortened, shortened}
use Rattle.machines.specs.Records.{net_record_of, IsShortened, shortened_record}
use Rattle.line_index.specs.Index.{Index}
use Rattle.progress_points.specs.Points.{Points, point_of}
use Rattle.timing_model.specs.declared.timing.Timing.{Timing}
use Rattle.timed_guest.specs.Guest.{Timed, first_guest, pc_of}
use Rattle.run_engine.specs.declared.choice.Choice.{Choice}
use Rattle.run_engine.specs.declared.choice.Setting.{Setting}
use Rattle.run_engine.specs.declared.engine.Event.{Event}
use Rattle.run_engine.specs.declared.engine.Event.TheVariants.{Woke, Retired}
use Rattle.run_engine.specs.declared.engine.Engine.{Engine}
use Rattle.run_engine.specs.Advance.{IsAdvance}
use Rattle.run_engine.specs.Far.{IsQuiet, IsFarAdvance}
use Rattle.run_engine.specs.Engine.{events_of}
use Rattle.run_engine.specs.Visits.{Visits, visits_of}
use Rattle.run_engine.specs.Run.{experiment_in}
use Rattle.run_engine.specs.Seen.{machine_view}
use Rattle.run_engine.proofs.Far.{after_all}
use Rattle.run_engine.proofs.Law.{reached_next, reached_woken, events_below, recorded_now, last_now, shortened_is}
use Rattle.shortened_run.specs.ShortenedRun.{AreUndelayed, IsShort}

pub none_undelayed : AreUndelayed []
none_undelayed = All-nil (λ visit. visit.delay ≡ 0)

-- a visit with no delay is kept with none
one_undelayed : (point : Option ℕ) (h time : ℕ) → AreUndelayed (visits_of point h time 0)
one_undelayed None h time = none_undelayed
one_undelayed (Some p) h time = All-cons (λ visit. visit.delay ≡ 0) (record { point = record { 0 = p }; hart = record { 0 = h }; time = time; delay = 0 }) [] refl none_undelayed

pub more_undelayed : (old new : List Visit) (point : Option ℕ) (h time : ℕ) → new ≡ old ++ visits_of point h time 0 → AreUndelayed old → AreUndelayed new
more_undelayed old new point h time is before = subst AreUndelayed (sym is) (All-append (λ visit. visit.delay ≡ 0) old (visits_of point h time 0) before (one_undelayed point h time))

-- an event keeps it, and is one more
module _ (image : ImageParts) (input : List ℕ) (setting : Setting) (engine : Engine) (short : IsShort image input setting engine) (none : engine.ending ≡ None) (new : Engine) where
  pub short_next : (event : Event) → IsAdvance setting engine event 0 new → IsShort image input setting new
  short_next (Woke turn) did =
      let same : new.visits ≡ engine.visits = ap (λ (o : Engine). o.visits) did.rest in
      record {
        valid = short.valid;
        reached =
            reached_woken image input setting short.valid engine short.reached new none
            (did.moved (first_guest image input setting.choice.output_limit setting.choice.layout setting.timing setting.index.now) _ short.reached.reached.dues) did.room same (ap (λ (o : Engine). o.retired) did.rest) did.wakes did.few did.within;
        undelayed = subst (λ (v : Visits). AreUndelayed v.kept) (sym same) short.undelayed;
      }
  short_next (Retired retired) did = record {
    valid = short.valid;
    reached =
        reached_next image input setting short.valid engine short.reached new none
        (did.moved (first_guest image input setting.choice.output_limit setting.choice.layout setting.timing setting.index.now) _ short.reached.reached.dues) did.room (ap (λ (vs : Visits). vs.limit) did.visits) did.unfull did.retired did.wakes did.few did.within;
    undelayed =
        more_undelayed engine.visits.kept new.visits.kept (point_of setting.points.now (pc_of engine.guest retired.hart.0)) retired.hart.0 (new.time + 0)
        (ap (λ (vs : Visits). vs.kept) did.visits) short.undelayed;
  }

  pub short_count : (event : Event) → IsAdvance setting engine event 0 new → events_of new ≡ events_of engine + 1
  short_count (Woke turn) did = omega (arith, ap (λ (o : Engine). o.retired) did.rest, did.wakes)
  short_count (Retired retired) did = omega (arith, did.retired, did.wakes)

  pub short_below : events_of engine < 2 * setting.choice.budget
  short_below = events_below image input setting short.valid engine short.reached none

-- after some quiet retirements it goes on, and counts each
record IsShortAfter (image : ImageParts) (input : List ℕ) (setting : Setting) (engine : Engine) (n : ℕ) (new : Engine) : Type 0 where
  pub short : IsShort image input setting new
  pub goes : new.ending ≡ None
  pub count : events_of new ≡ events_of engine + n

after_quiet : (image : ImageParts) (input : List ℕ) (setting : Setting) (engine : Engine) (n : ℕ) (last new : Engine) → IsShortAfter image input setting engine n last → IsQuiet setting last new → IsShortAfter image input setting engine (suc n) new
after_quiet image input setting engine n last new before one =
    let event : Event = Retired (record { hart = record { 0 = one.hart }; fate = Goes }) in
    let count : events_of new ≡ events_of last + 1 = short_count image input setting last before.short before.goes new event (one.retired 0) in
    record {
      short = short_next image input setting last before.short before.goes new event (one.retired 0);
      goes = one.goes;
      count = omega (arith, count, before.count);
    }

-- several moves keep it, and are one or more
module _ (image : ImageParts) (input : List ℕ) (setting : Setting) (engine : Engine) (short : IsShort image input setting engine) (none : engine.ending ≡ None) (new : Engine) (event : Event) (did : IsFarAdvance setting engine event 0 new) where
  before_last : IsShortAfter image input setting engine did.1 did.0
  before_last = after_all setting (IsShortAfter image input setting engine) (after_quiet image input setting engine) did.1 engine did.0 did.2 (record { short = short; goes = none; count = omega arith })

  pub short_far : IsShort image input setting new
  short_far = short_next image input setting did.0 before_last.short before_last.goes new event did.3

  pub far_count : events_of engine < events_of new
  far_count =
      let count : events_of new ≡ events_of did.0 + 1 = short_count image input setting did.0 before_last.short before_last.goes new event did.3 in
      omega (arith, count, before_last.count)

module _ (image : ImageParts) (input : List ℕ) (setting : Setting) (engine : Engine) (short : IsShort image input setting engine) (old : Experiment Timed) (same : old ≡ experiment_in image input setting) where
  abbrev x : Experiment Timed
  x = experiment_in image input setting

  -- the record of a run that has ended, of what was run at first
  pub recorded_of : (e : Ending) → engine.ending ≡ Some e → net_record_of old (shortened x (events_of engine)) e ≡ shortened_record old
  recorded_of e ended =
      subst (λ (o : Experiment Timed). net_record_of o (shortened x (events_of engine)) e ≡ shortened_record o) (sym same)
      (recorded_now image input setting short.valid engine short.reached e ended)

  pub last_of : (e : Ending) → engine.ending ≡ Some e → shortened x (events_of engine) ≡ shortened old (enough old)
  last_of e ended =
      subst (λ (o : Experiment Timed). shortened x (events_of engine) ≡ shortened o (enough o)) (sym same)
      (last_now image input setting short.valid engine short.reached e ended)

  pub shortened_of : IsShortened old (shortened_record old)
  shortened_of =
      subst (λ (o : Experiment Timed). IsShortened o (shortened_record o)) (sym same)
      (shortened_is image input setting short.valid)

-- what is seen of a run with the same parts is the same
pub same_seen : (image old_image : ImageParts) (index old_index : Index) (points old_points : Points) (timing old_timing : Timing) (input old_input : List ℕ) (choice old_choice : Choice) (state : Shortened Timed)
    → image ≡ old_image → index ≡ old_index → points ≡ old_points → timing ≡ old_timing → input ≡ old_input → choice ≡ old_choice
    → machine_view image index points timing input choice (λ _. state) ≡ machine_view old_image old_index old_points old_timing old_input old_choice (λ _. state)
same_seen image old_image index old_index points old_points timing old_timing input old_input choice old_choice state image_is index_is points_is timing_is input_is choice_is = cc
