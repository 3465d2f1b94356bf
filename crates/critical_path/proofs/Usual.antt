-- On the usual machine the events of a run are those of the guest alone.
use Rattle.std.proofs.Common.{◌≡◌, ℕ, zero, suc, ◌*◌, ◌-◌, ◌≤◌, ◌++◌, ◌∙◌, ◌==◌, if◌then◌else◌, Bool, false, List, [], ◌∷◌, length, Option, Some, None, refl, sym, ap, ap₂, subst}
use Rattle.std.proofs.Math.Path.{fun_ext}
use Rattle.std.specs.Prelude.{Result, IfOk}
use Rattle.std.specs.declared.alloc.AllocError.{AllocError}
use Rattle.coz_types.specs.declared.ending.Ending.{Ending}
use Rattle.coz_types.specs.Image.{ImageParts}
use Rattle.line_index.specs.Index.{Index, position_at}
use Rattle.machines.specs.Guest.{Experiment, Retirement, cost, cut, started_harts, enough}
use Rattle.machines.specs.Shortened.{Shortened, Turn, next_turn, shortened}
use Rattle.machines.specs.Records.{NetRecord, shortened_record}
use Rattle.guest_memory.specs.declared.Layout.{Layout}
use Rattle.guest_calls.specs.Guest as guests
use Rattle.timing_laws.specs.Following.{retirement_through, shortened_through}
use Rattle.timing_model.specs.declared.timing.Timing.{Timing}
use Rattle.timing_model.specs.Timing.{IsUsual}
use Rattle.timed_guest.specs.Guest.{Timed, pc_of, first_guest}
use Rattle.timed_guest.specs.Laws.{IsGuestAlone}
use Rattle.timed_guest.proofs.Alone.{guest_alone}
use Rattle.timed_guest.proofs.Steps.{out_of_line}
use Rattle.run_engine.specs.declared.choice.Choice.{Choice}
use Rattle.run_engine.specs.Run.{IsChoice, experiment, timed_experiment, selected_line}
use Rattle.run_engine.proofs.Usual.{beside_none, usual_alike, usual_shortened}
use Rattle.path_causes.specs.declared.cause.Cause.{Cause}
use Rattle.path_chains.specs.declared.event.Trace.{Trace}
use Rattle.path_causes.specs.Causes.{no_cause, woken_with, turned}
use Rattle.critical_path.specs.Events.{Traced, AreFroms, retirements_of, work, event_of, retired, woken, after_move_by, untraced, traced, events_of}
use Rattle.critical_path.specs.Walk.{plain_choice, plain, plain_on, IsTraceOf}
use Rattle.critical_path.proofs.Froms.{froms_are}
use Rattle.critical_path.proofs.Walking.{traced_done}

-- y does what x does, with each state mapped
module _ {G H : Type 0} (x : Experiment G) (y : Experiment H) (f : G → H) (place : G → ℕ → ℕ) (place_mapped : H → ℕ → ℕ) where
  record IsMapped : Type 0 where
    pub runs : (n : ℕ) → shortened y n ≡ shortened_through f (shortened x n)
    pub budget : y.budget ≡ x.budget
    pub first : y.first ≡ f x.first
    pub sleeps : (g : G) (h : ℕ) → y.guest.is_sleeping (f g) h ≡ x.guest.is_sleeping g h
    pub retires : (g : G) (h v : ℕ) → y.guest.retire (f g) h v ≡ retirement_through f (x.guest.retire g h v)
    pub wakes : (g : G) (h : ℕ) → y.guest.wake (f g) h ≡ f (x.guest.wake g h)
    pub works : (g : G) (h : ℕ) → work y place_mapped (f g) h ≡ work x place g h
    pub places : (g : G) (h : ℕ) → place_mapped (f g) h ≡ place g h

  module _ (is : IsMapped) where
    same_woken : (t : Turn) (g : G) (w : Traced) → woken y place_mapped t (f g) w ≡ woken x place t g w
    same_woken t g w =
        ap (λ (causes : ℕ → Cause). record w { causes = causes })
        (fun_ext (λ h. ap (λ (ticks : ℕ). if h == t.hart then woken_with ticks (w.causes h) else w.causes h) (ap (λ (o : H). work y place_mapped o h) (is.wakes g h) ∙ is.works (x.guest.wake g h) h)))

    same_retired : (t : Turn) (g : G) (w : Traced) → retired y place_mapped t (f g) w ≡ retired x place t g w
    same_retired t g w =
        let r : Retirement G = x.guest.retire g t.hart t.due in
        ap₂ (λ (o : Retirement H) (a : ℕ). record {
          causes = λ h. turned t.hart o.fate t.due (length w.events) (started_harts t.hart o) (work y place_mapped o.guest) h (w.causes h);
          events = w.events ++ record { hart = record { 0 = t.hart }; address = a; cost = (w.causes t.hart).cost; slept = (w.causes t.hart).slept; from = (w.causes t.hart).from; before = (w.causes t.hart).before; due = t.due } ∷ [];
        }) (is.retires g t.hart t.due) (is.places g t.hart)
        ∙ ap (λ (ticks : ℕ → ℕ). record {
          causes = λ h. turned t.hart r.fate t.due (length w.events) (started_harts t.hart r) ticks h (w.causes h);
          events = w.events ++ event_of x place t g (w.causes t.hart) ∷ [];
        }) (fun_ext (is.works r.guest))

    same_move : (o : Option Ending) (turn : Option Turn) (g : G) (w : Traced) → after_move_by y place_mapped o turn (f g) w ≡ after_move_by x place o turn g w
    same_move (Some e) turn g w = refl
    same_move None None g w = refl
    same_move None (Some t) g w =
        ap (λ (b : Bool). if b then woken y place_mapped t (f g) w else retired y place_mapped t (f g) w) (is.sleeps g t.hart)
        ∙ ap₂ (λ (one other : Traced). if x.guest.is_sleeping g t.hart then one else other) (same_woken t g w) (same_retired t g w)

    same_first : untraced y place_mapped ≡ untraced x place
    same_first =
        let ticks : work y place_mapped y.first 0 ≡ work x place x.first 0 = ap (λ (o : H). work y place_mapped o 0) is.first ∙ is.works x.first 0 in
        ap (λ (n : ℕ). record { causes = λ h. if h == 0 then record no_cause { cost = n } else no_cause; events = [] }) ticks

    same_traced : (n : ℕ) → traced y place_mapped n ≡ traced x place n
    unfolding traced
    same_traced zero = same_first
    same_traced (suc n) =
        ap₂ (λ (s : Shortened H) (w : Traced). after_move_by y place_mapped s.ending (next_turn s.dues) s.guest w) (is.runs n) (same_traced n)
        ∙ same_move (shortened x n).ending (next_turn (shortened x n).dues) (shortened x n).guest (traced x place n)

    same_events : events_of y place_mapped ≡ events_of x place
    unfolding events_of
    same_events = ap (λ (w : Traced). w.events) (ap (λ (n : ℕ). traced y place_mapped (2 * n)) is.budget ∙ same_traced (enough x))

module _ (t : Timing) (usual : IsUsual t) (image : ImageParts) (index : Index) (point : ℕ → Option ℕ) (input : List ℕ) (choice : Choice) (small : choice.speedup ≤ 95) where
  abbrev alone : Experiment guests.Guest
  alone = experiment image (position_at index) point input choice

  abbrev timed : Experiment Timed
  timed = timed_experiment t image index point input choice

  abbrev beside : guests.Guest → Timed
  beside = beside_none t index

  same_work : (g : guests.Guest) (h : ℕ) → work timed pc_of (beside g) h ≡ work alone guests.pc_of g h
  unfolding cost cut
  same_work g h =
      let is : IsGuestAlone (beside g) = guest_alone (beside g) usual in
      ap₂ (λ (cycles : ℕ) (selected : Bool). 100 * cycles - (if selected then choice.speedup * cycles else 0)) (is.cycles h) (is.selected (selected_line choice) h)

  usual_first : timed.first ≡ beside alone.first
  unfolding first_guest
  usual_first = refl

  usual_mapped : IsMapped alone timed beside guests.pc_of pc_of
  usual_mapped = record {
    runs = (usual_alike t usual image index point input choice small).shortened_run;
    budget = refl;
    first = usual_first;
    sleeps = λ g h. out_of_line (guests.is_sleeping g h) false refl;
    retires = λ g h v. (guest_alone (beside g) usual).retires h v;
    wakes = λ g h. (guest_alone (beside g) usual).wakes h;
    works = same_work;
    places = λ g h. refl;
  }

  pub usual_events : events_of timed pc_of ≡ events_of alone guests.pc_of
  usual_events = same_events alone timed beside guests.pc_of pc_of usual_mapped

-- so the trace of a plain run on the usual machine is one of the guest alone
module _ (t : Timing) (usual : IsUsual t) (image : ImageParts) (index : Index) (input : List ℕ) (budget output_limit : ℕ) (layout : Layout) (valid : IsChoice (plain_choice budget output_limit layout)) where
  abbrev run : Experiment guests.Guest
  run = plain image input budget output_limit layout

  same_record : shortened_record (plain_on t image index input budget output_limit layout) ≡ shortened_record run
  same_record = usual_shortened t usual image index (λ _. None) input (plain_choice budget output_limit layout) valid.speedup

  pub plain_alone : (trace : Trace) → IsTraceOf (plain_on t image index input budget output_limit layout) pc_of trace → IsTraceOf run guests.pc_of trace
  plain_alone trace is =
      let are : trace.events ≡ events_of run guests.pc_of = is.events ∙ usual_events t usual image index (λ _. None) input (plain_choice budget output_limit layout) valid.speedup in
      record {
        events = are;
        ending = is.ending ∙ ap (λ (r : NetRecord). r.ending) same_record;
        output = is.output ∙ ap (λ (r : NetRecord). r.output) same_record;
        linked = is.linked;
        many = is.many ∙ ap (λ (r : NetRecord). r.retired) same_record;
        whole = is.whole ∙ ap (λ (r : NetRecord). r.time) same_record;
        befores = is.befores;
        froms = subst (AreFroms (retirements_of run)) (sym are) (froms_are run guests.pc_of);
      }

  -- and what is known of the one is known of the other
  pub told_alone : (r : Result Trace AllocError) → IfOk r (IsTraceOf (plain_on t image index input budget output_limit layout) pc_of)
      → (Q : Trace → Type 0) → ((trace : Trace) → IsTraceOf run guests.pc_of trace → Q trace) → IfOk r Q
  told_alone r is Q told = traced_done r (IsTraceOf (plain_on t image index input budget output_limit layout) pc_of) Q (λ trace of. told trace (plain_alone trace of)) is
