-- Machines at speedup 0 up to the first start, and the leads that they are.
use Rattle.std.proofs.Common.{◌≡◌, ℕ, suc, ◌+◌, ◌-◌, ◌*◌, ◌<◌, ◌==◌, ◌&&◌, Bool, true, false, not, List, [], ◌∷◌, length, filter, refl, sym, ap, ap₂, ◌∙◌, subst, arith, Option, Some, None, is_some, IsSome, eqb-true, zero-add}
use Rattle.std.proofs.Math.Dec.{eqb-suc-zero}
use Rattle.coz_types.specs.declared.ending.Ending.{Ending}
use Rattle.coz_types.specs.declared.LineId.{LineId}
use Rattle.coz_types.specs.Image.{ImageParts}
use Rattle.delay_credits.specs.Delays.{Delays}
use Rattle.machines.specs.Guest.{Experiment}
use Rattle.machines.specs.Delayed.{Delayed, begin, unbegun, is_any, events}
use Rattle.machines.specs.Standing.{standing}
use Rattle.machines.specs.Lead.{Before, at_speedup, before}
use Rattle.machines.proofs.Fork.{same_lead}
use Rattle.machines.proofs.Lead.{standing_begins, begin_starts, before_starts, same_before}
use Rattle.machines.proofs.LeadForks.{before_ending, before_retired, before_wakes, ended_begins}
use Rattle.timed_guest.specs.Guest.{Timed}
use Rattle.run_engine.specs.declared.choice.Choice.{Choice}
use Rattle.run_engine.specs.declared.choice.Setting.{Setting}
use Rattle.run_engine.specs.declared.engine.Engine.{Engine}
use Rattle.virtual_run.specs.DelayedRun.{IsPaced}
use Rattle.run_engine.specs.Seen.{Seen, experiment_of}
use Rattle.run_engine.specs.Run.{IsChoice, IsMachine, experiment_in}
use Rattle.run_engine.proofs.Choices.{valid_at, valid_with}
use Rattle.run_engine.specs.Engine.{events_of}
use Rattle.virtual_run.specs.Lead.{arguments, is_unstarted, starts_next, Stands, IsShared, IsLead}
use Rattle.virtual_run.proofs.CreditedRun.{seen_of, ending_now, events_now, starts_now, IsAt, at_far, far_smaller, going_first}
use Rattle.virtual_run.proofs.Forks.{sped_setting}
use Rattle.virtual_run.proofs.Again.{lined_setting}

abbrev pub started_none : Seen (Delayed Timed) → ℕ → Type 0
started_none old n = (before (experiment_of old) n).state.starts ≡ 0

-- if it goes on with no start counted
unstarted_goes : (o : Option Ending) (n : ℕ) → (not (is_some o) && (n == 0)) ≡ true → (o ≡ None) × (n ≡ 0)
unstarted_goes None n e = (refl, eqb-true n 0 e)
unstarted_goes (Some a) n e = absurd (let no : false ≡ true = e in cc)

pub goes_unstarted : (d : Delayed Timed) → is_unstarted d ≡ true → (d.ending ≡ None) × (d.starts ≡ 0)
goes_unstarted d e = unstarted_goes d.ending d.starts e

-- a run that is led
pub record IsLed (old now : Seen (Delayed Timed)) : Type 0 where
  pub at : IsAt old now
  pub none : started_none old (events now.state)
  pub stays : is_unstarted old.state ≡ false → now ≡ old

module _ (old now : Seen (Delayed Timed)) (l : IsLed old now) (unstarted : is_unstarted now.state ≡ true) (new : Seen (Delayed Timed))
    (next : new.state ≡ standing (experiment_of now) (events new.state)) (more : events now.state < events new.state) (starts : (standing (experiment_of now) (events new.state - 1)).starts ≡ now.state.starts) (rest : new ≡ record now { state = new.state }) where
  goes : now.state.ending ≡ None
  goes = (goes_unstarted now.state unstarted).0

  none_next : started_none old (events new.state)
  none_next =
      let x : Experiment Timed = experiment_of old in
      let last : events new.state ≡ suc (events new.state - 1) = omega (arith, more) in
      ap (λ (n : ℕ). (before x n).state.starts) last
      ∙ before_starts x (events new.state - 1)
      ∙ ap (λ (y : Experiment Timed). (standing y (events new.state - 1)).starts) (sym (ap experiment_of l.at.rest))
      ∙ starts
      ∙ (goes_unstarted now.state unstarted).1

  stays_next : is_unstarted old.state ≡ false → new ≡ old
  stays_next over =
      absurd (let no : true ≡ false = sym unstarted ∙ ap (λ (v : Seen (Delayed Timed)). is_unstarted v.state) (l.stays over) ∙ over in cc)

  pub led_next : IsLed old new
  led_next = record { at = at_far old now l.at new next rest; none = none_next; stays = stays_next }

  pub led_smaller : 2 * old.choice.budget - events new.state < 2 * old.choice.budget - events now.state
  led_smaller = far_smaller old now l.at new goes more

-- what contracts see of a fork
module _ (image : ImageParts) (input : List ℕ) (setting : Setting) (engine : Engine) (credits : Delays) (now : ℕ) (p : IsPaced image input setting engine credits now) (v : Seen (Delayed Timed)) (view : seen_of image input setting engine ≡ v) where
  abbrev x : Experiment Timed
  x = experiment_in image input setting

  pub whole_seen : v.choice.speedup ≡ 0 → setting.choice.speedup ≡ 0
  whole_seen whole = ap (λ (v : Seen (Delayed Timed)). v.choice.speedup) view ∙ whole

  pub none_counted : (before (experiment_of v) (events v.state)).state.starts ≡ 0 → (before x (events_of engine)).state.starts ≡ 0
  none_counted z =
      subst (λ (n : ℕ). (before x n).state.starts ≡ 0) (events_now image input setting engine credits now p)
      (subst (λ (v : Seen (Delayed Timed)). (before (experiment_of v) (events v.state)).state.starts ≡ 0) (sym view) z)

  pub zero_seen : events v.state ≡ 0 → events_of engine ≡ 0
  zero_seen zeroth = sym (events_now image input setting engine credits now p) ∙ ap (λ (v : Seen (Delayed Timed)). events v.state) view ∙ zeroth

  pub forked_seen : (q : ℕ) (new : Engine) → events_of new ≡ events_of engine
      → seen_of image input (sped_setting q setting) new ≡ record v { choice = record v.choice { speedup = q }; state = standing (at_speedup q (experiment_of v)) (events v.state) }
  forked_seen q new is =
      subst (λ (v : Seen (Delayed Timed)). seen_of image input (sped_setting q setting) new ≡ record v { choice = record v.choice { speedup = q }; state = standing (at_speedup q (experiment_of v)) (events v.state) }) view
      (ap (λ (n : ℕ). record (seen_of image input setting engine) { choice = record setting.choice { speedup = q }; state = standing (at_speedup q x) n }) (is ∙ sym (events_now image input setting engine credits now p)))

  pub again_seen : (line : LineId) (new : Engine) → events_of new ≡ events_of engine → events_of engine ≡ 0
      → let seen : Seen (Delayed Timed) = seen_of image input (lined_setting line setting) new in seen ≡ record v { choice = record v.choice { selected = Some line }; state = standing (experiment_of seen) 0 }
  again_seen line new is zeroth =
      subst (λ (v : Seen (Delayed Timed)). seen_of image input (lined_setting line setting) new ≡ record v { choice = record v.choice { selected = Some line }; state = standing (experiment_in image input (lined_setting line setting)) 0 }) view
      (ap (λ (n : ℕ). record (seen_of image input setting engine) { choice = record setting.choice { selected = Some line }; state = standing (experiment_in image input (lined_setting line setting)) n }) (is ∙ zeroth))

  pub unstarted_seen : (not (is_some engine.ending) && (engine.starts == 0)) ≡ is_unstarted v.state
  unstarted_seen =
      ap₂ (λ (o : Option Ending) (n : ℕ). not (is_some o) && (n == 0)) (sym (ending_now image input setting engine credits now p)) (sym (starts_now image input setting engine credits now p))
      ∙ ap (λ (v : Seen (Delayed Timed)). is_unstarted v.state) view

  pub led_first : (before (experiment_of v) (events v.state)).state.starts ≡ 0 → IsLed v v
  led_first z = record { at = (going_first image input setting engine credits now p v view).at; none = z; stays = λ _. refl }

-- as the code asks it
pub then_unstarted : (o : Option Ending) (b c : Bool) → is_some o ≡ not b → b ≡ true → c ≡ (not (is_some o) && c)
then_unstarted None b c is some = refl
then_unstarted (Some e) b c is some = absurd (let no : true ≡ false = is ∙ ap not some in cc)

pub else_unstarted : (o : Option Ending) (b c : Bool) → is_some o ≡ not b → b ≡ false → b ≡ (not (is_some o) && c)
else_unstarted (Some e) b c is none = none
else_unstarted None b c is none = absurd (let no : false ≡ true = is ∙ ap not none in cc)

-- what a lead's calls say
any_of : (hs : List ℕ) → is_any hs ≡ not (length hs == 0)
any_of [] = refl
any_of (h ∷ hs) = sym (ap not (eqb-suc-zero (length hs)))

module _ (m : Seen (Delayed Timed)) (l : IsLead m) where
  abbrev m_x : Experiment Timed
  m_x = experiment_of m

  abbrev stood : Before Timed
  stood = before m_x (events m.state)

  -- the selected harts that begin next are the starts after it
  starts_counted : m.state.starts ≡ length (filter (m_x.guest.is_selected stood.state.guest) stood.harts)
  starts_counted =
      ap (λ (d : Delayed Timed). d.starts) (l.stands ∙ standing_begins m_x (events m.state))
      ∙ begin_starts m_x stood.harts stood.state
      ∙ ap (λ (n : ℕ). n + length (filter (m_x.guest.is_selected stood.state.guest) stood.harts)) l.none
      ∙ zero-add (length (filter (m_x.guest.is_selected stood.state.guest) stood.harts))

  pub lead_ending : m.state.ending ≡ stood.state.ending
  lead_ending = ap (λ (d : Delayed Timed). d.ending) l.stands ∙ before_ending m_x (events m.state)

  pub next_is_start : starts_next m_x stood ≡ not (m.state.starts == 0)
  next_is_start = any_of (filter (m_x.guest.is_selected stood.state.guest) stood.harts) ∙ ap (λ (n : ℕ). not (n == 0)) (sym starts_counted)

  -- if it has ended, no start is next
  none_over : (e : Ending) → m.state.ending ≡ Some e → starts_next m_x stood ≡ false
  none_over e over =
      ap (λ (hs : List ℕ). is_any (filter (m_x.guest.is_selected stood.state.guest) hs)) (ended_begins m_x (events m.state) e (ap (λ (d : Delayed Timed). d.ending) (sym l.stands) ∙ over))

  pub stops_where : is_unstarted m.state ≡ false → is_some m.state.ending ≡ not (starts_next m_x stood)
  stops_where stops = go m.state.ending refl
    where
      started : (b : Bool) → (m.state.starts == 0) ≡ b → (not false && b) ≡ false → false ≡ not (not b)
      started false e s = refl
      started true e s = absurd (let no : true ≡ false = s in cc)

      go : (o : Option Ending) → m.state.ending ≡ o → is_some m.state.ending ≡ not (starts_next m_x stood)
      go (Some e) over = rw (over, none_over e over) refl
      go None goes =
          rw (goes, next_is_start)
          (started (m.state.starts == 0) refl (ap (λ (o : Option Ending). not (is_some o) && (m.state.starts == 0)) (sym goes) ∙ stops))

  -- there it stays
  pub stays_started : starts_next m_x stood ≡ true → is_unstarted m.state ≡ false
  stays_started next = go m.state.ending
    where
      never : (b : Bool) → not b ≡ true → b ≡ false
      never false e = refl
      never true e = absurd (let no : false ≡ true = e in cc)

      go : (o : Option Ending) → (not (is_some o) && (m.state.starts == 0)) ≡ false
      go (Some e) = refl
      go None = never (m.state.starts == 0) (sym next_is_start ∙ next)

  pub stays_over : IsSome stood.state.ending → is_unstarted m.state ≡ false
  stays_over some = go m.state.ending (ap is_some lead_ending ∙ some)
    where
      go : (o : Option Ending) → is_some o ≡ true → (not (is_some o) && (m.state.starts == 0)) ≡ false
      go (Some e) is = refl
      go None is = absurd (let no : false ≡ true = is in cc)

  pub lead_before : (q : ℕ) → stood ≡ before (at_speedup q m_x) (events m.state)
  lead_before q = same_before m_x q (events m.state) l.none

  pub lead_stands : (q : ℕ) → Stands (at_speedup q m_x) stood
  lead_stands q = record { events = events m.state; is = lead_before q; none = l.none }

  -- at any speedup
  pub lead_shared : (q : ℕ) → IsShared (at_speedup q m_x) stood
  lead_shared q = record {
    stands = lead_stands;
    states = λ speedup moves z. same_lead (at_speedup q m_x) speedup moves z;
  }

  unbegun_retired : (y : Experiment Timed) → (unbegun y).retired ≡ 0
  unfolding unbegun
  unbegun_retired y = refl

  unbegun_wakes : (y : Experiment Timed) → (unbegun y).wakes ≡ 0
  unfolding unbegun
  unbegun_wakes y = refl

  -- one that stands before the first beginning retired nothing, and woke no hart
  pub stands_first : (q : ℕ) → stood ≡ record { state = unbegun (at_speedup q m_x); harts = 0 ∷ [] } → events m.state ≡ 0
  stands_first q first =
      let retired : m.state.retired ≡ 0 =
      ap (λ (d : Delayed Timed). d.retired) l.stands ∙ before_retired m_x (events m.state) ∙ ap (λ (b : Before Timed). b.state.retired) first ∙ unbegun_retired (at_speedup q m_x) in
      let wakes : m.state.wakes ≡ 0 =
      ap (λ (d : Delayed Timed). d.wakes) l.stands ∙ before_wakes m_x (events m.state) ∙ ap (λ (b : Before Timed). b.state.wakes) first ∙ unbegun_wakes (at_speedup q m_x) in
      omega (arith, retired, wakes)

  -- a beginning at a speedup
  pub begins_at : (q : ℕ) → standing (at_speedup q m_x) (events m.state) ≡ begin (at_speedup q m_x) stood.harts stood.state
  begins_at q = standing_begins (at_speedup q m_x) (events m.state) ∙ ap (λ (b : Before Timed). begin (at_speedup q m_x) b.harts b.state) (sym (lead_before q))

pub before_first : (x : Experiment Timed) → before x 0 ≡ record { state = unbegun x; harts = 0 ∷ [] }
unfolding before
before_first x = refl

pub unbegun_at : (x : Experiment Timed) (q : ℕ) → unbegun (at_speedup q x) ≡ unbegun x
unfolding unbegun
unbegun_at x q = refl

first_starts : (x : Experiment Timed) → (unbegun x).starts ≡ 0
unfolding unbegun
first_starts x = refl

first_events : (x : Experiment Timed) → events (unbegun x) ≡ 0
unfolding unbegun
first_events x = refl

-- a state has come to as many as before the beginning
pub events_before : (x : Experiment Timed) (n : ℕ) → events (standing x n) ≡ events (before x n).state
events_before x n = ap₂ (λ (m k : ℕ). m + k) (before_retired x n) (before_wakes x n)

pub standing_first : (x : Experiment Timed) → events (standing x 0) ≡ 0
standing_first x = events_before x 0 ∙ ap (λ (b : Before Timed). events b.state) (before_first x) ∙ first_events x

-- a machine that was just made
pub lead_first : (m : Seen (Delayed Timed)) → IsChoice m.choice → IsMachine m.timing m.choice.budget → m.choice.speedup ≡ 0 → m.state ≡ standing (experiment_of m) 0 → IsLead m
lead_first m valid machine whole first =
    let x : Experiment Timed = experiment_of m in
    let zeroth : events m.state ≡ 0 = ap (λ (d : Delayed Timed). events d) first ∙ standing_first x in
    record {
      valid = valid;
      machine = machine;
      whole = whole;
      stands = first ∙ ap (standing x) (sym zeroth);
      none = ap (λ (n : ℕ). (before x n).state.starts) zeroth ∙ ap (λ (b : Before Timed). b.state.starts) (before_first x) ∙ first_starts x;
    }

-- what contracts see of a lead
abbrev pub lead_view : Seen (Delayed Timed) → ℕ → Seen (Before Timed)
lead_view m speedup = record {
  image = m.image;
  index = m.index;
  points = m.points;
  timing = m.timing;
  input = m.input;
  choice = record m.choice { speedup = speedup };
  state = before (experiment_of m) (events m.state);
}

-- a lead that was just made
pub made_lead : (v : Seen (Delayed Timed)) (choice : Choice) (m : Seen (Delayed Timed)) → IsChoice choice → IsMachine v.timing choice.budget
    → m ≡ record v { choice = record choice { speedup = 0 }; state = standing (experiment_of (record v { choice = record choice { speedup = 0 } })) 0 } → IsLead m
made_lead v choice m valid machine made =
    subst IsLead (sym made)
    (lead_first (record v { choice = record choice { speedup = 0 }; state = standing (experiment_of (record v { choice = record choice { speedup = 0 } })) 0 }) (valid_at choice 0 (omega arith) valid) machine refl refl)

pub made_view : (v : Seen (Delayed Timed)) (choice : Choice) (m : Seen (Delayed Timed))
    → m ≡ record v { choice = record choice { speedup = 0 }; state = standing (experiment_of (record v { choice = record choice { speedup = 0 } })) 0 }
    → lead_view m choice.speedup ≡ record { image = v.image; index = v.index; points = v.points; timing = v.timing; input = v.input; choice = choice; state = record { state = unbegun (experiment_of (record v { choice = choice })); harts = 0 ∷ [] } }
made_view v choice m made =
    let x : Experiment Timed = experiment_of (record v { choice = record choice { speedup = 0 } }) in
    let y : Experiment Timed = experiment_of (record v { choice = choice }) in
    ap (λ (m : Seen (Delayed Timed)). lead_view m choice.speedup) made
    ∙ ap (λ (b : Before Timed). record { image = v.image; index = v.index; points = v.points; timing = v.timing; input = v.input; choice = choice; state = b })
    (ap (before x) (standing_first x) ∙ before_first x ∙ ap (λ (d : Delayed Timed). record { state = d; harts = 0 ∷ [] }) (unbegun_at y 0))

module _ (m : Seen (Delayed Timed)) (l : IsLead m) (speedup : ℕ) (w : Seen (Before Timed)) (view : lead_view m speedup ≡ w) where
  -- one that stands before the first beginning
  first_here : w.state ≡ record { state = unbegun (experiment_of w); harts = 0 ∷ [] } → before (experiment_of m) (events m.state) ≡ record { state = unbegun (at_speedup speedup (experiment_of m)); harts = 0 ∷ [] }
  first_here first = subst (λ (w : Seen (Before Timed)). w.state ≡ record { state = unbegun (experiment_of w); harts = 0 ∷ [] }) (sym view) first

  pub zero_again : w.state ≡ record { state = unbegun (experiment_of w); harts = 0 ∷ [] } → events m.state ≡ 0
  zero_again first = stands_first m l speedup (first_here first)

  -- the same again with another line
  module _ (line : LineId) (new : Seen (Delayed Timed)) (is : new ≡ record m { choice = record m.choice { selected = Some line }; state = standing (experiment_of new) 0 }) where
    pub again_led : IsLead new
    again_led =
        lead_first new
        (subst IsChoice (sym (ap (λ (v : Seen (Delayed Timed)). v.choice) is)) (valid_with m.choice line l.valid))
        (subst (λ (v : Seen (Delayed Timed)). IsMachine v.timing v.choice.budget) (sym is) l.machine)
        (ap (λ (v : Seen (Delayed Timed)). v.choice.speedup) is ∙ l.whole)
        (ap (λ (v : Seen (Delayed Timed)). v.state) is)

    abbrev lined : Experiment Timed
    lined = experiment_of (record m { choice = record m.choice { selected = Some line } })

    same_unbegun : unbegun lined ≡ unbegun (at_speedup speedup (experiment_of m))
    unfolding unbegun
    same_unbegun = refl

    experiment_is : experiment_of new ≡ lined
    experiment_is = ap experiment_of is

    again_before : before (experiment_of new) (events new.state) ≡ record { state = unbegun (at_speedup speedup (experiment_of m)); harts = 0 ∷ [] }
    again_before =
        ap (before (experiment_of new)) (ap (λ (v : Seen (Delayed Timed)). events v.state) is ∙ standing_first (experiment_of new))
        ∙ before_first (experiment_of new)
        ∙ ap (λ (x : Experiment Timed). record { state = unbegun x; harts = 0 ∷ [] }) experiment_is
        ∙ ap (λ (d : Delayed Timed). record { state = d; harts = 0 ∷ [] }) same_unbegun

    pub again_view : w.state ≡ record { state = unbegun (experiment_of w); harts = 0 ∷ [] } → lead_view new speedup ≡ record w { choice = record w.choice { selected = Some line } }
    again_view first =
        ap
        (λ (v : Seen (Delayed Timed)). record { image = v.image; index = v.index; points = v.points; timing = v.timing; input = v.input; choice = record v.choice { speedup = speedup }; state = before (experiment_of new) (events new.state) })
        is
        ∙ ap
        (λ (b : Before Timed). record { image = m.image; index = m.index; points = m.points; timing = m.timing; input = m.input; choice = record m.choice { selected = Some line; speedup = speedup }; state = b })
        (again_before ∙ sym (first_here first))
        ∙ ap (λ (w : Seen (Before Timed)). record w { choice = record w.choice { selected = Some line } }) view

  -- a fork
  module _ (q : ℕ) (old new : Seen (Delayed Timed)) (same : arguments old ≡ arguments w) (is : new ≡ record m { choice = record m.choice { speedup = q }; state = standing (at_speedup q (experiment_of m)) (events m.state) }) where
    events_at : events (standing (at_speedup q (experiment_of m)) (events m.state)) ≡ events m.state
    events_at =
        events_before (at_speedup q (experiment_of m)) (events m.state)
        ∙ ap (λ (b : Before Timed). events b.state) (sym (lead_before m l q))
        ∙ sym (events_before (experiment_of m) (events m.state))
        ∙ ap (λ (d : Delayed Timed). events d) (sym l.stands)

    pub fork_stands : new.state ≡ standing (experiment_of new) (events new.state)
    fork_stands =
        subst (λ (v : Seen (Delayed Timed)). v.state ≡ standing (experiment_of v) (events v.state)) (sym is)
        (ap (standing (at_speedup q (experiment_of m))) (sym events_at))

    fork_here : (old : Seen (Delayed Timed)) → arguments old ≡ arguments (lead_view m speedup)
        → new ≡ record old { choice = record m.choice { speedup = q }; state = begin (at_speedup q (experiment_of m)) (before (experiment_of m) (events m.state)).harts (before (experiment_of m) (events m.state)).state }
    fork_here old same =
        let d : Delayed Timed = begin (at_speedup q (experiment_of m)) (before (experiment_of m) (events m.state)).harts (before (experiment_of m) (events m.state)).state in
        is
        ∙ ap (λ (d : Delayed Timed). record m { choice = record m.choice { speedup = q }; state = d }) (begins_at m l q)
        ∙ ap (λ (a : Seen (Unit {0})). record { image = a.image; index = a.index; points = a.points; timing = a.timing; input = a.input; choice = record m.choice { speedup = q }; state = d }) (sym same)

    pub fork_seen : new ≡ record old { choice = record w.choice { speedup = q }; state = begin (at_speedup q (experiment_of w)) w.state.harts w.state.state }
    fork_seen =
        subst
        (λ (w : Seen (Before Timed)). new ≡ record old { choice = record w.choice { speedup = q }; state = begin (at_speedup q (experiment_of w)) w.state.harts w.state.state })
        view
        (fork_here old (same ∙ ap arguments (sym view)))

  -- a run up to the first start
  module _ (new : Seen (Delayed Timed)) (stops : is_unstarted new.state ≡ false) (none : (before (experiment_of m) (events new.state)).state.starts ≡ 0) (stood_is : new.state ≡ standing (experiment_of m) (events new.state))
      (stays : is_unstarted m.state ≡ false → new ≡ m) (rest : new ≡ record m { state = new.state }) where
    same_x : experiment_of new ≡ experiment_of m
    same_x = ap experiment_of rest

    pub run_led : IsLead new
    run_led = record {
      valid = subst IsChoice (sym (ap (λ (v : Seen (Delayed Timed)). v.choice) rest)) l.valid;
      machine = subst (λ (v : Seen (Delayed Timed)). IsMachine v.timing v.choice.budget) (sym rest) l.machine;
      whole = ap (λ (v : Seen (Delayed Timed)). v.choice.speedup) rest ∙ l.whole;
      stands = stood_is ∙ ap (λ (x : Experiment Timed). standing x (events new.state)) (sym same_x);
      none = ap (λ (x : Experiment Timed). (before x (events new.state)).state.starts) same_x ∙ none;
    }

    abbrev after : Before Timed
    after = before (experiment_of new) (events new.state)

    at_w : (P : Experiment Timed → Type 0) → P (at_speedup speedup (experiment_of new)) → P (experiment_of w)
    at_w P holds =
        subst (λ (w : Seen (Before Timed)). P (experiment_of w)) view
        (subst (λ (x : Experiment Timed). P (at_speedup speedup x)) same_x holds)

    pub run_none : is_some new.state.ending ≡ not (starts_next (experiment_of w) after)
    run_none = at_w (λ x. is_some new.state.ending ≡ not (starts_next x after)) (stops_where new run_led stops)

    pub run_stands : Stands (experiment_of w) after
    run_stands = at_w (λ x. Stands x after) (lead_stands new run_led speedup)

    pub run_shared : IsShared (experiment_of w) after
    run_shared = at_w (λ x. IsShared x after) (lead_shared new run_led speedup)

    pub run_stays : starts_next (experiment_of w) w.state ≡ true → lead_view new speedup ≡ w
    run_stays next =
        let here : starts_next (experiment_of m) (before (experiment_of m) (events m.state)) ≡ true = subst (λ (w : Seen (Before Timed)). starts_next (experiment_of w) w.state ≡ true) (sym view) next in
        ap (λ (m : Seen (Delayed Timed)). lead_view m speedup) (stays (stays_started m l here)) ∙ view

    pub run_over : IsSome w.state.state.ending → lead_view new speedup ≡ w
    run_over some =
        let here : IsSome (before (experiment_of m) (events m.state)).state.ending = subst (λ (w : Seen (Before Timed)). IsSome w.state.state.ending) (sym view) some in
        ap (λ (m : Seen (Delayed Timed)). lead_view m speedup) (stays (stays_over m l here)) ∙ view

    pub run_rest : lead_view new speedup ≡ record w { state = after }
    run_rest =
        ap
        (λ (v : Seen (Delayed Timed)). record { image = v.image; index = v.index; points = v.points; timing = v.timing; input = v.input; choice = record v.choice { speedup = speedup }; state = after })
        rest
        ∙ ap (λ (w : Seen (Before Timed)). record w { state = after }) view
