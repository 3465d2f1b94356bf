-- A run that begins at speedup 0, as another line is selected.
use Rattle.std.proofs.Common.{◌≡◌, ℕ, zero, suc, ◌+◌, ◌-◌, ◌*◌, ◌≤◌, Bool, true, false, if◌then◌else◌, List, [], ◌∷◌, length, get_or, filter, fold, refl, sym, ap, ◌∙◌, subst, arith, Option, Some, None, zero-mul}
use Rattle.coz_types.specs.declared.LineId.{LineId}
use Rattle.coz_types.specs.Image.{ImageParts}
use Rattle.hart_schedule.specs.Keys.{Keys, key_of}
use Rattle.machines.specs.Places.{change, change_each}
use Rattle.machines.specs.Guest.{Experiment, cost, cut}
use Rattle.machines.specs.Delayed.{Delayed, idle_hart, raise, begin, unbegun, delayed, after, run as run_from}
use Rattle.machines.specs.Shortened.{Shortened, shortened}
use Rattle.machines.specs.Shortened as short
use Rattle.machines.specs.Standing.{standing}
use Rattle.machines.specs.Lead.{at_speedup, before}
use Rattle.machines.proofs.Lead.{all_count}
use Rattle.delay_credits.specs.Delays.{Delays}
use Rattle.timed_guest.specs.Guest.{Timed, IsMade}
use Rattle.run_engine.specs.declared.choice.Setting.{Setting}
use Rattle.run_engine.specs.declared.engine.Engine.{Engine}
use Rattle.run_engine.specs.Begin.{many}
use Rattle.run_engine.specs.Run.{IsSetting, is_selected_in, selected_of, experiment_in}
use Rattle.run_engine.specs.Engine.{events_of, IsEngineOf, state_of}
use Rattle.virtual_run.specs.Credited.{Holds}
use Rattle.virtual_run.specs.DelayedRun.{IsPaced}
use Rattle.run_engine.proofs.Choices.{valid_with}
use Rattle.run_engine.proofs.Begin.{one_at_most}
use Rattle.run_engine.proofs.Law.{first_made}

-- some hart is due
some_many : (keys : Keys) (k v : ℕ) → key_of keys k ≡ Some v → 1 ≤ many keys
some_many [] k v has = absurd (let no : ◌≡◌ {A = Option ℕ} None (Some v) = has in cc)
some_many (Some u ∷ keys) k v has = omega arith
some_many (None ∷ keys) zero v has = absurd (let no : ◌≡◌ {A = Option ℕ} None (Some v) = has in cc)
some_many (None ∷ keys) (suc k) v has = some_many keys k v has

-- the same setting with a line selected
abbrev pub lined_setting : LineId → Setting → Setting
lined_setting line setting = record setting { choice = record setting.choice { selected = Some line } }

-- nothing is cut at speedup 0
uncut : (x : Experiment Timed) (g : Timed) (h : ℕ) → x.speedup ≡ 0 → cut x g h ≡ 0
unfolding cut
uncut x g h whole = go (x.guest.is_selected g h)
  where
    go : (b : Bool) → (if b then x.speedup * x.guest.cycles g h else 0) ≡ 0
    go true = ap (λ (n : ℕ). n * x.guest.cycles g h) whole ∙ zero-mul (x.guest.cycles g h)
    go false = refl

module _ (x : Experiment Timed) (whole : x.speedup ≡ 0) where
  standing_first : standing x 0 ≡ begin x (0 ∷ []) (unbegun x)
  unfolding standing delayed after
  standing_first = refl

  same : at_speedup 0 x ≡ x
  same = ap (λ (i : ℕ). at_speedup i x) (sym whole)

  only_counts : (hs : List ℕ) (d : Delayed Timed) → fold (raise x) d hs ≡ record d { starts = d.starts + length hs }
  only_counts hs d = ap (λ (y : Experiment Timed). fold (raise y) d hs) (sym same) ∙ all_count x 0 hs d

  abbrev ready : Delayed Timed
  ready = record { now = 0; delay = 0; guest = x.first; harts = change_each idle_hart (0 ∷ []) (λ h. run_from (cost x x.first h)) []; visits = []; retired = 0; wakes = 0; starts = 0; ending = None }

  -- its first state apart from the starts
  first_is : (n : ℕ) × (standing x 0 ≡ record ready { starts = n })
  unfolding begin unbegun
  first_is =
      (0 + length (filter (x.guest.is_selected x.first) (0 ∷ [])), standing_first ∙ only_counts (filter (x.guest.is_selected x.first) (0 ∷ [])) ready)

  short_ready : Shortened Timed
  short_ready = record { time = 0; guest = x.first; dues = change None 0 (λ _. Some (0 + cost x x.first 0 - 0)) []; visits = []; retired = 0; wakes = 0; starts = 0; ending = None }

  short_first_is : shortened x 0 ≡ record short_ready { starts = 0 + length (filter (x.guest.is_selected x.first) (0 ∷ [])) }
  unfolding shortened short.begin short.unbegun short_ready
  short_first_is =
      ap
      (λ (c : ℕ). record { time = 0; guest = x.first; dues = change None 0 (λ _. Some (0 + cost x x.first 0 - c)) []; visits = []; retired = 0; wakes = 0; starts = 0 + length (filter (x.guest.is_selected x.first) (0 ∷ [])); ending = None })
      (uncut x x.first 0 whole)

module _ (image : ImageParts) (input : List ℕ) (setting : Setting) (engine : Engine) (credits : Delays) (now : ℕ) (p : IsPaced image input setting engine credits now) (whole : setting.choice.speedup ≡ 0) (zeroth : events_of engine ≡ 0) (line : LineId) where
  abbrev x : Experiment Timed
  x = experiment_in image input setting

  abbrev y : Experiment Timed
  y = experiment_in image input (lined_setting line setting)

  first_guest_is : (shortened x 0).guest ≡ x.first
  unfolding shortened short.begin short.unbegun
  first_guest_is = refl

  pub guest_is : engine.guest ≡ x.first
  guest_is = sym (ap (λ (t : Shortened Timed). t.guest) p.reached.reached.state) ∙ ap (λ (n : ℕ). (shortened x n).guest) zeroth ∙ first_guest_is

  pub first_is_made : IsMade engine.guest 0
  first_is_made = subst (λ (g : Timed). IsMade g 0) (sym guest_is) (first_made image input setting.choice.output_limit setting.choice.layout setting.timing setting.index.now)

  abbrev chosen : List ℕ
  chosen = selected_of (lined_setting line setting) engine.guest (0 ∷ [])

  abbrev new_engine : Engine
  new_engine = record engine { selected = chosen; starts = length chosen }

  moment_zero : (standing x (events_of engine)).now ≡ 0
  moment_zero = ap (λ (n : ℕ). (standing x n).now) zeroth ∙ ap (λ (d : Delayed Timed). d.now) (first_is x whole).1

  -- both first states have the same harts, and the same moments
  same_short : shortened y 0 ≡ record (shortened x 0) { starts = 0 + length (filter (y.guest.is_selected y.first) (0 ∷ [])) }
  unfolding short_ready cost
  same_short =
      short_first_is y whole
      ∙ ap (λ (s : Shortened Timed). record s { starts = 0 + length (filter (y.guest.is_selected y.first) (0 ∷ [])) }) (sym (short_first_is x whole))

  counted : 0 + length (filter (y.guest.is_selected y.first) (0 ∷ [])) ≡ length chosen
  counted =
      let same : length (filter (y.guest.is_selected y.first) (0 ∷ [])) ≡ length chosen = ap (λ (g : Timed). length (filter (y.guest.is_selected g) (0 ∷ []))) (sym guest_is) in
      omega (arith, same)

  state_new : shortened y (events_of engine) ≡ state_of new_engine (shortened y (events_of engine)).dues
  state_new =
      let first : shortened y (events_of engine) ≡ record (shortened x (events_of engine)) { starts = length chosen } =
      ap (shortened y) zeroth ∙ same_short
      ∙ ap (λ (n : ℕ). record (shortened x 0) { starts = n }) counted
      ∙ ap (λ (n : ℕ). record (shortened x n) { starts = length chosen }) (sym zeroth) in
      let dues : (shortened x (events_of engine)).dues ≡ (shortened y (events_of engine)).dues = ap (λ (s : Shortened Timed). s.dues) (sym first) in
      first ∙ ap (λ (s : Shortened Timed). record s { starts = length chosen }) p.reached.reached.state
      ∙ ap (state_of new_engine) dues

  dues_same : (shortened x (events_of engine)).dues ≡ (shortened y (events_of engine)).dues
  dues_same = ap (λ (n : ℕ). (shortened x n).dues) zeroth ∙ ap (λ (s : Shortened Timed). s.dues) (sym same_short) ∙ ap (λ (n : ℕ). (shortened y n).dues) (sym zeroth)

  due_first : (shortened x 0).dues ≡ Some (0 + cost x x.first 0 - 0) ∷ []
  unfolding short_ready
  due_first = ap (λ (s : Shortened Timed). s.dues) (short_first_is x whole)

  some_due : 1 ≤ many engine.schedule
  some_due =
      some_many engine.schedule 0 (0 + cost x x.first 0 - 0)
      (p.reached.reached.dues 0 ∙ ap (λ (n : ℕ). get_or (shortened x n).dues 0 None) zeroth ∙ ap (λ (ds : List (Option ℕ)). get_or ds 0 None) due_first)

  reached_new : IsEngineOf y new_engine
  reached_new = record {
    reached = record { state = state_new; dues = λ k. p.reached.reached.dues k ∙ ap (λ (ds : List (Option ℕ)). get_or ds k None) dues_same };
    room = p.reached.room;
    limit = p.reached.limit;
    unfull = p.reached.unfull;
    retired = p.reached.retired;
    few =
        let one : length chosen ≤ 1 = one_at_most (is_selected_in (lined_setting line setting) engine.guest) 0 in
        let some : 1 ≤ many engine.schedule = some_due in
        omega (arith, one, some);
    within = p.reached.within;
  }

  holds_new : Holds credits (standing y (events_of engine))
  unfolding cost
  holds_new =
      let a = first_is x whole in
      let b = first_is y whole in
      let was : Holds credits (record (ready x whole) { starts = a.0 }) = subst (Holds credits) (ap (standing x) zeroth ∙ a.1) p.holds in
      subst (Holds credits) (sym (ap (standing y) zeroth ∙ b.1)) (record { latest = was.latest; raised = was.raised; harts = was.harts })

  same_visits : (standing x (events_of engine)).visits ≡ (standing y (events_of engine)).visits
  same_visits =
      ap (λ (n : ℕ). (standing x n).visits) zeroth ∙ ap (λ (d : Delayed Timed). d.visits) (first_is x whole).1
      ∙ sym (ap (λ (n : ℕ). (standing y n).visits) zeroth ∙ ap (λ (d : Delayed Timed). d.visits) (first_is y whole).1)

  same_now : (standing x (events_of engine)).now ≡ (standing y (events_of engine)).now
  same_now =
      moment_zero ∙ sym (ap (λ (n : ℕ). (standing y n).now) zeroth ∙ ap (λ (d : Delayed Timed). d.now) (first_is y whole).1)

  first_begins : (before y 0).harts ≡ 0 ∷ []
  unfolding before
  first_begins = refl

  valid_new : IsSetting (lined_setting line setting)
  valid_new = record { choice = valid_with setting.choice line p.valid.choice; machine = p.valid.machine }

  pub again_paced : (new : Engine) → new ≡ new_engine → IsPaced image input (lined_setting line setting) new credits now
  again_paced new is =
      subst (λ (r : Engine). IsPaced image input (lined_setting line setting) r credits now) (sym is)
      (record {
        valid = valid_new;
        reached = reached_new;
        holds = holds_new;
        room = p.room;
        visits = p.visits ∙ same_visits;
        moment = p.moment ∙ same_now;
        soon = p.soon;
        trap = p.trap;
        made = p.made;
        selected = ap (filter (y.guest.is_selected engine.guest)) (sym (ap (λ (n : ℕ). (before y n).harts) zeroth ∙ first_begins));
      })
