-- One move of the shortened machine.
use Rattle.std.proofs.Common.{◌≡◌, ℕ, zero, suc, ◌+◌, ◌-◌, ◌*◌, ◌≤◌, Bool, ◌||◌, true, false, if◌then◌else◌, ◌==◌, nat_le, List, [], ◌∷◌, ◌++◌, map, length, get_or, replicate, Option, Some, None, option_map, refl, ap, sym, subst, ◌∙◌, arith, add-one, ne_eqb, lit<}
use Rattle.std.specs.Option.{option_to_list}
use Rattle.std.proofs.lemmas.List.{length-map, map-append}
use Rattle.coz_types.specs.declared.ending.Ending.{Ending}
use Rattle.coz_types.specs.declared.record.Visit.{Visit}
use Rattle.hart_schedule.specs.Keys.{Keys, key_of, with_key, IsLeast}
use Rattle.machines.specs.declared.Fate.{Fate}
use Rattle.machines.specs.Guest.{Experiment, Retirement, cost, cut, goes_on, started_harts, ending_after}
use Rattle.machines.specs.Places.{change, change_each, is_among, AllApart}
use Rattle.machines.specs.Delayed.{is_any}
use Rattle.machines.specs.Shortened as short
use Rattle.machines.specs.Shortened.{Shortened, NetVisit, Turn, next_turn, move, move_by, retirement, leave, ending, begin, over_or, has_due_any, unbegun, shortened}
use Rattle.machines.proofs.Maps.{change_each_at}
use Rattle.progress_points.specs.Points.{point_of}
use Rattle.timed_guest.specs.Guest.{Timed, pc_of, is_sleeping, with_wake}
use Rattle.timed_guest.specs.Retire.{retire, cycles_of_next}
use Rattle.run_engine.specs.declared.choice.Setting.{Setting}
use Rattle.run_engine.specs.declared.engine.Engine.{Engine}
use Rattle.machines.specs.KeptVisits.{net_of}
use Rattle.run_engine.specs.Visits.{Visits, visits_of}
use Rattle.run_engine.specs.Begin.{started_by, keys_at_rest, AreBegun}
use Rattle.run_engine.specs.Ending.{ending_of, runs_after}
use Rattle.run_engine.specs.Run.{timed_from, is_selected_in, selected_of, ticks_in}
use Rattle.run_engine.specs.Engine.{AreDues, state_of, IsStateOf}
use Rattle.run_engine.proofs.Keys.{with_key_at, no_keys, has_place, dues_rested, next_is, same_runs}
use Rattle.run_engine.proofs.Begin.{ticks_less}

-- a state of a run
abbrev pub state : ℕ → Timed → List (Option ℕ) → List NetVisit → ℕ → ℕ → ℕ → Option Ending → Shortened Timed
state time g dues visits retired wakes starts e = record { time = time; guest = g; dues = dues; visits = visits; retired = retired; wakes = wakes; starts = starts; ending = e }

abbrev pub outcome : Timed → Fate → List ℕ → Retirement Timed
outcome g fate others = record { guest = g; fate = fate; others = others }

-- the moments once the retiring hart stops, or sleeps
abbrev taken : ℕ → Fate → List (Option ℕ) → List (Option ℕ)
taken h fate dues = change None h (λ _. short.rest fate) dues

-- the visit of a point, if there is one, at a net time
abbrev net_visits : Option ℕ → ℕ → ℕ → List NetVisit
net_visits point h due = option_to_list (option_map (λ p. record { point = p; hart = h; time = due }) point)

-- the effect of a move with a retirement, after which the hart has this moment and there are these visits
abbrev pub moved_by : Experiment Timed → ℕ → Retirement Timed → Option ℕ → ℕ → ℕ → ℕ → List (Option ℕ) → List NetVisit → ℕ → ℕ → Shortened Timed
moved_by x h r moment due wakes starts dues visits retired count =
    let left : Shortened Timed = state due r.guest (change None h (λ _. moment) dues) visits (retired + 1) wakes starts None in
    over_or
    (ending_after x r count (is_any (started_harts h r) || has_due_any (change None h (λ _. moment) dues)) (retired + 1))
    left
    (begin x (started_harts h r) due left)

-- a hart's turn
turned : (x : Experiment Timed) (time : ℕ) (g : Timed) (dues : List (Option ℕ)) (visits : List NetVisit) (h due retired wakes starts : ℕ) → next_turn dues ≡ Some (record { hart = h; due = due }) → x.guest.is_sleeping g h ≡ false
    → move x (state time g dues visits retired wakes starts None)
    ≡ moved_by x h (x.guest.retire g h due) (short.rest (x.guest.retire g h due).fate) due wakes starts dues (visits ++ net_visits (x.guest.point g h) h due) retired (length (visits ++ net_visits (x.guest.point g h) h due))
unfolding move move_by short.come short.retire ending leave retirement
turned x time g dues visits h due retired wakes starts turn awake =
    let s : Shortened Timed = state time g dues visits retired wakes starts None in
    let t : Turn = record { hart = h; due = due } in
    ap (λ (o : Option Turn). move_by x None o s) turn ∙ ap (λ b. if b then short.wake x t s else short.retire x t s) awake

any_started : (b : Bool) (h : ℕ) (others : List ℕ) (keys dues : List (Option ℕ)) → has_due_any keys ≡ has_due_any dues
    → (is_any (if b then h ∷ others else others) || has_due_any dues) ≡ (b || is_any others || has_due_any keys)
any_started true h others keys dues same = refl
any_started false h others keys dues same = rw same refl

-- a visit with the delay that there is then is one at its net time
net_by : (point : Option ℕ) (h due delay : ℕ) → map net_of (visits_of point h (due + delay) delay) ≡ net_visits point h due
net_by None h due delay = refl
net_by (Some p) h due delay =
    let net : due + delay - delay ≡ due = omega arith in
    ap (λ (time : ℕ). net_visits (Some p) h time) net

pub net_kept : (old new : List Visit) (point : Option ℕ) (h due delay : ℕ) → new ≡ old ++ visits_of point h (due + delay) delay → map net_of new ≡ map net_of old ++ net_visits point h due
net_kept old new point h due delay is =
    ap (map net_of) is
    ∙ map-append net_of old (visits_of point h (due + delay) delay)
    ∙ ap (λ (more : List NetVisit). map net_of old ++ more) (net_by point h due delay)

begun_by : (b : Bool) (n m : ℕ) (o p : Option ℕ) → n ≡ m → o ≡ p → (if b then Some n else o) ≡ (if b then Some m else p)
begun_by true n m o p due same = ap Some due
begun_by false n m o p due same = same

-- the code's fields after a move
abbrev pub engine_of : ℕ → Timed → Keys → List ℕ → List ℕ → Visits → ℕ → ℕ → ℕ → Option Ending → Engine
engine_of time g keys others selected visits retired wakes starts e =
    record { guest = g; schedule = keys; started = others; selected = selected; visits = visits; time = time; retired = retired; wakes = wakes; starts = starts; ending = e }

-- a move as the code makes it, which leaves these keys once the retiring hart is taken out
pub record IsMove (setting : Setting) (engine : Engine) (left : Keys) (h due : ℕ) (after : Timed) (fate : Fate) (others : List ℕ) (kept : List Visit) (e : Option Ending) : Type 0 where
  pub goes : engine.ending ≡ None
  pub turn : key_of engine.schedule h ≡ Some due
  pub first : IsLeast engine.schedule h
  pub taken : left ≡ keys_at_rest h fate engine.schedule
  pub retires : outcome after fate others ≡ retire engine.guest h due
  pub was_awake : is_sleeping engine.guest h ≡ false
  pub visits : map net_of kept ≡ map net_of engine.visits.kept ++ net_visits (point_of setting.points.now (pc_of engine.guest h)) h due
  pub ends : e ≡ ending_of fate (nat_le setting.choice.output_limit (length after.guest.output)) (nat_le setting.choice.visit_limit (length kept)) (runs_after fate others left) (engine.retired + 1) setting.choice.budget

module _ (setting : Setting) (first : Timed) where
  abbrev x : Experiment Timed
  x = timed_from first (point_of setting.points.now) setting.choice

  -- the ending of the machine is that of the code
  ends_as : (g : Timed) (fate : Fate) (others : List ℕ) (h : ℕ) (keys dues : List (Option ℕ)) (count retired : ℕ) → has_due_any keys ≡ has_due_any dues
      → ending_after x (outcome g fate others) count (is_any (started_harts h (outcome g fate others)) || has_due_any dues) retired
      ≡ ending_of fate (nat_le setting.choice.output_limit (length g.guest.output)) (nat_le setting.choice.visit_limit count) (runs_after fate others keys) retired setting.choice.budget
  unfolding ending_after
  ends_as g fate others h keys dues count retired same =
      ap (λ (b : Bool). ending_of fate (nat_le setting.choice.output_limit (length g.guest.output)) (nat_le setting.choice.visit_limit count) b retired setting.choice.budget)
      (any_started (goes_on fate) h others keys dues same)

  -- the moments once these harts have begun
  abbrev due_at : Timed → ℕ → ℕ → ℕ
  due_at g due h = due + 100 * cycles_of_next g h - (if is_selected_in setting g h then setting.choice.speedup * cycles_of_next g h else 0)

  abbrev begun_dues : Timed → List ℕ → ℕ → List (Option ℕ) → List (Option ℕ)
  begun_dues g hs due dues = change_each None hs (λ h _. Some (due_at g due h)) dues

  begin_is : (time : ℕ) (g : Timed) (hs : List ℕ) (due : ℕ) (dues : List (Option ℕ)) (visits : List NetVisit) (retired wakes starts : ℕ)
      → begin x hs due (state time g dues visits retired wakes starts None) ≡ state time g (begun_dues g hs due dues) visits retired wakes (starts + length (selected_of setting g hs)) None
  unfolding begin cost cut
  begin_is time g hs due dues visits retired wakes starts = refl

  pub dues_begun : (g : Timed) (hs : List ℕ) (due : ℕ) (old new : Keys) (dues : List (Option ℕ)) → setting.choice.speedup ≤ 95 → AllApart hs → AreDues old dues → AreBegun (ticks_in setting g) due hs old new → AreDues new (begun_dues g hs due dues)
  dues_begun g hs due old new dues small apart are begun k =
      begun k
      ∙ begun_by (is_among k hs) (due + ticks_in setting g k) (due_at g due k) (key_of old k) (get_or dues k None) (ticks_less setting due g k (omega arith)) (are k)
      ∙ sym (change_each_at None hs (λ h _. Some (due_at g due h)) k dues apart)

  module _ (engine : Engine) (left : Keys) (h due : ℕ) (after : Timed) (fate : Fate) (others : List ℕ) (visits : List Visit) (e : Option Ending) (m : IsMove setting engine left h due after fate others visits e) (dues : List (Option ℕ)) (are : AreDues engine.schedule dues) where
    dues_left : AreDues left (taken h fate dues)
    dues_left = subst (λ (keys : Keys). AreDues keys (taken h fate dues)) (sym m.taken) (dues_rested fate engine.schedule dues h (has_place engine.schedule h due m.turn) are)

    abbrev rest : Shortened Timed
    rest = state due after (taken h fate dues) (map net_of visits) (engine.retired + 1) engine.wakes engine.starts None

    abbrev net : List NetVisit
    net = map net_of engine.visits.kept ++ net_visits (point_of setting.points.now (pc_of engine.guest h)) h due

    moved : move x (state_of engine dues) ≡ over_or e rest (begin x (started_by h fate others) due rest)
    moved =
        let same : has_due_any left ≡ has_due_any (taken h fate dues) = same_runs left (taken h fate dues) dues_left in
        ap (λ (o : Option Ending). move x (state engine.time engine.guest dues (map net_of engine.visits.kept) engine.retired engine.wakes engine.starts o)) m.goes
        ∙ turned x engine.time engine.guest dues (map net_of engine.visits.kept) h due engine.retired engine.wakes engine.starts (next_is engine.schedule dues h due are m.turn m.first) m.was_awake
        ∙ ap (λ (r : Retirement Timed). moved_by x h r (short.rest r.fate) due engine.wakes engine.starts dues net engine.retired (length net)) (sym m.retires)
        ∙ ap (λ (vs : List NetVisit). moved_by x h (outcome after fate others) (short.rest fate) due engine.wakes engine.starts dues vs engine.retired (length vs)) (sym m.visits)
        ∙ ap (λ (n : ℕ). moved_by x h (outcome after fate others) (short.rest fate) due engine.wakes engine.starts dues (map net_of visits) engine.retired n) (length-map visits net_of)
        ∙ ap (λ (o : Option Ending). over_or o rest (begin x (started_by h fate others) due rest))
        (ends_as after fate others h left (taken h fate dues) (length visits) (engine.retired + 1) same ∙ sym m.ends)

    -- the run ends with the move
    pub ended : (a : Ending) (selected : List ℕ) (limit : ℕ) → e ≡ Some a
        → IsStateOf (engine_of due after left others selected (record { kept = visits; limit = limit }) (engine.retired + 1) engine.wakes engine.starts e) (move x (state_of engine dues))
    ended a selected limit some =
        let is : move x (state_of engine dues) ≡ state due after (taken h fate dues) (map net_of visits) (engine.retired + 1) engine.wakes engine.starts e =
        moved
        ∙ ap (λ (o : Option Ending). over_or o rest (begin x (started_by h fate others) due rest)) some
        ∙ ap (λ (o : Option Ending). state due after (taken h fate dues) (map net_of visits) (engine.retired + 1) engine.wakes engine.starts o) (sym some) in
        subst (IsStateOf (engine_of due after left others selected (record { kept = visits; limit = limit }) (engine.retired + 1) engine.wakes engine.starts e)) (sym is)
        (record { state = refl; dues = dues_left })

    -- the run goes on
    pub goes : (new : Keys) (selected : List ℕ) (limit starts : ℕ) → e ≡ None → setting.choice.speedup ≤ 95 → AllApart (started_by h fate others) → AreBegun (ticks_in setting after) due (started_by h fate others) left new
        → starts ≡ engine.starts + length (selected_of setting after (started_by h fate others))
        → IsStateOf (engine_of due after new others selected (record { kept = visits; limit = limit }) (engine.retired + 1) engine.wakes starts e) (move x (state_of engine dues))
    goes new selected limit starts none small apart begun counted =
        let hs : List ℕ = started_by h fate others in
        let is : move x (state_of engine dues) ≡ state due after (begun_dues after hs due (taken h fate dues)) (map net_of visits) (engine.retired + 1) engine.wakes starts e =
        moved
        ∙ ap (λ (o : Option Ending). over_or o rest (begin x hs due rest)) none
        ∙ begin_is due after hs due (taken h fate dues) (map net_of visits) (engine.retired + 1) engine.wakes engine.starts
        ∙ ap (λ (n : ℕ). state due after (begun_dues after hs due (taken h fate dues)) (map net_of visits) (engine.retired + 1) engine.wakes n None) (sym counted)
        ∙ ap (λ (o : Option Ending). state due after (begun_dues after hs due (taken h fate dues)) (map net_of visits) (engine.retired + 1) engine.wakes starts o) (sym none) in
        subst (IsStateOf (engine_of due after new others selected (record { kept = visits; limit = limit }) (engine.retired + 1) engine.wakes starts e)) (sym is)
        (record { state = refl; dues = dues_begun after hs due left new (taken h fate dues) small apart dues_left begun })

  -- a sleeping hart's turn
  wakes_turn : (time : ℕ) (g : Timed) (dues : List (Option ℕ)) (visits : List NetVisit) (h due retired wakes starts : ℕ) → next_turn dues ≡ Some (record { hart = h; due = due }) → is_sleeping g h ≡ true
      → move x (state time g dues visits retired wakes starts None) ≡ begin x (h ∷ []) due (state time (with_wake h g) dues visits retired (wakes + 1) starts None)
  unfolding move move_by short.come short.wake
  wakes_turn time g dues visits h due retired wakes starts turn asleep =
      let s : Shortened Timed = state time g dues visits retired wakes starts None in
      let t : Turn = record { hart = h; due = due } in
      ap (λ (o : Option Turn). move_by x None o s) turn ∙ ap (λ b. if b then short.wake x t s else short.retire x t s) asleep

  -- the code's fields after a wake
  abbrev pub woken_engine : Engine → Timed → Keys → List ℕ → ℕ → Engine
  woken_engine engine g keys selected starts = record engine { guest = g; schedule = keys; selected = selected; wakes = engine.wakes + 1; starts = starts }

  pub woken : (engine : Engine) (h due : ℕ) (keys : Keys) (selected : List ℕ) (starts : ℕ) → setting.choice.speedup ≤ 95 → engine.ending ≡ None → key_of engine.schedule h ≡ Some due → IsLeast engine.schedule h → is_sleeping engine.guest h ≡ true
      → AreBegun (ticks_in setting (with_wake h engine.guest)) due (h ∷ []) engine.schedule keys → starts ≡ engine.starts + length (selected_of setting (with_wake h engine.guest) (h ∷ []))
      → (dues : List (Option ℕ)) → AreDues engine.schedule dues → IsStateOf (woken_engine engine (with_wake h engine.guest) keys selected starts) (move x (state_of engine dues))
  woken engine h due keys selected starts small goes turn first asleep begun counted dues are =
      let g : Timed = with_wake h engine.guest in
      let is : move x (state_of engine dues) ≡ state engine.time g (begun_dues g (h ∷ []) due dues) (map net_of engine.visits.kept) engine.retired (engine.wakes + 1) starts engine.ending =
      ap (λ (o : Option Ending). move x (state engine.time engine.guest dues (map net_of engine.visits.kept) engine.retired engine.wakes engine.starts o)) goes
      ∙ wakes_turn engine.time engine.guest dues (map net_of engine.visits.kept) h due engine.retired engine.wakes engine.starts (next_is engine.schedule dues h due are turn first) asleep
      ∙ begin_is engine.time g (h ∷ []) due dues (map net_of engine.visits.kept) engine.retired (engine.wakes + 1) engine.starts
      ∙ ap (λ (n : ℕ). state engine.time g (begun_dues g (h ∷ []) due dues) (map net_of engine.visits.kept) engine.retired (engine.wakes + 1) n None) (sym counted)
      ∙ ap (λ (o : Option Ending). state engine.time g (begun_dues g (h ∷ []) due dues) (map net_of engine.visits.kept) engine.retired (engine.wakes + 1) starts o) (sym goes) in
      subst (IsStateOf (woken_engine engine g keys selected starts)) (sym is)
      (record { state = refl; dues = dues_begun g (h ∷ []) due engine.schedule keys dues small (refl, tt) are begun })

  -- before the first move
  at_first : shortened x 0 ≡ state 0 first (Some (due_at first 0 0) ∷ []) [] 0 0 (length (selected_of setting first (0 ∷ []))) None
  unfolding shortened begin unbegun cost cut
  at_first =
      let sum : 0 + length (selected_of setting first (0 ∷ [])) ≡ length (selected_of setting first (0 ∷ [])) = omega arith in
      ap (λ (n : ℕ). state 0 first (Some (due_at first 0 0) ∷ []) [] 0 0 n None) sum

pub first_key : (v : ℕ) (keys : Keys) → keys ≡ with_key 0 v (replicate 256 None) → (k : ℕ) → key_of keys k ≡ (if k == 0 then Some v else None)
first_key v keys made k =
    ap (λ (keys : Keys). key_of keys k) made
    ∙ with_key_at (replicate 256 None) 0 v k (lit< tt)
    ∙ ap (λ (o : Option ℕ). if k == 0 then Some v else o) (no_keys 256 k)

first_due : (v w k : ℕ) (keys : Keys) → v ≡ w → key_of keys k ≡ (if k == 0 then Some v else None) → key_of keys k ≡ get_or (Some w ∷ []) k None
first_due v w zero keys same is = is ∙ ap Some same
first_due v w (suc k) keys same is = is ∙ rw (ne_eqb (suc k) 0 (λ (e : suc k ≡ 0). let no : ⊥ = omega (arith, e) in no)) refl

pub first_state : (setting : Setting) (first g : Timed) (keys : Keys) (others selected : List ℕ) (visits : Visits) (starts : ℕ) → setting.choice.speedup ≤ 95 → g ≡ first → keys ≡ with_key 0 (0 + ticks_in setting g 0) (replicate 256 None)
    → visits.kept ≡ [] → starts ≡ length (selected_of setting g (0 ∷ []))
    → IsStateOf (engine_of 0 g keys others selected visits 0 0 starts None) (shortened (timed_from first (point_of setting.points.now) setting.choice) 0)
first_state setting first g keys others selected visits starts small is made none counted =
    let due_is : 0 + ticks_in setting g 0 ≡ due_at setting first first 0 0 =
    ap (λ (g : Timed). 0 + ticks_in setting g 0) is ∙ ticks_less setting 0 first 0 (omega arith) in
    let starts_is : length (selected_of setting first (0 ∷ [])) ≡ starts = ap (λ (g : Timed). length (selected_of setting g (0 ∷ []))) (sym is) ∙ sym counted in
    let dues : List (Option ℕ) = Some (due_at setting first first 0 0) ∷ [] in
    subst (IsStateOf (engine_of 0 g keys others selected visits 0 0 starts None)) (sym (at_first setting first))
    (record {
      state =
          ap (λ (g : Timed). state 0 g dues [] 0 0 (length (selected_of setting first (0 ∷ []))) None) (sym is)
          ∙ ap (λ (n : ℕ). state 0 g dues [] 0 0 n None) starts_is
          ∙ ap (λ (vs : List Visit). state 0 g dues (map net_of vs) 0 0 starts None) (sym none);
      dues = λ k. first_due (0 + ticks_in setting g 0) (due_at setting first first 0 0) k keys due_is (first_key (0 + ticks_in setting g 0) keys made k);
    })

-- one move more
pub once_more : (x : Experiment Timed) (n m : ℕ) → m ≡ n + 1 → move x (shortened x n) ≡ shortened x m
unfolding shortened
once_more x n m next = ap (shortened x) (sym (next ∙ add-one n))
