-- Quiet retirements of one hart in a row, by the steps of its guest.
use Rattle.std.proofs.Common.{◌≡◌, ℕ, zero, suc, ◌+◌, ◌*◌, ◌^◌, ◌≤◌, ◌<◌, Bool, true, false, if◌then◌else◌, ◌==◌, nat_le, List, [], ◌∷◌, ◌++◌, length, Option, Some, None, is_some, refl, sym, ap, ap₂, subst, ◌∙◌, arith, eq-eqb, ne_eqb, ◌⊎◌, inl, inr}
use Rattle.std.proofs.lemmas.Bool.{cases_eq}
use Rattle.std.proofs.lemmas.Bool.Decides.{nat_tests}
use Rattle.std.proofs.lemmas.List.{length-set, append-nil, set-set, get_or-set_same}
use Rattle.coz_types.specs.declared.ending.Ending.{Ending}
use Rattle.coz_types.specs.declared.ending.Ending.TheVariants.{Spent}
use Rattle.cost_table.specs.Costs.{cycles_of}
use Rattle.code_words.specs.Marks.{MarkMap, is_quiet_at}
use Rattle.hart_schedule.specs.Keys.{Keys, key_of, with_key, without_key, IsEmpty, IsLeast}
use Rattle.machines.specs.declared.Fate.{Fate}
use Rattle.machines.specs.declared.Fate.TheVariants.{Goes, Waits, Leaves, Sleeps, Ends}
use Rattle.machines.specs.Guest.{Retirement, own_ending, ending_if, first_ending}
use Rattle.line_index.specs.Index.{Index, position_at}
use Rattle.progress_points.specs.Points.{point_of}
use Rattle.rv_execute.specs.declared.hart.Step.{Step}
use Rattle.rv_execute.specs.declared.hart.Step.TheVariants.{Next}
use Rattle.guest_calls.specs.Calls as own_calls
use Rattle.guest_calls.specs.Guest as guests
use Rattle.guest_calls.specs.Retire as own
use Rattle.guest_calls.specs.Retire.{step_result, step, retirement_after}
use Rattle.timing_model.specs.Timing.{IsUsual}
use Rattle.timed_guest.specs.Guest.{Timed, pc_of, is_running, is_timed}
use Rattle.timed_guest.specs.Retire.{retire, retirement}
use Rattle.timed_guest.specs.Orderly.{IsOrderly}
use Rattle.timed_guest.specs.Laws.{IsGuestAlone, with_guest}
use Rattle.timed_guest.proofs.Alone.{guest_alone}
use Rattle.timed_guest.proofs.Held.{usual_retired}
use Rattle.timed_guest.proofs.Law.{running_low, runs_alone, sleeps_few}
use Rattle.guest_calls.specs.Quiet.{after_steps, moment_after, IsQuietStep, GoesOnAt}
use Rattle.guest_calls.specs.Quiet as quiet
use Rattle.guest_calls.proofs.Steps.{step-guest, retire-after}
use Rattle.run_engine.specs.declared.choice.Setting.{Setting}
use Rattle.run_engine.specs.declared.engine.Engine.{Engine}
use Rattle.run_engine.specs.Visits.{Visits, visits_of}
use Rattle.run_engine.specs.Begin.{last_moment, many, started_by, keys_at_rest, AreIdle, AreBegun}
use Rattle.run_engine.specs.Run.{IsSetting, is_selecting, is_selected_in, selected_line, has_selected, ticks_in}
use Rattle.run_engine.specs.Engine.{IsSteady, IsOnMachine}
use Rattle.run_engine.specs.Ending.{ending_of, runs_after}
use Rattle.run_engine.specs.Advance.{told_in, IsRetired, IsCompleted}
use Rattle.run_engine.specs.Marked.{AreMarks}
use Rattle.run_engine.specs.Far.{IsQuiet, AreQuiet, IsFarRetired, HasPassed, IsLimit, AllowsQuiet}
use Rattle.run_engine.proofs.Keys.{has_place, over_key_at, without_key_at}
use Rattle.run_engine.proofs.Many.{many_with}
use Rattle.run_engine.proofs.Begin.{woken_begun}
use Rattle.run_engine.proofs.Law.{law}
use Rattle.run_engine.proofs.Grown.{counts_kept}
use Rattle.run_engine.proofs.Moves.{engine_of}
use Rattle.run_engine.proofs.Advance.{IsLeft, idle_then, advance_goes, settled}
use Rattle.run_engine.proofs.WordMarks.{plain_where}

-- a step keeps the output, and that its hart runs
pub step_output : (g : guests.Guest) (h : ℕ) → (step g h).guest.output ≡ g.output
step_output g h = step-guest (λ (after : guests.Guest). after.output ≡ g.output) g h refl (λ i. refl)

pub step_runs : (g : guests.Guest) (h : ℕ) → h < length g.harts → guests.is_running g h ≡ true → guests.is_running (step g h).guest h ≡ true
step_runs g h made runs =
    step-guest (λ (after : guests.Guest). guests.is_running after h ≡ true) g h runs
    (λ i. ap (λ hart. guests.is_running_status hart.status) (get_or-set_same g.harts h _ guests.no_hart made) ∙ runs)

-- a hart goes on quietly from here
pub record CanGoOn (setting : Setting) (engine : Engine) (h due : ℕ) : Type 0 where
  pub valid : IsSetting setting
  pub steady : IsSteady engine
  pub machine : IsOnMachine setting engine
  pub usual : IsUsual engine.guest.beside.timing
  pub turn : key_of engine.schedule h ≡ Some due
  pub first : IsLeast engine.schedule h
  pub running : is_running engine.guest h ≡ true
  pub point : point_of setting.points.now (pc_of engine.guest h) ≡ None
  pub output : nat_le setting.choice.output_limit (length engine.guest.guest.output) ≡ false
  pub visits : nat_le setting.choice.visit_limit (length engine.visits.kept) ≡ false
  pub budget : engine.retired + 1 < setting.choice.budget
  pub goes : (step engine.guest.guest h).step ≡ Next
  -- its next instruction has not the selected line
  pub plain : is_selecting setting (guests.pc_of (step engine.guest.guest h).guest h) ≡ false
  pub soon : due + 100 * cycles_of (own.next_of (step engine.guest.guest h).guest h) ≤ last_moment

still_below : (budget n : ℕ) → n < budget → nat_le budget n ≡ false
still_below budget n below = grind (arith, nat_tests)

-- a step after which the hart goes on is a retirement that does nothing else
pub goes_retires : (g : guests.Guest) (h v : ℕ) → (step g h).step ≡ Next → own_calls.retirement (step g h).guest Goes [] ≡ own.retire g h v
goes_retires g h v goes = ap (λ (next : Step). retirement_after h v (step_result (step g h).guest next)) (sym goes) ∙ retire-after g (step g h).guest h v (step g h).step refl

-- no point is there to be visited
pub none_visited : (kept : Visits) (o : Option ℕ) (h time delay : ℕ) → o ≡ None → kept ≡ record kept { kept = kept.kept ++ visits_of o h time delay }
none_visited kept o h time delay none = rw none (ap (λ visits. record kept { kept = visits }) (sym (append-nil kept.kept)))

module _ (setting : Setting) (engine : Engine) (h due : ℕ) (can : CanGoOn setting engine h due) where
  abbrev pub after : Timed
  after = with_guest (step engine.guest.guest h).guest engine.guest

  abbrev pub next : ℕ
  next = due + 100 * cycles_of (own.next_of after.guest h)

  abbrev pub rest : Keys
  rest = without_key h engine.schedule

  abbrev pub keys : Keys
  keys = with_key h next rest

  abbrev pub gone_on : Engine
  gone_on = engine_of due after keys [] [] engine.visits (engine.retired + 1) engine.wakes engine.starts None

  retires : retirement after Goes [] ≡ retire engine.guest h due
  retires = usual_retired engine.guest engine.guest h due after.guest Goes [] refl can.usual (goes_retires engine.guest.guest h due can.goes)

  alone : IsGuestAlone after
  alone = guest_alone after can.usual

  is_plain : is_selected_in setting after h ≡ false
  is_plain = alone.selected (selected_line setting.choice) h ∙ ap (λ (index : Index). has_selected (selected_line setting.choice) (position_at index) (pc_of after h)) can.machine.lines ∙ can.plain

  below : h < length engine.schedule
  below = has_place engine.schedule h due can.turn

  rest_below : h < length rest
  rest_below = subst (λ (n : ℕ). h < n) (sym (length-set engine.schedule h None)) below

  none_here : key_of rest h ≡ None
  none_here = without_key_at engine.schedule h h ∙ rw (eq-eqb h h refl) refl

  none_kept : (delay : ℕ) → engine.visits ≡ record engine.visits { kept = engine.visits.kept ++ visits_of (point_of setting.points.now (pc_of engine.guest h)) h (due + delay) delay }
  none_kept delay = none_visited engine.visits (point_of setting.points.now (pc_of engine.guest h)) h (due + delay) delay can.point

  no_ending : None ≡ ending_of Goes (nat_le setting.choice.output_limit (length after.guest.output)) (nat_le setting.choice.visit_limit (length engine.visits.kept)) true (engine.retired + 1) setting.choice.budget
  no_ending = rw (step_output engine.guest.guest h, can.output, can.visits, still_below setting.choice.budget (engine.retired + 1) can.budget) refl

  left : (delay : ℕ) → IsLeft setting engine rest h due delay after Goes [] engine.visits (pc_of engine.guest h) None
  left delay = record {
    steady = can.steady;
    running = can.running;
    turn = can.turn;
    first = can.first;
    taken = refl;
    place = refl;
    retires = retires;
    keeps = none_kept delay;
    ends = no_ending;
  }

  ticks_are : ticks_in setting after h ≡ 100 * cycles_of (own.next_of after.guest h)
  ticks_are = rw is_plain (ap (λ (n : ℕ). 100 * n) (alone.cycles h))

  begun : AreBegun (ticks_in setting after) due (h ∷ []) rest keys
  begun =
      woken_begun (ticks_in setting after) due h rest keys rest_below
      (ap (λ (n : ℕ). with_key h (due + n) rest) (sym ticks_are) ∙ ap (with_key h (due + ticks_in setting after h)) (sym (set-set engine.schedule h None None)))

  more : many keys ≡ many rest + 1
  more = many_with rest h next rest_below none_here

  same_length : length keys ≡ 256
  same_length = length-set rest h (Some next) ∙ length-set engine.schedule h None ∙ can.steady.room

  quiet_retired : (delay : ℕ) → IsRetired setting engine h Goes delay gone_on
  quiet_retired delay =
      advance_goes setting engine rest h due delay after Goes [] engine.visits (pc_of engine.guest h) None (left delay) keys [] engine.starts
      refl can.valid.choice.speedup begun (rw is_plain refl) same_length (omega arith) (omega (arith, more))

  pub quiet_one : IsQuiet setting engine gone_on
  quiet_one = record { hart = h; retired = quiet_retired; started = refl; selected = refl; starts = refl; visits = refl; goes = refl }

  key_at : (k : ℕ) → key_of keys k ≡ (if k == h then Some next else key_of engine.schedule k)
  key_at k = over_key_at engine.schedule h next k below

  pub next_turn : key_of keys h ≡ Some next
  next_turn = key_at h ∙ rw (eq-eqb h h refl) refl

  other_key : (k key : ℕ) → (k ≡ h → ⊥) → key_of keys k ≡ Some key → key_of rest k ≡ Some key
  other_key k key n has = without_key_at engine.schedule h k ∙ rw (ne_eqb k h n) (sym (rw (ne_eqb k h n) at (key_at k)) ∙ has)

  -- where no other hart comes before its next instruction
  module _ (before : (other key : ℕ) → key_of rest other ≡ Some key → (next < key) ⊎ ((next ≡ key) × (h ≤ other))) where
    least_by : (k key : ℕ) → key_of keys k ≡ Some key → (k ≡ h) ⊎ (k ≡ h → ⊥) → (next < key) ⊎ ((next ≡ key) × (h ≤ k))
    least_by k key has (inl same) =
        let is : Some next ≡ Some key = sym next_turn ∙ ap (key_of keys) (sym same) ∙ has in
        let eq : next ≡ key = cc in
        inr (eq, omega (arith, same))
    least_by k key has (inr n) = before k key (other_key k key n has)

    pub next_first : IsLeast keys h
    next_first = record { key = next; has = next_turn; least = λ k key has. least_by k key has (cases_eq k h) }

  timed_by : (k : ℕ) → (k ≡ h) ⊎ (k ≡ h → ⊥) → is_timed after k ≡ is_some (key_of keys k)
  timed_by k (inl same) = rw (key_at k, eq-eqb k h same) (subst (λ (r : Retirement Timed). is_timed r.guest k ≡ true) (sym retires) (subst (λ (r : Retirement Timed). is_timed (retire engine.guest h due).guest k ≡ true) retires ((law engine.guest.beside.timing engine.guest.index).running engine.guest h due can.steady.orderly can.running (ap (λ (r : Retirement Timed). is_some (own_ending r.fate)) (sym retires)) k ∙ (rw (← retires, eq-eqb k h same) refl))))
  timed_by k (inr n) = rw (key_at k, ne_eqb k h n) (subst (λ (r : Retirement Timed). is_timed r.guest k ≡ is_some (key_of engine.schedule k)) (sym retires) ((law engine.guest.beside.timing engine.guest.index).running engine.guest h due can.steady.orderly can.running (ap (λ (r : Retirement Timed). is_some (own_ending r.fate)) (sym retires)) k ∙ (rw (← retires, ne_eqb k h n) (can.steady.timed k))))

  within_by : (k key : ℕ) → key_of keys k ≡ Some key → (k ≡ h) ⊎ (k ≡ h → ⊥) → key ≤ last_moment
  within_by k key has (inl same) =
      let is : Some next ≡ Some key = sym next_turn ∙ ap (key_of keys) (sym same) ∙ has in
      let eq : next ≡ key = cc in
      omega (arith, can.soon, eq)
  within_by k key has (inr n) = can.steady.within k key (sym (rw (ne_eqb k h n) at (key_at k)) ∙ has)

  few_retired : engine.retired + 1 ≤ 2 ^ 60
  few_retired = omega (arith, can.budget, can.valid.choice.few)

  pub still_steady : IsSteady gone_on
  still_steady = record {
    goes = refl;
    orderly = subst (λ (r : Retirement Timed). IsOrderly r.guest) (sym retires) ((law engine.guest.beside.timing engine.guest.index).stays_good engine.guest h due can.steady.orderly can.running);
    timed = λ k. timed_by k (cases_eq k h);
    some_hart = λ empty. let no : ◌≡◌ {A = Option ℕ} None (Some next) = sym (empty h) ∙ next_turn in let never : ⊥ = cc in never;
    room = same_length;
    unfull = can.steady.unfull;
    within = λ k key has. within_by k key has (cases_eq k h);
    retired = few_retired;
    wakes = can.steady.wakes;
    few = (quiet_retired 0).few;
    counts = counts_kept (engine.retired + engine.wakes) (engine.retired + 1 + engine.wakes) (omega arith) engine.guest after.guest can.steady.counts;
  }

  pub still_machine : IsOnMachine setting gone_on
  still_machine = record { timing = can.machine.timing; lines = can.machine.lines }

  pub still_running : is_running after h ≡ true
  still_running = (alone.running still_steady.orderly h) ∙ step_runs engine.guest.guest h (running_low engine.guest h can.steady.orderly can.running).0 (runs_alone engine.guest h can.running)

-- what follows a retirement is the same whatever key its hart had
rest_alike : (fate : Fate) (h : ℕ) (old new : Keys) → without_key h old ≡ without_key h new → keys_at_rest h fate old ≡ keys_at_rest h fate new
rest_alike Goes h old new same = same
rest_alike Waits h old new same = same
rest_alike Leaves h old new same = same
rest_alike (Sleeps moment) h old new same = ap (with_key h moment) same
rest_alike (Ends ending) h old new same = same

completed_alike : (setting : Setting) (time : ℕ) (g : Timed) (keys keys' : Keys) (others chosen : List ℕ) (kept : Visits) (retired wakes starts : ℕ) (e : Option Ending) (h : ℕ) (fate : Fate) (new : Engine)
    → keys_at_rest h fate keys ≡ keys_at_rest h fate keys'
    → IsCompleted setting (engine_of time g keys others chosen kept retired wakes starts e) h fate new → IsCompleted setting (engine_of time g keys' others chosen kept retired wakes starts e) h fate new
completed_alike setting time g keys keys' others chosen kept retired wakes starts e h fate new same did = record {
  ending = did.ending ∙ ap (told_in setting fate (engine_of time g keys others chosen kept retired wakes starts e)) same;
  ended = λ some. did.ended some ∙ ap (λ (left : Keys). engine_of time g left others chosen kept retired wakes starts new.ending) same;
  begun = λ none.
      let b = did.begun none in
      record {
        begun = subst (λ (left : Keys). AreBegun (ticks_in setting g) time (started_by h fate others) left new.schedule) same b.begun;
        selected = b.selected;
        room = b.room;
        starts = b.starts;
        few = subst (λ (left : Keys). length new.selected + many left ≤ many new.schedule) same b.few;
        rest = b.rest;
      };
}

pub alike : {time time' : ℕ} {g g' : Timed} {keys keys' : Keys} {others others' chosen chosen' : List ℕ} {kept kept' : Visits} {retired retired' wakes wakes' starts starts' : ℕ} {e e' : Option Ending}
    → time ≡ time' → g ≡ g' → keys ≡ keys' → others ≡ others' → chosen ≡ chosen' → kept ≡ kept' → retired ≡ retired' → wakes ≡ wakes' → starts ≡ starts' → e ≡ e'
    → engine_of time g keys others chosen kept retired wakes starts e ≡ engine_of time' g' keys' others' chosen' kept' retired' wakes' starts' e'
alike a b c d f k l m n o = cc

-- the engine after some quiet retirements of a hart, the first of which was due at a net moment
pub record IsFurther (setting : Setting) (engine : Engine) (h net i : ℕ) : Type 0 where
  pub now : Engine
  pub quiet : AreQuiet setting i engine now
  pub steady : IsSteady now
  pub machine : IsOnMachine setting now
  pub guest : now.guest ≡ with_guest (after_steps i engine.guest.guest h) engine.guest
  pub turn : key_of now.schedule h ≡ Some (moment_after i engine.guest.guest h net)
  pub first : IsLeast now.schedule h
  pub running : is_running now.guest h ≡ true
  pub rest : without_key h now.schedule ≡ without_key h engine.schedule
  pub visits : now.visits ≡ engine.visits
  pub retired : now.retired ≡ engine.retired + i
  pub wakes : now.wakes ≡ engine.wakes
  pub starts : now.starts ≡ engine.starts
  pub output : now.guest.guest.output ≡ engine.guest.guest.output

-- what a stretch of retirements of a hart begins with and what is known of its steps
pub record IsStretch (setting : Setting) (engine : Engine) (marks : MarkMap) (h net limit most n : ℕ) : Type 0 where
  pub valid : IsSetting setting
  pub right : AreMarks setting marks
  pub steady : IsSteady engine
  pub machine : IsOnMachine setting engine
  pub usual : IsUsual engine.guest.beside.timing
  pub turn : key_of engine.schedule h ≡ Some net
  pub first : IsLeast engine.schedule h
  pub running : is_running engine.guest h ≡ true
  pub limited : IsLimit engine.schedule h limit
  pub soon : limit ≤ last_moment + 1
  pub allows : 1 < most → AllowsQuiet setting engine (pc_of engine.guest h) most
  pub few : n < most
  pub steps : (i : ℕ) → i < n → IsQuietStep marks limit (after_steps i engine.guest.guest h) h (moment_after i engine.guest.guest h net)

module _ (setting : Setting) (engine : Engine) (marks : MarkMap) (h net limit most n : ℕ) (s : IsStretch setting engine marks h net limit most n) where
  abbrev moment : ℕ → ℕ
  moment i = moment_after i engine.guest.guest h net

  -- no point is where a quiet retirement is
  point_at : (i : ℕ) → i ≤ n → 1 < most → point_of setting.points.now (guests.pc_of (after_steps i engine.guest.guest h) h) ≡ None
  point_at zero below some = (s.allows some).point
  point_at (suc i) below some = (plain_where setting marks (guests.pc_of (after_steps (suc i) engine.guest.guest h) h) s.right (s.steps i (omega (arith, below))).unmarked).point

  -- a hart that has gone on so far goes on from there
  can_go_on : (i : ℕ) → i ≤ n → i + 1 < most → (b : IsFurther setting engine h net i) → (step (after_steps i engine.guest.guest h) h).step ≡ Next
      → is_quiet_at marks (guests.pc_of (step (after_steps i engine.guest.guest h) h).guest h) ≡ true → moment i + quiet.ticks_of (step (after_steps i engine.guest.guest h) h).guest h ≤ last_moment → CanGoOn setting b.now h (moment i)
  can_go_on i below more b goes unmarked soon =
      let some : 1 < most = omega (arith, more) in
      let allows : AllowsQuiet setting engine (pc_of engine.guest h) most = s.allows some in
      record {
        valid = s.valid;
        steady = b.steady;
        machine = b.machine;
        usual = subst (λ (g : Timed). IsUsual g.beside.timing) (sym b.guest) s.usual;
        turn = b.turn;
        first = b.first;
        running = b.running;
        point = ap (λ (g : Timed). point_of setting.points.now (pc_of g h)) b.guest ∙ point_at i below some;
        output = ap (λ bytes. nat_le setting.choice.output_limit (length bytes)) b.output ∙ allows.output;
        visits = ap (λ (v : Visits). nat_le setting.choice.visit_limit (length v.kept)) b.visits ∙ allows.visits;
        budget = omega (arith, b.retired, more, allows.budget);
        goes = ap (λ (g : Timed). (step g.guest h).step) b.guest ∙ goes;
        plain = ap (λ (g : Timed). is_selecting setting (guests.pc_of (step g.guest h).guest h)) b.guest ∙ (plain_where setting marks (guests.pc_of (step (after_steps i engine.guest.guest h) h).guest h) s.right unmarked).line;
        soon = subst (λ (g : Timed). moment i + 100 * cycles_of (own.next_of (step g.guest h).guest h) ≤ last_moment) (sym b.guest) soon;
      }

  soon_at : (i : ℕ) → i < n → moment i + quiet.ticks_of (step (after_steps i engine.guest.guest h) h).guest h ≤ last_moment
  soon_at i below = let due : moment i + quiet.ticks_of (step (after_steps i engine.guest.guest h) h).guest h < limit = (s.steps i below).due in omega (arith, due, s.soon)

  can_at : (i : ℕ) → i < n → (b : IsFurther setting engine h net i) → CanGoOn setting b.now h (moment i)
  can_at i below b =
      let q : IsQuietStep marks limit (after_steps i engine.guest.guest h) h (moment i) = s.steps i below in
      can_go_on i (omega (arith, below)) (omega (arith, below, s.few)) b q.goes q.unmarked (soon_at i below)

  before_at : (i : ℕ) → i < n → (b : IsFurther setting engine h net i) → (other key : ℕ) → key_of (without_key h b.now.schedule) other ≡ Some key
      → let next : ℕ = moment i + 100 * cycles_of (own.next_of (step b.now.guest.guest h).guest h) in (next < key) ⊎ ((next ≡ key) × (h ≤ other))
  before_at i below b other key has =
      let q : IsQuietStep marks limit (after_steps i engine.guest.guest h) h (moment i) = s.steps i below in
      subst (λ (g : Timed). let next : ℕ = moment i + 100 * cycles_of (own.next_of (step g.guest h).guest h) in (next < key) ⊎ ((next ≡ key) × (h ≤ other))) (sym b.guest)
      (s.limited other key (moment i + quiet.ticks_of (step (after_steps i engine.guest.guest h) h).guest h) (ap (λ (keys : Keys). key_of keys other) (sym b.rest) ∙ has) q.due)

  one_further : (i : ℕ) → i < n → IsFurther setting engine h net i → IsFurther setting engine h net (suc i)
  one_further i below b =
      let can : CanGoOn setting b.now h (moment i) = can_at i below b in
      record {
        now = gone_on setting b.now h (moment i) can;
        quiet = (b.now, b.quiet, quiet_one setting b.now h (moment i) can);
        steady = still_steady setting b.now h (moment i) can;
        machine = still_machine setting b.now h (moment i) can;
        guest = ap (λ (g : Timed). with_guest (step g.guest h).guest g) b.guest;
        turn = next_turn setting b.now h (moment i) can ∙ ap (λ (g : Timed). Some (moment i + 100 * cycles_of (own.next_of (step g.guest h).guest h))) b.guest;
        first = next_first setting b.now h (moment i) can (before_at i below b);
        running = still_running setting b.now h (moment i) can;
        rest = set-set (without_key h b.now.schedule) h _ None ∙ set-set b.now.schedule h None None ∙ b.rest;
        visits = b.visits;
        retired = omega (arith, b.retired);
        wakes = b.wakes;
        starts = b.starts;
        output = step_output b.now.guest.guest h ∙ b.output;
      }

  further : (i : ℕ) → i ≤ n → IsFurther setting engine h net i
  further zero within = record {
    now = engine;
    quiet = refl;
    steady = s.steady;
    machine = s.machine;
    guest = refl;
    turn = s.turn;
    first = s.first;
    running = s.running;
    rest = refl;
    visits = refl;
    retired = omega arith;
    wakes = refl;
    starts = refl;
    output = refl;
  }
  further (suc i) within = one_further i (omega (arith, within)) (further i (omega (arith, within)))

  pub last : IsFurther setting engine h net n
  last = further n (omega arith)

  pub last_few : moment n ≤ last_moment
  last_few = last.steady.within h (moment n) last.turn

  -- the last retirement is quiet too, but another hart may be due before the next
  module _ (later : ℕ) (more : n + 1 < most) (q : GoesOnAt marks (after_steps n engine.guest.guest h) h (moment n) later) (soon : later ≤ last_moment) where
    can_last : CanGoOn setting last.now h (moment n)
    can_last = can_go_on n (omega arith) more last q.goes q.unmarked (omega (arith, q.next, soon))

    pub passed : (after : guests.Guest) (others chosen : List ℕ) (time count : ℕ) → after ≡ (step (after_steps n engine.guest.guest h) h).guest → others ≡ [] → chosen ≡ [] → time ≡ moment n → count ≡ engine.retired + (n + 1)
        → HasPassed setting engine (engine_of time (with_guest after engine.guest) (with_key h later (without_key h engine.schedule)) others chosen engine.visits count engine.wakes engine.starts engine.ending)
    passed after others chosen time count guest none empty at counted =
        let allows : AllowsQuiet setting engine (pc_of engine.guest h) most = s.allows (omega (arith, more)) in
        let here : with_guest after engine.guest ≡ with_guest (step last.now.guest.guest h).guest last.now.guest =
        ap (λ (g : guests.Guest). with_guest g engine.guest) guest ∙ ap (λ (g : Timed). with_guest (step g.guest h).guest g) (sym last.guest) in
        let next : later ≡ moment n + 100 * cycles_of (own.next_of (step last.now.guest.guest h).guest h) =
        q.next ∙ ap (λ (g : Timed). moment n + 100 * cycles_of (own.next_of (step g.guest h).guest h)) (sym last.guest) in
        let keys : with_key h later (without_key h engine.schedule) ≡ with_key h (moment n + 100 * cycles_of (own.next_of (step last.now.guest.guest h).guest h)) (without_key h last.now.schedule) =
        ap₂ (λ (k : ℕ) (rest : Keys). with_key h k rest) next (sym last.rest) in
        let retired : count ≡ last.now.retired + 1 = omega (arith, counted, last.retired) in
        let is : gone_on setting last.now h (moment n) can_last ≡ engine_of time (with_guest after engine.guest) (with_key h later (without_key h engine.schedule)) others chosen engine.visits count engine.wakes engine.starts engine.ending =
        alike (sym at) (sym here) (sym keys) (sym none) (sym empty) last.visits (sym retired) last.wakes last.starts (sym s.steady.goes) in
        subst (λ (new : Engine). HasPassed setting engine new) is (record {
          count = suc n;
          quiet = (last.now, last.quiet, quiet_one setting last.now h (moment n) can_last);
          steady = still_steady setting last.now h (moment n) can_last;
          machine = still_machine setting last.now h (moment n) can_last;
          more = omega (arith, last.retired);
          few = omega (arith, last.retired, more, allows.budget);
        })

  pub stretch_passed : (later : ℕ) (after : guests.Guest) (fate : Fate) (others chosen : List ℕ) (time count : ℕ) → time ≡ moment n → count ≡ engine.retired + (n + 1) → chosen ≡ [] → own_calls.retirement after fate others ≡ own.retire (after_steps n engine.guest.guest h) h (moment n)
      → (n + 1 < most) × GoesOnAt marks (after_steps n engine.guest.guest h) h time later → later ≤ last_moment
      → HasPassed setting engine (engine_of time (with_guest after engine.guest) (with_key h later (without_key h engine.schedule)) others chosen engine.visits count engine.wakes engine.starts engine.ending)
  stretch_passed later after fate others chosen time count at counted empty retires on soon =
      let q : GoesOnAt marks (after_steps n engine.guest.guest h) h (moment n) later = subst (λ (t : ℕ). GoesOnAt marks (after_steps n engine.guest.guest h) h t later) at on.1 in
      let is : own_calls.retirement after fate others ≡ own_calls.retirement (step (after_steps n engine.guest.guest h) h).guest Goes [] = retires ∙ sym (goes_retires (after_steps n engine.guest.guest h) h (moment n) q.goes) in
      passed later on.0 q soon after others chosen time count (ap (λ (r : Retirement guests.Guest). r.guest) is) (ap (λ (r : Retirement guests.Guest). r.others) is) empty at counted

  -- the visit of the first instruction, if there is one, is that of the last
  module _ (delay : ℕ) (kept : Visits) (keeps : kept ≡ record engine.visits { kept = engine.visits.kept ++ visits_of (point_of setting.points.now (pc_of engine.guest h)) h (net + delay) delay }) where
    one_visit : (i : ℕ) → i ≡ n → kept ≡ record engine.visits { kept = engine.visits.kept ++ visits_of (point_of setting.points.now (guests.pc_of (after_steps i engine.guest.guest h) h)) h (moment i + delay) delay }
    one_visit zero is = keeps
    one_visit (suc i) is =
        let allows : AllowsQuiet setting engine (pc_of engine.guest h) most = s.allows (omega (arith, is, s.few)) in
        let here = (plain_where setting marks (guests.pc_of (after_steps (suc i) engine.guest.guest h) h) s.right (s.steps i (omega (arith, is))).unmarked).point in
        (rw allows.point at keeps) ∙ rw here refl

    keeps_last : kept ≡ record last.now.visits { kept = last.now.visits.kept ++ visits_of (point_of setting.points.now (pc_of last.now.guest h)) h (moment n + delay) delay }
    keeps_last =
        one_visit n refl
        ∙ ap (λ (g : Timed). record engine.visits { kept = engine.visits.kept ++ visits_of (point_of setting.points.now (pc_of g h)) h (moment n + delay) delay }) (sym last.guest)
        ∙ ap (λ (v : Visits). record v { kept = v.kept ++ visits_of (point_of setting.points.now (pc_of last.now.guest h)) h (moment n + delay) delay }) (sym last.visits)

    -- what the last retirement leaves
    module _ (alone : guests.Guest) (fate : Fate) (others : List ℕ) (retires : own_calls.retirement alone fate others ≡ own.retire (after_steps n engine.guest.guest h) h (moment n)) where
      abbrev last_left : Timed
      last_left = with_guest alone engine.guest

      last_retires : retirement last_left fate others ≡ retire last.now.guest h (moment n)
      last_retires = usual_retired (with_guest (after_steps n engine.guest.guest h) engine.guest) last.now.guest h (moment n) alone fate others (sym last.guest) s.usual retires

      pub left_last : (e : Option Ending) → e ≡ ending_of fate (nat_le setting.choice.output_limit (length last_left.guest.output)) (nat_le setting.choice.visit_limit (length kept.kept)) (runs_after fate others (keys_at_rest h fate last.now.schedule)) (last.now.retired + 1) setting.choice.budget
          → IsLeft setting last.now (keys_at_rest h fate last.now.schedule) h (moment n) delay last_left fate others kept (pc_of last.now.guest h) e
      left_last e is = record {
        steady = last.steady;
        running = last.running;
        turn = last.turn;
        first = last.first;
        taken = refl;
        place = refl;
        retires = last_retires;
        keeps = keeps_last;
        ends = is;
      }

      same_rest : keys_at_rest h fate engine.schedule ≡ keys_at_rest h fate last.now.schedule
      same_rest = rest_alike fate h engine.schedule last.now.schedule (sym last.rest)

      same_count : engine.retired + (n + 1) ≡ last.now.retired + 1
      same_count = omega (arith, last.retired)

      told_last : told_in setting fate (engine_of (moment n) last_left engine.schedule others [] kept (engine.retired + (n + 1)) engine.wakes engine.starts engine.ending) (keys_at_rest h fate engine.schedule)
          ≡ ending_of fate (nat_le setting.choice.output_limit (length last_left.guest.output)) (nat_le setting.choice.visit_limit (length kept.kept)) (runs_after fate others (keys_at_rest h fate last.now.schedule)) (last.now.retired + 1) setting.choice.budget
      told_last =
          ap₂ (λ (keys : Keys) (count : ℕ). ending_of fate (nat_le setting.choice.output_limit (length last_left.guest.output)) (nat_le setting.choice.visit_limit (length kept.kept)) (runs_after fate others keys) count setting.choice.budget)
          same_rest same_count

      pub idle_last : told_in setting fate (engine_of (moment n) last_left engine.schedule others [] kept (engine.retired + (n + 1)) engine.wakes engine.starts engine.ending) (keys_at_rest h fate engine.schedule) ≡ None
          → AreIdle last_left (keys_at_rest h fate engine.schedule) (started_by h fate others)
      idle_last none =
          subst (λ (keys : Keys). AreIdle last_left keys (started_by h fate others)) (sym same_rest)
          (idle_then setting last.now (keys_at_rest h fate last.now.schedule) h (moment n) delay last_left fate others kept (pc_of last.now.guest h) _ (left_last _ refl) (sym told_last ∙ none))

      pub far_settled : (chosen : List ℕ) (new : Engine) → chosen ≡ []
          → IsCompleted setting (engine_of (moment n) last_left engine.schedule others chosen kept (engine.retired + (n + 1)) engine.wakes engine.starts engine.ending) h fate new
          → IsFarRetired setting engine h fate delay new
      far_settled chosen new empty did = (
        last.now,
        n,
        last.quiet,
        settled setting last.now h (moment n) delay last_left fate others chosen kept (pc_of last.now.guest h) new s.valid.choice.speedup empty left_last
            (subst (λ (count : ℕ). IsCompleted setting (engine_of (moment n) last_left last.now.schedule others chosen kept count last.now.wakes last.now.starts last.now.ending) h fate new) same_count
            (rw (last.wakes, last.starts, last.steady.goes, ← s.steady.goes) (completed_alike setting (moment n) last_left engine.schedule last.now.schedule others chosen kept (engine.retired + (n + 1)) engine.wakes engine.starts engine.ending h fate new same_rest did))),
      )

      pub wake_few : (v : ℕ) → fate ≡ Sleeps v → v ≤ last_moment
      wake_few v sleeps =
          let few : v ≤ 10 ^ 16 =
          sleeps_few last.now.guest h (moment n) last.steady.orderly last.running v
          (ap (λ (r : Retirement Timed). r.fate) (sym last_retires) ∙ sleeps) in
          omega (arith, few)

-- the run would not end now if a hart went on
none_spent : (t : Bool) → is_some (first_ending (ending_if t Spent ∷ [])) ≡ false → t ≡ false
none_spent true e = absurd (let no : true ≡ false = e in cc)
none_spent false e = refl

below_budget : (budget retired : ℕ) → nat_le budget retired ≡ false → retired < budget
below_budget budget retired e = grind (arith, nat_tests)

pub none_ends : (output_full visits_full : Bool) (retired budget : ℕ) → is_some (ending_of Goes output_full visits_full true retired budget) ≡ false → (output_full ≡ false) × (visits_full ≡ false) × (retired < budget)
none_ends true visits_full retired budget e = absurd (let no : true ≡ false = e in cc)
none_ends false true retired budget e = absurd (let no : true ≡ false = e in cc)
none_ends false false retired budget e = (refl, refl, below_budget budget retired (none_spent (nat_le budget retired) e))

-- how long the first hart has its turn
module _ (keys : Keys) (h second key : ℕ) (least : IsLeast (without_key h keys) second) (has : key_of (without_key h keys) second ≡ Some key) where
  same_key : least.key ≡ key
  same_key = let same : Some least.key ≡ Some key = sym least.has ∙ has in cc

  before_by : (k due other : ℕ) → due < key → (least.key < k) ⊎ ((least.key ≡ k) × (second ≤ other)) → (due < k) ⊎ ((due ≡ k) × (h ≤ other))
  before_by k due other soon (inl less) = inl (omega (arith, soon, less, same_key))
  before_by k due other soon (inr is) = inl (omega (arith, soon, is.0, same_key))

  pub limit_before : IsLimit keys h key
  limit_before other k due there soon = before_by k due other soon (least.least other k there)

  with_by : (k due other : ℕ) → h < second → due < key + 1 → (due ≡ k) ⊎ (due ≡ k → ⊥) → (least.key < k) ⊎ ((least.key ≡ k) × (second ≤ other)) → (due < k) ⊎ ((due ≡ k) × (h ≤ other))
  with_by k due other low soon same (inl less) = inl (omega (arith, soon, less, same_key))
  with_by k due other low soon (inl same) (inr is) = inr (same, omega (arith, low, is.1))
  with_by k due other low soon (inr apart) (inr is) = inl (omega (arith, soon, is.0, same_key, apart))

  pub limit_with : h < second → IsLimit keys h (key + 1)
  limit_with low other k due there soon = with_by k due other low soon (cases_eq due k) (least.least other k there)

pub limit_alone : (keys : Keys) (h limit : ℕ) → IsEmpty (without_key h keys) → IsLimit keys h limit
limit_alone keys h limit empty other k due there soon = absurd (let no : ◌≡◌ {A = Option ℕ} None (Some k) = sym (empty other) ∙ there in cc)

-- a key that is left is one of the schedule's
key_in_by : (keys : Keys) (h k key : ℕ) → key_of (without_key h keys) k ≡ Some key → (k ≡ h) ⊎ (k ≡ h → ⊥) → key_of keys k ≡ Some key
key_in_by keys h k key has (inl same) = absurd (let no : ◌≡◌ {A = Option ℕ} None (Some key) = sym (without_key_at keys h k ∙ rw (eq-eqb k h same) refl) ∙ has in cc)
key_in_by keys h k key has (inr n) = sym (without_key_at keys h k ∙ rw (ne_eqb k h n) refl) ∙ has

pub key_in : (keys : Keys) (h k key : ℕ) → key_of (without_key h keys) k ≡ Some key → key_of keys k ≡ Some key
key_in keys h k key has = key_in_by keys h k key has (cases_eq k h)
