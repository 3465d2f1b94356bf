-- One move of the engine, from its calls.
use Rattle.std.proofs.Common.{◌≡◌, ℕ, ◌+◌, ◌^◌, ◌≤◌, ◌<◌, false, List, [], ◌∷◌, ◌++◌, length, nat_le, true, Option, Some, None, IsSome, is_some, if◌then◌else◌, refl, ap, subst, sym, ◌∙◌, arith}
use Rattle.std.proofs.lemmas.Bool.Decides.{nat_tests}
use Rattle.std.proofs.lemmas.List.{length-set}
use Rattle.coz_types.specs.declared.ending.Ending.{Ending}
use Rattle.hart_schedule.specs.Keys.{Keys, key_of, with_key, without_key, IsLeast}
use Rattle.machines.specs.declared.Fate.{Fate}
use Rattle.machines.specs.Guest.{Retirement, goes_on}
use Rattle.progress_points.specs.Points.{point_of}
use Rattle.timed_guest.specs.Guest.{Timed, pc_of, is_running, is_sleeping, with_wake}
use Rattle.timed_guest.specs.Retire.{retire}
use Rattle.timed_guest.proofs.Law.{sleeps_few, running_awake}
use Rattle.run_engine.specs.declared.choice.Setting.{Setting}
use Rattle.run_engine.specs.declared.engine.Engine.{Engine}
use Rattle.run_engine.specs.Visits.{Visits, visits_of}
use Rattle.run_engine.specs.Begin.{started_by, keys_at_rest, many, AreIdle, AreBegun}
use Rattle.run_engine.specs.Ending.{ending_of, runs_after}
use Rattle.run_engine.specs.Run.{is_selected_in, selected_of, ticks_in}
use Rattle.run_engine.specs.Engine.{events_of, AreWithin, IsSteady}
use Rattle.run_engine.specs.Advance.{told_in, IsRetired, IsCompleted, IsWoken}
use Rattle.run_engine.proofs.Keys.{has_place, rested_length}
use Rattle.run_engine.proofs.Many.{many_with, many_without}
use Rattle.run_engine.proofs.Begin.{within_begun, within_left, within_later, left_runs, many_rested, woken_begun, one_at_most}
use Rattle.run_engine.proofs.Law.{IsTurn, started_idle, woken_idle, none_own, none_full}
use Rattle.run_engine.proofs.Moves.{IsMove, engine_of, woken_engine, outcome, net_kept, ended, goes, woken}

-- the calls of a move up to the judging of its ending
pub record IsLeft (setting : Setting) (engine : Engine) (left : Keys) (h due delay : ℕ) (after : Timed) (fate : Fate) (others : List ℕ) (now : Visits) (address : ℕ) (e : Option Ending) : Type 0 where
  pub steady : IsSteady engine
  pub running : is_running engine.guest h ≡ true
  pub turn : key_of engine.schedule h ≡ Some due
  pub first : IsLeast engine.schedule h
  pub taken : left ≡ keys_at_rest h fate engine.schedule
  pub place : address ≡ pc_of engine.guest h
  pub retires : outcome after fate others ≡ retire engine.guest h due
  pub keeps : now ≡ record engine.visits { kept = engine.visits.kept ++ visits_of (point_of setting.points.now address) h (due + delay) delay }
  pub ends : e ≡ ending_of fate (nat_le setting.choice.output_limit (length after.guest.output)) (nat_le setting.choice.visit_limit (length now.kept)) (runs_after fate others left) (engine.retired + 1) setting.choice.budget

-- n visits are not full
below_limit : (limit count : ℕ) → nat_le limit count ≡ false → count < limit
below_limit limit count e = grind (arith, nat_tests)

pub not_some : (e : Option Ending) → e ≡ None → IsSome e → ⊥
not_some None is some = let no : false ≡ true = some in let never : ⊥ = cc in never
not_some (Some a) is some = let no : ⊥ = cc in no

-- how the run ends, by the schedule that the hart has left, if it does
pub told_left : (setting : Setting) (engine : Engine) (fate : Fate) (h : ℕ) (left : Keys) → left ≡ (if goes_on fate then engine.schedule else keys_at_rest h fate engine.schedule) → told_in setting fate engine left ≡ told_in setting fate engine (keys_at_rest h fate engine.schedule)
told_left setting engine fate h left is =
    ap (λ runs. ending_of fate (nat_le setting.choice.output_limit (length engine.guest.guest.output)) (nat_le setting.choice.visit_limit (length engine.visits.kept)) runs engine.retired setting.choice.budget) (left_runs fate engine.started h engine.schedule left is)

module _ (setting : Setting) (engine : Engine) (left : Keys) (h due delay : ℕ) (after : Timed) (fate : Fate) (others : List ℕ) (now : Visits) (address : ℕ) (e : Option Ending) (l : IsLeft setting engine left h due delay after fate others now address e) where
  move_is : IsMove setting engine left h due after fate others now.kept e
  move_is = record {
    goes = l.steady.goes;
    turn = l.turn;
    first = l.first;
    taken = l.taken;
    retires = l.retires;
    was_awake = running_awake engine.guest h l.running;
    visits =
        net_kept engine.visits.kept now.kept (point_of setting.points.now (pc_of engine.guest h)) h due delay
        (ap (λ (vs : Visits). vs.kept) l.keeps ∙ ap (λ (a : ℕ). engine.visits.kept ++ visits_of (point_of setting.points.now a) h (due + delay) delay) l.place);
    ends = l.ends;
  }

  -- if the run goes on, the harts that the move started can begin
  pub idle_then : e ≡ None → AreIdle after left (started_by h fate others)
  idle_then none =
      let turn : IsTurn engine.guest engine.schedule h due = record { orderly = l.steady.orderly; timed = l.steady.timed; running = l.running; room = l.steady.room; turn = l.turn } in
      let own = none_own fate (nat_le setting.choice.output_limit (length after.guest.output)) (nat_le setting.choice.visit_limit (length now.kept)) (runs_after fate others left) (engine.retired + 1) setting.choice.budget (sym l.ends ∙ none) in
      subst (λ (keys : Keys). AreIdle after keys (started_by h fate others)) (sym l.taken) (started_idle engine.guest engine.schedule h due after fate others turn l.retires own)

  -- one hart less is due, or none
  many_left : many engine.schedule ≤ many left + 1
  many_left = subst (λ (keys : Keys). many engine.schedule ≤ many keys + 1) (sym l.taken) (many_rested fate engine.schedule h due l.turn)

  -- a wake is soon
  soon_left : (moment : ℕ) → 10 ^ 16 ≤ moment → AreWithin moment engine.schedule → AreWithin moment left
  soon_left moment more within =
      within_left engine.schedule left h moment fate (has_place engine.schedule h due l.turn) l.taken
      (λ v sleeps. let few : v ≤ 10 ^ 16 = sleeps_few engine.guest h due l.steady.orderly l.running v (ap (λ (r : Retirement Timed). r.fate) (sym l.retires) ∙ sleeps) in omega (arith, few, more))
      within

  keeps_at : now ≡ record engine.visits { kept = engine.visits.kept ++ visits_of (point_of setting.points.now (pc_of engine.guest h)) h (due + delay) delay }
  keeps_at = l.keeps ∙ ap (λ (a : ℕ). record engine.visits { kept = engine.visits.kept ++ visits_of (point_of setting.points.now a) h (due + delay) delay }) l.place

  ends_at : e ≡ ending_of fate (nat_le setting.choice.output_limit (length after.guest.output)) (nat_le setting.choice.visit_limit (length now.kept)) (runs_after fate others (keys_at_rest h fate engine.schedule)) (engine.retired + 1) setting.choice.budget
  ends_at = l.ends ∙ ap (λ (keys : Keys). ending_of fate (nat_le setting.choice.output_limit (length after.guest.output)) (nat_le setting.choice.visit_limit (length now.kept)) (runs_after fate others keys) (engine.retired + 1) setting.choice.budget) l.taken

  unfull_then : e ≡ None → length now.kept < setting.choice.visit_limit
  unfull_then none =
      below_limit setting.choice.visit_limit (length now.kept)
      (none_full fate (nat_le setting.choice.output_limit (length after.guest.output)) (nat_le setting.choice.visit_limit (length now.kept)) (runs_after fate others left) (engine.retired + 1) setting.choice.budget (sym l.ends ∙ none))

  -- the run goes on
  pub advance_goes : (new : Keys) (chosen : List ℕ) (starts : ℕ) → e ≡ None → setting.choice.speedup ≤ 95 → AreBegun (ticks_in setting after) due (started_by h fate others) left new
      → chosen ≡ selected_of setting after (started_by h fate others) → length new ≡ 256 → starts ≡ engine.starts + length chosen → length chosen + many left ≤ many new
      → IsRetired setting engine h fate delay (engine_of due after new others chosen now (engine.retired + 1) engine.wakes starts e)
  advance_goes new chosen starts none small begun selected room counted few = record {
    moved = λ first dues are.
        goes setting first engine left h due after fate others now.kept e move_is dues are new chosen now.limit starts none small (idle_then none).apart begun
        (counted ∙ ap (λ (hs : List ℕ). engine.starts + length hs) selected);
    turn = l.turn;
    first = l.first;
    running = l.running;
    retires = l.retires;
    visits = keeps_at;
    ending = ends_at;
    unfull = unfull_then;
    selected = λ _. selected;
    none_selected = λ some. absurd (not_some e none some);
    room = room;
    retired = refl;
    wakes = refl;
    few =
        let less : many engine.schedule ≤ many left + 1 = many_left in
        let before : engine.starts ≤ events_of engine + many engine.schedule = l.steady.few in
        omega (arith, less, before, counted, few);
    within = λ most few moment more within.
        let soon = soon_left moment more within in
        within_begun most (ticks_in setting after) due (started_by h fate others) left new moment few begun (within h due l.turn) soon;
  }

  -- the run ends with the move
  pub advance_ended : (a : Ending) (chosen : List ℕ) → e ≡ Some a → chosen ≡ [] → IsRetired setting engine h fate delay (engine_of due after left others chosen now (engine.retired + 1) engine.wakes engine.starts e)
  advance_ended a chosen some empty = record {
    moved = λ first dues are. ended setting first engine left h due after fate others now.kept e move_is dues are a chosen now.limit some;
    turn = l.turn;
    first = l.first;
    running = l.running;
    retires = l.retires;
    visits = keeps_at;
    ending = ends_at;
    unfull = unfull_then;
    selected = λ none. let no : ◌≡◌ {A = Option Ending} (Some a) None = sym some ∙ none in let never : ⊥ = cc in absurd never;
    none_selected = λ _. empty;
    room = ap length l.taken ∙ rested_length fate engine.schedule h ∙ l.steady.room;
    retired = refl;
    wakes = refl;
    few =
        let less : many engine.schedule ≤ many left + 1 = many_left in
        let before : engine.starts ≤ events_of engine + many engine.schedule = l.steady.few in
        omega (arith, less, before);
    within = λ most few moment more within. within_later moment (moment + most) left (omega arith) (soon_left moment more within);
  }

-- a retirement, from what its calls leave and what it then ends or begins
pub settled : (setting : Setting) (engine : Engine) (h due delay : ℕ) (after : Timed) (fate : Fate) (others chosen : List ℕ) (now : Visits) (address : ℕ) (new : Engine) → setting.choice.speedup ≤ 95 → chosen ≡ []
    → ((e : Option Ending) → e ≡ told_in setting fate (engine_of due after engine.schedule others chosen now (engine.retired + 1) engine.wakes engine.starts engine.ending) (keys_at_rest h fate engine.schedule) → IsLeft setting engine (keys_at_rest h fate engine.schedule) h due delay after fate others now address e)
    → IsCompleted setting (engine_of due after engine.schedule others chosen now (engine.retired + 1) engine.wakes engine.starts engine.ending) h fate new → IsRetired setting engine h fate delay new
settled setting engine h due delay after fate others chosen now address new small empty left s = go new.ending refl
  where
    go : (e : Option Ending) → new.ending ≡ e → IsRetired setting engine h fate delay new
    go None is =
        let none : told_in setting fate (engine_of due after engine.schedule others chosen now (engine.retired + 1) engine.wakes engine.starts engine.ending) (keys_at_rest h fate engine.schedule) ≡ None = sym s.ending ∙ is in
        let goes = (left _ refl).steady.goes in
        let b = s.begun is in
        subst (λ (engine' : Engine). IsRetired setting engine h fate delay engine') (sym b.rest)
        (advance_goes setting engine (keys_at_rest h fate engine.schedule) h due delay after fate others now address engine.ending (left engine.ending (goes ∙ sym none)) new.schedule new.selected new.starts goes small b.begun b.selected b.room b.starts b.few)
    go (Some a) is =
        subst (λ (engine' : Engine). IsRetired setting engine h fate delay engine') (sym (s.ended (ap is_some is)))
        (advance_ended setting engine (keys_at_rest h fate engine.schedule) h due delay after fate others now address new.ending (left new.ending s.ending) a chosen is empty)

-- a sleeping hart wakes, and begins
pub advance_woken : (setting : Setting) (engine : Engine) (h due : ℕ) (keys : Keys) (selected : List ℕ) (starts : ℕ) → IsSteady engine → setting.choice.speedup ≤ 95 → key_of engine.schedule h ≡ Some due → IsLeast engine.schedule h → is_sleeping engine.guest h ≡ true
    → keys ≡ with_key h (due + ticks_in setting (with_wake h engine.guest) h) (without_key h engine.schedule) → selected ≡ selected_of setting (with_wake h engine.guest) (h ∷ []) → starts ≡ engine.starts + length selected
    → IsWoken setting engine h due (woken_engine setting engine.guest engine (with_wake h engine.guest) keys selected starts)
advance_woken setting engine h due keys selected starts steady small turn first asleep is chosen counted =
    let g : Timed = with_wake h engine.guest in
    let below : h < length engine.schedule = has_place engine.schedule h due turn in
    let begun : AreBegun (ticks_in setting g) due (h ∷ []) engine.schedule keys = woken_begun (ticks_in setting g) due h engine.schedule keys below is in
    let one : length (selected_of setting g (h ∷ [])) ≤ 1 = one_at_most (is_selected_in setting g) h in
    let same : length selected ≡ length (selected_of setting g (h ∷ [])) = ap length chosen in
    let left : many engine.schedule ≡ many (without_key h engine.schedule) + 1 = many_without engine.schedule h due turn in
    let idle = woken_idle engine.guest engine.schedule h due steady.orderly asleep steady.room turn in
    let more : many keys ≡ many (without_key h engine.schedule) + 1 = ap many is ∙ many_with (without_key h engine.schedule) h (due + ticks_in setting g h) idle.below idle.absent in
    record {
      moved = λ first_guest dues are.
          woken setting first_guest engine h due keys selected starts small steady.goes turn first asleep begun (counted ∙ ap (λ (hs : List ℕ). engine.starts + length hs) chosen) dues are;
      turn = turn;
      first = first;
      asleep = asleep;
      guest = refl;
      selected = chosen;
      wakes = refl;
      room = ap length is ∙ length-set (without_key h engine.schedule) h (Some (due + ticks_in setting g h)) ∙ length-set engine.schedule h None ∙ steady.room;
      few = let before : engine.starts ≤ events_of engine + many engine.schedule = steady.few in omega (arith, before, one, same, left, more, counted);
      within = λ most few moment within. within_begun most (ticks_in setting g) due (h ∷ []) engine.schedule keys moment few begun (within h due turn) within;
      rest = refl;
    }
