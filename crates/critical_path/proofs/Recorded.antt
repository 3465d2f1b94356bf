-- What holds beside each state of the shortened machine, over any lawful guest.
use Rattle.std.proofs.Common.{◌≡◌, ℕ, zero, suc, ◌+◌, ◌-◌, ◌≤◌, ◌<◌, ◌++◌, ◌∙◌, ◌⊎◌, ◌==◌, if◌then◌else◌, Bool, true, false, List, [], ◌∷◌, length, get_or, Option, Some, None, inl, inr, arith, refl, sym, ap, subst, eq-eqb, ne_eqb, eqb-true}
use Rattle.std.specs.Option.{ForSome}
use Rattle.std.proofs.lemmas.Bool.{cases_eq}
use Rattle.coz_types.specs.declared.ending.Ending.{Ending}
use Rattle.machines.specs.Places.{is_among, AllApart}
use Rattle.machines.specs.Guest.{Experiment, Retirement, cost, cut, started_harts, IsLawful, enough}
use Rattle.machines.specs.Shortened.{Shortened, Turn, next_turn, over_or, retirement, leave, ending, begin, rest, retire, wake, come, unbegun, shortened}
use Rattle.machines.proofs.Maps.{change_same, change_other, change_each_at}
use Rattle.machines.proofs.Harts.{cut_le}
use Rattle.machines.proofs.Turns.{turn_has}
use Rattle.machines.proofs.Short.{Lives, turn_runs, move_is, move_over, retire_counts, wake_counts, come_by}
use Rattle.machines.proofs.Ends.{GoesOn, HasEnded, goes_or_ended, next_is, turn_by, within_budget}
use Rattle.path_chains.specs.declared.TheConstants.{MAX_EVENTS}
use Rattle.path_chains.specs.declared.event.Event.{Event}
use Rattle.path_chains.specs.Path.{event_at, last_of, Linked}
use Rattle.path_causes.specs.Causes.{no_cause, after_own, at_rest, started_with, woken_with}
use Rattle.critical_path.specs.Events.{Traced, AreBefores, work, event_of, retired, woken, after_move, after_move_by, untraced, traced, events_of}
use Rattle.critical_path.proofs.Turns.{turn_least}
use Rattle.critical_path.proofs.Grown.{Hangs, more_length, new_at, hangs_more}
use Rattle.critical_path.proofs.Traced.{IsCaused, AreCaused, HaveLatest, before_after, rest_before, comes, have_latest, before_now, started_caused, rests_caused, others_caused}

module _ {G : Type 0} (x : Experiment G) where
  pub retire_time : (t : Turn) (s : Shortened G) → (retire x t s).time ≡ t.due
  unfolding retire begin leave
  retire_time t s = go (ending x t s)
    where
      go : (o : Option Ending) → (over_or o (leave x t s) (begin x (started_harts t.hart (retirement x t s)) t.due (leave x t s))).time ≡ t.due
      go None = refl
      go (Some a) = refl

  pub wake_time : (t : Turn) (s : Shortened G) → (wake x t s).time ≡ s.time
  unfolding wake begin
  wake_time t s = refl

  leave_at : (t : Turn) (s : Shortened G) (k : ℕ) → (t.hart ≡ k) ⊎ (t.hart ≡ k → ⊥) → get_or (leave x t s).dues k None ≡ (if k == t.hart then rest (x.guest.retire s.guest t.hart t.due).fate else get_or s.dues k None)
  unfolding leave retirement
  leave_at t s k (inl same) = rw (← same, eq-eqb t.hart t.hart refl) (change_same None t.hart (λ _. rest (x.guest.retire s.guest t.hart t.due).fate) s.dues)
  leave_at t s k (inr n) = rw (ne_eqb k t.hart (λ e. n (sym e))) (change_other None t.hart k (λ _. rest (x.guest.retire s.guest t.hart t.due).fate) s.dues n)

  begun_at : (t : Turn) (s : Shortened G) (hs : List ℕ) (k : ℕ) → AllApart hs
      → get_or (begin x hs t.due (leave x t s)).dues k None
      ≡ (if is_among k hs then Some (t.due + cost x (x.guest.retire s.guest t.hart t.due).guest k - cut x (x.guest.retire s.guest t.hart t.due).guest k) else get_or (leave x t s).dues k None)
  unfolding begin leave retirement
  begun_at t s hs k apart = change_each_at None hs (λ h _. Some (t.due + cost x (x.guest.retire s.guest t.hart t.due).guest h - cut x (x.guest.retire s.guest t.hart t.due).guest h)) k (leave x t s).dues apart

  -- where the run goes on after a retirement, when each hart is due
  pub retired_at : (t : Turn) (s : Shortened G) (k : ℕ) → AllApart (started_harts t.hart (x.guest.retire s.guest t.hart t.due)) → (retire x t s).ending ≡ None
      → get_or (retire x t s).dues k None
      ≡ (if is_among k (started_harts t.hart (x.guest.retire s.guest t.hart t.due)) then Some (t.due + cost x (x.guest.retire s.guest t.hart t.due).guest k - cut x (x.guest.retire s.guest t.hart t.due).guest k)
      else (if k == t.hart then rest (x.guest.retire s.guest t.hart t.due).fate else get_or s.dues k None))
  unfolding retire retirement
  retired_at t s k apart none = go (ending x t s) none
    where
      go : (o : Option Ending) → (over_or o (leave x t s) (begin x (started_harts t.hart (x.guest.retire s.guest t.hart t.due)) t.due (leave x t s))).ending ≡ None
          → get_or (over_or o (leave x t s) (begin x (started_harts t.hart (x.guest.retire s.guest t.hart t.due)) t.due (leave x t s))).dues k None
          ≡ (if is_among k (started_harts t.hart (x.guest.retire s.guest t.hart t.due)) then Some (t.due + cost x (x.guest.retire s.guest t.hart t.due).guest k - cut x (x.guest.retire s.guest t.hart t.due).guest k)
          else (if k == t.hart then rest (x.guest.retire s.guest t.hart t.due).fate else get_or s.dues k None))
      go None e =
          begun_at t s (started_harts t.hart (x.guest.retire s.guest t.hart t.due)) k apart
          ∙ ap (λ (o : Option ℕ). if is_among k (started_harts t.hart (x.guest.retire s.guest t.hart t.due)) then Some (t.due + cost x (x.guest.retire s.guest t.hart t.due).guest k - cut x (x.guest.retire s.guest t.hart t.due).guest k) else o)
          (leave_at t s k (cases_eq t.hart k))
      go (Some a) e = let no : Some a ≡ None = e in absurd cc

  pub woken_at : (t : Turn) (s : Shortened G) (k : ℕ)
      → get_or (wake x t s).dues k None
      ≡ (if (if k == t.hart then true else false) then Some (t.due + cost x (x.guest.wake s.guest t.hart) k - cut x (x.guest.wake s.guest t.hart) k) else get_or s.dues k None)
  unfolding wake begin
  woken_at t s k = change_each_at None (t.hart ∷ []) (λ h _. Some (t.due + cost x (x.guest.wake s.guest t.hart) h - cut x (x.guest.wake s.guest t.hart) h)) k s.dues (refl, tt)

module _ {G : Type 0} (x : Experiment G) (Good : G → Type 0) (law : IsLawful x Good) (place : G → ℕ → ℕ) where
  -- beside a state of the machine
  pub record Stands (s : Shortened G) (w : Traced) : Type 0 where
    pub hangs : Hangs w.events s.time
    pub have : HaveLatest w.events w.causes
    pub caused : s.ending ≡ None → AreCaused w.events w.causes s.time s.dues
    pub count : length w.events ≡ s.retired
    pub whole : 1 ≤ length w.events → (event_at w.events (last_of w.events)).due ≡ s.time

  module _ (s : Shortened G) (t : Turn) (w : Traced) (stands : Stands s w) (lives : Lives x Good s) (none : s.ending ≡ None) (is_turn : next_turn s.dues ≡ Some t) where
    pub now : (s.time ≤ t.due) × IsCaused w.events (w.causes t.hart) t.due
    now = stands.caused none t.hart t.due (turn_has s.dues t is_turn)

    abbrev r : Retirement G
    r = x.guest.retire s.guest t.hart t.due

    abbrev e : ℕ
    e = length w.events

    abbrev events : List Event
    events = w.events ++ event_of x place t s.guest (w.causes t.hart) ∷ []

    hangs_after : Hangs events t.due
    hangs_after = hangs_more w.events (event_of x place t s.guest (w.causes t.hart)) (comes x place law.speedup_in_range t s.guest w stands.have now.1) s.time stands.hangs now.0

    have_after : HaveLatest events (retired x place t s.guest w).causes
    have_after = have_latest x place law.speedup_in_range t s.guest w stands.have

    -- of a hart, before it is begun
    own_before : (k : ℕ) (own : Bool) → (k == t.hart) ≡ own → ForSome (if own then at_rest r.fate t.due e (after_own e (w.causes k)) else w.causes k).before (λ b. (event_at events b).due ≤ t.due)
    own_before k own is b has =
        before_now x place law.speedup_in_range t s.guest w hangs_after have_after k b
        (before_after x place t r e k (w.causes k) ∙ ap (λ (o : Bool). if o then Some e else (w.causes k).before) is ∙ sym (go own) ∙ has)
      where
        go : (own : Bool) → (if own then at_rest r.fate t.due e (after_own e (w.causes k)) else w.causes k).before ≡ (if own then Some e else (w.causes k).before)
        go true = rest_before r.fate t.due e (after_own e (w.causes k))
        go false = refl

    caused_by : (k due : ℕ) (among own : Bool) → (k == t.hart) ≡ own → x.guest.is_running s.guest t.hart ≡ true
        → (if among then Some (t.due + cost x r.guest k - cut x r.guest k) else (if own then rest r.fate else get_or s.dues k None)) ≡ Some due
        → (t.due ≤ due) × IsCaused events (if among then started_with (work x place r.guest k) e (if own then at_rest r.fate t.due e (after_own e (w.causes k)) else w.causes k) else (if own then at_rest r.fate t.due e (after_own e (w.causes k)) else w.causes k)) due
    caused_by k due true own is runs has =
        let moment : t.due + cost x r.guest k - cut x r.guest k ≡ due = cc in
        started_caused x place law.speedup_in_range t s.guest w k due (if own then at_rest r.fate t.due e (after_own e (w.causes k)) else w.causes k) (own_before k own is) (sym moment)
    caused_by k due false true is runs has =
        rests_caused x place law.speedup_in_range t s.guest w r.fate due (after_own e (w.causes k)) (law.sleeps_later s.guest t.hart t.due lives.good runs)
        (λ b f. own_before k true is b (rest_before r.fate t.due e (after_own e (w.causes k)) ∙ f)) has
    caused_by k due false false is runs has =
        (turn_least s.dues t is_turn k due has, others_caused x place law.speedup_in_range t s.guest w k due stands.have (stands.caused none k due has).1)

    pub retired_stands : x.guest.is_sleeping s.guest t.hart ≡ false → Stands (retire x t s) (retired x place t s.guest w)
    retired_stands awake =
        let runs = turn_runs x Good law s t lives is_turn awake in
        let time_is : (retire x t s).time ≡ t.due = retire_time x t s in
        let apart : AllApart (started_harts t.hart r) = law.apart s.guest t.hart t.due lives.good runs in
        let length_is = more_length w.events (event_of x place t s.guest (w.causes t.hart)) in
        record {
          hangs = subst (Hangs events) (sym time_is) hangs_after;
          have = have_after;
          caused = λ on k due has.
              let by = caused_by k due (is_among k (started_harts t.hart r)) (k == t.hart) refl runs (sym (retired_at x t s k apart on) ∙ has) in
              (subst (λ (v : ℕ). v ≤ due) (sym time_is) by.0, by.1);
          count = length_is ∙ ap (λ n. n + 1) stands.count ∙ sym (retire_counts x Good law s t);
          whole = λ some.
              let last : length events - 1 ≡ length w.events = omega arith in
              ap (λ n. (event_at events n).due) last ∙ ap (λ (o : Event). o.due) (new_at w.events (event_of x place t s.guest (w.causes t.hart))) ∙ sym time_is;
        }

    woken_before : (k : ℕ) (own : Bool) → (if own then woken_with (work x place (x.guest.wake s.guest k) k) (w.causes k) else w.causes k).before ≡ (w.causes k).before
    woken_before k true = refl
    woken_before k false = refl

    woken_by : (k due : ℕ) (own : Bool) → (k == t.hart) ≡ own → (if (if own then true else false) then Some (t.due + cost x (x.guest.wake s.guest t.hart) k - cut x (x.guest.wake s.guest t.hart) k) else get_or s.dues k None) ≡ Some due
        → (s.time ≤ due) × IsCaused w.events (if own then woken_with (work x place (x.guest.wake s.guest k) k) (w.causes k) else w.causes k) due
    woken_by k due false is has = stands.caused none k due has
    woken_by k due true is has =
        let same : k ≡ t.hart = eqb-true k t.hart is in
        let moment : t.due + cost x (x.guest.wake s.guest t.hart) k - cut x (x.guest.wake s.guest t.hart) k ≡ due = cc in
        let own_moment : t.due + cost x (x.guest.wake s.guest k) k - cut x (x.guest.wake s.guest k) k ≡ due = ap (λ (h : ℕ). t.due + cost x (x.guest.wake s.guest h) k - cut x (x.guest.wake s.guest h) k) same ∙ moment in
        let few = cut_le x (x.guest.wake s.guest k) k law.speedup_in_range in
        let caused : IsCaused w.events (w.causes k) t.due = subst (λ (h : ℕ). IsCaused w.events (w.causes h) t.due) (sym same) now.1 in
        let due_is = caused.due_is in
        let no_sooner = now.0 in
        (omega arith, record { due_is = omega arith; from = caused.from; before = caused.before; first = caused.first })

    pub woken_stands : x.guest.is_sleeping s.guest t.hart ≡ true → Stands (wake x t s) (woken x place t s.guest w)
    woken_stands asleep =
        let counts = wake_counts x Good law s t in
        let time_is : (wake x t s).time ≡ s.time = wake_time x t s in
        record {
          hangs = subst (Hangs w.events) (sym time_is) stands.hangs;
          have = λ k. woken_before k (k == t.hart) ∙ stands.have k;
          caused = λ on k due has.
              let by = woken_by k due (k == t.hart) refl (sym (woken_at x t s k) ∙ has) in
              (subst (λ (v : ℕ). v ≤ due) (sym time_is) by.0, by.1);
          count = stands.count ∙ sym counts.0;
          whole = λ some. stands.whole some ∙ sym time_is;
        }

    -- on a move
    pub turned_stands : Stands (come x t s) (if x.guest.is_sleeping s.guest t.hart then woken x place t s.guest w else retired x place t s.guest w)
    unfolding come
    turned_stands = go (x.guest.is_sleeping s.guest t.hart) refl
      where
        go : (b : Bool) → x.guest.is_sleeping s.guest t.hart ≡ b → Stands (if b then wake x t s else retire x t s) (if b then woken x place t s.guest w else retired x place t s.guest w)
        go true asleep = woken_stands asleep
        go false awake = retired_stands awake

  first_before : (b : Bool) → (if b then record no_cause { cost = work x place x.first 0 } else no_cause).before ≡ None
  first_before true = refl
  first_before false = refl

  first_caused : (k due : ℕ) → get_or (Some (0 + cost x x.first 0 - cut x x.first 0) ∷ []) k None ≡ Some due → (0 ≤ due) × IsCaused [] ((untraced x place).causes k) due
  first_caused zero due has =
      let moment : 0 + cost x x.first 0 - cut x x.first 0 ≡ due = cc in
      (omega arith, record { due_is = omega arith; from = λ p e. cc; before = λ b e. cc; first = λ e. refl })
  first_caused (suc k) due has = cc

  stands_first : Stands (shortened x 0) (untraced x place)
  unfolding shortened unbegun begin
  stands_first = record {
    hangs = record {
      due = λ i below. absurd (omega arith);
      before = λ i below. absurd (omega arith);
      rising = λ i j le below. absurd (omega arith);
      by_now = λ i below. absurd (omega arith);
      befores = λ i below. absurd (omega arith);
    };
    have = λ k. first_before (k == 0);
    caused = λ none k due has. first_caused k due has;
    count = refl;
    whole = λ some. absurd (omega arith);
  }

  -- a run that has ended follows nothing more
  pub ended_after : (s : Shortened G) (a : Ending) (w : Traced) → s.ending ≡ Some a → after_move x place s w ≡ w
  ended_after s a w is = ap (λ (o : Option Ending). after_move_by x place o (next_turn s.dues) s.guest w) is

  pub turn_after : (s : Shortened G) (t : Turn) (w : Traced) → s.ending ≡ None → next_turn s.dues ≡ Some t → after_move x place s w ≡ (if x.guest.is_sleeping s.guest t.hart then woken x place t s.guest w else retired x place t s.guest w)
  turn_after s t w none is = ap (λ (o : Option Ending). after_move_by x place o (next_turn s.dues) s.guest w) none ∙ ap (λ (o : Option Turn). after_move_by x place None o s.guest w) is

  pub stands_at : (n : ℕ) → Stands (shortened x n) (traced x place n)
  unfolding traced
  stands_at zero = stands_first
  stands_at (suc n) = go (goes_or_ended x Good law n) (stands_at n)
    where
      go : HasEnded x Good law n ⊎ GoesOn x Good law n → Stands (shortened x n) (traced x place n) → Stands (shortened x (suc n)) (after_move x place (shortened x n) (traced x place n))
      go (inl over) stands =
          subst (λ (w : Traced). Stands (shortened x (suc n)) w) (sym (ended_after (shortened x n) over.0 (traced x place n) over.1))
          (subst (λ (s : Shortened G). Stands s (traced x place n)) (sym (next_is x Good law n ∙ move_over x Good law (shortened x n) over.0 over.1)) stands)
      go (inr g) stands =
          let turn = turn_by (shortened x n).dues g.lives.some_hart.0 g.lives.some_hart.1 (next_turn (shortened x n).dues) refl in
          subst (λ (w : Traced). Stands (shortened x (suc n)) w) (sym (turn_after (shortened x n) turn.0 (traced x place n) g.none turn.1))
          (subst (λ (s : Shortened G). Stands s (if x.guest.is_sleeping (shortened x n).guest turn.0.hart then woken x place turn.0 (shortened x n).guest (traced x place n) else retired x place turn.0 (shortened x n).guest (traced x place n))) (sym (next_is x Good law n ∙ move_is x Good law (shortened x n) turn.0 g.none turn.1))
          (turned_stands (shortened x n) turn.0 (traced x place n) stands g.lives g.none turn.1))

  -- within its budget, and not empty once it has ended
  abbrev IsWithin : Shortened G → Type 0
  IsWithin s = (s.retired ≤ x.budget) × ((a : Ending) → s.ending ≡ Some a → 1 ≤ s.retired)

  turn_within : (s : Shortened G) (t : Turn) → 1 ≤ x.budget → Lives x Good s → s.ending ≡ None → IsWithin (come x t s)
  turn_within s t some lives none =
      come_by x Good law IsWithin s t
      (λ asleep. let c = wake_counts x Good law s t in
      let few = still lives.within in
      (subst (λ (k : ℕ). k ≤ x.budget) (sym c.0) few, λ a ended. let no : ◌≡◌ {A = Option Ending} (Some a) None = sym ended ∙ c.2 ∙ none in cc))
      (λ awake. let c = retire_counts x Good law s t in
      let few = once_more lives.within in
      (subst (λ (k : ℕ). k ≤ x.budget) (sym c) few, λ a ended. omega arith))
    where
      still : (s.retired ≡ 0) ⊎ (s.retired < x.budget) → s.retired ≤ x.budget
      still (inl first) = omega arith
      still (inr less) = omega arith

      once_more : (s.retired ≡ 0) ⊎ (s.retired < x.budget) → s.retired + 1 ≤ x.budget
      once_more (inl first) = omega arith
      once_more (inr less) = omega arith

  first_within : IsWithin (shortened x 0)
  unfolding shortened unbegun begin
  first_within = (omega arith, λ a ended. cc)

  within_at : (n : ℕ) → 1 ≤ x.budget → IsWithin (shortened x n)
  within_at zero some = first_within
  within_at (suc n) some = go (goes_or_ended x Good law n) (within_at n some)
    where
      go : HasEnded x Good law n ⊎ GoesOn x Good law n → IsWithin (shortened x n) → IsWithin (shortened x (suc n))
      go (inl over) within = subst IsWithin (sym (next_is x Good law n ∙ move_over x Good law (shortened x n) over.0 over.1)) within
      go (inr g) within =
          let turn = turn_by (shortened x n).dues g.lives.some_hart.0 g.lives.some_hart.1 (next_turn (shortened x n).dues) refl in
          subst IsWithin (sym (next_is x Good law n ∙ move_is x Good law (shortened x n) turn.0 g.none turn.1)) (turn_within (shortened x n) turn.0 some g.lives g.none)

  -- of a whole run
  pub many_events : length (events_of x place) ≡ (shortened x (enough x)).retired
  unfolding events_of
  many_events = (stands_at (enough x)).count

  pub befores_are : AreBefores (events_of x place)
  unfolding events_of
  befores_are = (stands_at (enough x)).hangs.befores

  some_events : 1 ≤ x.budget → 1 ≤ length (events_of x place)
  some_events some =
      let over = within_budget x Good law some (goes_or_ended x Good law (enough x)) in
      let at_least = (within_at (enough x) some).1 over.0 over.1 in
      let many = many_events in
      omega arith

  pub last_due : 1 ≤ x.budget → (event_at (events_of x place) (last_of (events_of x place))).due ≡ (shortened x (enough x)).time
  unfolding events_of
  last_due some = (stands_at (enough x)).whole (some_events some)

  pub linked : 1 ≤ x.budget → x.budget ≤ MAX_EVENTS → Linked (events_of x place)
  unfolding events_of
  linked some few =
      let stands = stands_at (enough x) in
      let within = (within_at (enough x) some).0 in
      let many = many_events in
      record {
        some = some_events some;
        few = omega arith;
        rising = stands.hangs.rising;
        due = stands.hangs.due;
        before = stands.hangs.before;
      }
