-- Each move of a run on cores passes harts into the line and out of it.
use Rattle.std.proofs.Common.{◌≡◌, ℕ, suc, ◌+◌, ◌*◌, ◌&&◌, Bool, true, false, not, if◌then◌else◌, List, [], ◌∷◌, ◌++◌, refl, sym, ap, ◌∙◌, subst, Option, Some, None, append_assoc, append-nil, ⊎_elim, ne_eqb}
use Rattle.std.proofs.lemmas.Bool.{cases_eq, and_parts, not-true}
use Rattle.coz_types.specs.declared.ending.Ending.{Ending}
use Rattle.machines.specs.declared.Fate.{Fate}
use Rattle.machines.specs.declared.Fate.TheVariants.{Goes, Waits, Leaves, Sleeps, Ends}
use Rattle.machines.specs.Places.{is_among, AllApart}
use Rattle.machines.specs.Guest.{Experiment, Retirement, IsLawful, goes_on, own_ending, started_harts}
use Rattle.machines.specs.Shortened.{Shortened, Turn, next_turn, over_or, begin, retirement, leave, ending, retire, wake, come, shortened}
use Rattle.machines.proofs.Short.{Lives, move_is, no_ending, turn_runs}
use Rattle.machines.proofs.Ends.{goes_on_at, next_is}
use Rattle.machines.proofs.Rising.{time_on}
use Rattle.timing_laws.specs.Cores.{Seats, Cores, Slicing, turned_by, is_over, turned, on_cores, IsFresh, IsInLine}
use Rattle.timing_laws.proofs.Apart.{among-append, apart_join}
use Rattle.timing_laws.proofs.CoresLaw.{cores_lawful}
use Rattle.ready_ticks.specs.Ready.{course}
use Rattle.ready_ticks.specs.Waits.{Passes}
use Rattle.ready_ticks.specs.Laws.{entered_by, entering, starting}
use Rattle.ready_ticks.proofs.Moves.{line_moves}

started_apart : (b : Bool) (h : ℕ) (os : List ℕ) → AllApart (if b then h ∷ os else os) → AllApart os × (b ≡ true → is_among h os ≡ false)
started_apart true h os a = (a.1, λ e. a.0)
started_apart false h os a = (a, λ e. absurd (let no : false ≡ true = e in cc))

not_both : (b : Bool) → (b ≡ true → ⊥) → b ≡ false
not_both true n = absurd (n refl)
not_both false n = refl

apart_from : (h : ℕ) (xs : List ℕ) → is_among h xs ≡ false → (k : ℕ) → is_among k xs ≡ true → is_among k (h ∷ []) ≡ false
apart_from h xs out k e =
    ⊎_elim
    (λ (same : k ≡ h). absurd (let no : false ≡ true = sym out ∙ ap (λ n. is_among n xs) (sym same) ∙ e in cc))
    (λ (other : k ≡ h → ⊥). rw (ne_eqb k h other) refl)
    (cases_eq k h)

-- one that is neither in line nor among those that come may come to its end
joined : (h : ℕ) (line others : List ℕ) → AllApart (line ++ others) → is_among h (line ++ others) ≡ false → AllApart (line ++ (others ++ h ∷ []))
joined h line others apart out =
    subst AllApart (append_assoc line others (h ∷ []))
    (apart_join (line ++ others) (h ∷ []) (record { first = apart; second = (refl, tt); disjoint = apart_from h (line ++ others) out }))

all_apart : (h : ℕ) (own fate : Fate) (line others : List ℕ) → AllApart (line ++ others) → (goes_on own ≡ true → is_among h (line ++ others) ≡ false) → AllApart (line ++ entered_by others h own fate)
all_apart h Goes Goes line others apart out = apart
all_apart h Goes Waits line others apart out = joined h line others apart (out refl)
all_apart h Goes Leaves line others apart out = apart
all_apart h Goes (Sleeps wake) line others apart out = apart
all_apart h Goes (Ends ending) line others apart out = apart
all_apart h Waits fate line others apart out = apart
all_apart h Leaves fate line others apart out = apart
all_apart h (Sleeps wake) fate line others apart out = apart
all_apart h (Ends ending) fate line others apart out = apart

-- a guest that ends the run ends it on cores
own_none : (cores moment h : ℕ) (is_over : Bool) (others : List ℕ) (own : Fate) (s : Seats) → own_ending (turned_by cores moment h is_over others own s).fate ≡ None → own_ending own ≡ None
own_none cores moment h is_over others Goes s none = refl
own_none cores moment h is_over others Waits s none = refl
own_none cores moment h is_over others Leaves s none = refl
own_none cores moment h is_over others (Sleeps wake) s none = refl
own_none cores moment h is_over others (Ends ending) s none = none

module _ {G : Type 0} (w : Slicing G) (x : Experiment G) (Good : G → Type 0) (law : IsLawful x Good) (fresh : IsFresh x.guest Good) where
  abbrev y : Experiment (Cores G)
  y = on_cores w x

  abbrev In : Cores G → Type 0
  In = IsInLine x.guest Good

  lawful : IsLawful y In
  lawful = cores_lawful w x Good law fresh

  module _ (c : Cores G) (h v : ℕ) (i : In c) (e : (x.guest.is_running c.guest h && not (is_among h c.seats.ready)) ≡ true) where
    abbrev r : Retirement G
    r = x.guest.retire c.guest h v

    runs : x.guest.is_running c.guest h ≡ true
    runs = (and_parts (x.guest.is_running c.guest h) (not (is_among h c.seats.ready)) e).0

    out : is_among h c.seats.ready ≡ false
    out = not-true (is_among h c.seats.ready) (and_parts (x.guest.is_running c.guest h) (not (is_among h c.seats.ready)) e).1

    others : AllApart r.others × (goes_on r.fate ≡ true → is_among h r.others ≡ false)
    others = started_apart (goes_on r.fate) h r.others (law.apart c.guest h v i.good runs)

    line_apart : AllApart (c.seats.ready ++ r.others)
    line_apart = apart_join c.seats.ready r.others (record {
      first = i.apart;
      second = others.0;
      disjoint = λ k in_line. not_both (is_among k r.others) (λ other.
          let no : true ≡ false = sym (i.timed k in_line) ∙ fresh c.guest h v k i.good runs other in absurd cc);
    })

    out_of_all : goes_on r.fate ≡ true → is_among h (c.seats.ready ++ r.others) ≡ false
    out_of_all goes = among-append h c.seats.ready r.others ∙ rw (out, others.1 goes) refl

    entered_apart : AllApart (c.seats.ready ++ entered_by r.others h r.fate (turned w x.guest c h v).fate)
    entered_apart = all_apart h r.fate (turned w x.guest c h v).fate c.seats.ready r.others line_apart out_of_all

    moves_line : own_ending (turned w x.guest c h v).fate ≡ None → c.seats.ready ++ entered_by r.others h r.fate (turned w x.guest c h v).fate ≡ (turned w x.guest c h v).others ++ (turned w x.guest c h v).seats.ready
    moves_line none =
        line_moves w.cores (v + 100 * w.slice) h (is_over w x.guest c h v) r.others r.fate c.seats
        (own_none w.cores (v + 100 * w.slice) h (is_over w x.guest c h v) r.others r.fate c.seats none)

  -- what a turn does to the line, of a hart that sleeps or not
  abbrev MovesBy : Bool → Shortened (Cores G) → Turn → Shortened (Cores G) → Type 0
  MovesBy sleeps s t new =
      (s.guest.seats.ready ++ (if sleeps then [] else entered_by (x.guest.retire s.guest.guest t.hart t.due).others t.hart (x.guest.retire s.guest.guest t.hart t.due).fate (turned w x.guest s.guest t.hart t.due).fate)
      ≡ (if sleeps then [] else (turned w x.guest s.guest t.hart t.due).others) ++ new.guest.seats.ready)
      × AllApart (s.guest.seats.ready ++ (if sleeps then [] else entered_by (x.guest.retire s.guest.guest t.hart t.due).others t.hart (x.guest.retire s.guest.guest t.hart t.due).fate (turned w x.guest s.guest t.hart t.due).fate))

  retired_line : (s : Shortened (Cores G)) (t : Turn) → In s.guest → y.guest.is_running s.guest t.hart ≡ true → (retire y t s).ending ≡ None → MovesBy false s t (retire y t s)
  unfolding retire ending leave retirement begin
  retired_line s t good runs none = by (ending y t s) refl none
    where
      by : (o : Option Ending) → ending y t s ≡ o → (over_or o (leave y t s) (begin y (started_harts t.hart (retirement y t s)) t.due (leave y t s))).ending ≡ None
          → MovesBy false s t (over_or o (leave y t s) (begin y (started_harts t.hart (retirement y t s)) t.due (leave y t s)))
      by None is goes = (moves_line s.guest t.hart t.due good runs (no_ending y (retirement y t s) _ _ _ is).own, entered_apart s.guest t.hart t.due good runs)
      by (Some a) is goes = let no : ◌≡◌ {A = Option Ending} (Some a) None = goes in absurd cc

  woken_line : (s : Shortened (Cores G)) (t : Turn) → In s.guest → MovesBy true s t (wake y t s)
  unfolding wake begin
  woken_line s t good = (append-nil s.guest.seats.ready, subst AllApart (sym (append-nil s.guest.seats.ready)) good.apart)

  come_line : (s : Shortened (Cores G)) (t : Turn) → Lives y In s → next_turn s.dues ≡ Some t → (come y t s).ending ≡ None → MovesBy (y.guest.is_sleeping s.guest t.hart) s t (come y t s)
  unfolding come
  come_line s t lives turn none = by (y.guest.is_sleeping s.guest t.hart) refl none
    where
      by : (b : Bool) → y.guest.is_sleeping s.guest t.hart ≡ b → (if b then wake y t s else retire y t s).ending ≡ None → MovesBy b s t (if b then wake y t s else retire y t s)
      by true asleep goes = woken_line s t lives.good
      by false awake goes = retired_line s t lives.good (turn_runs y In lawful s t lives turn awake) goes

  pub run_passes : (n : ℕ) (t : Turn) → (shortened y n).ending ≡ None → (shortened y (suc n)).ending ≡ None → next_turn (shortened y n).dues ≡ Some t
      → Passes (course y) n (shortened y (suc n)).time (entering w x (shortened y n).guest t) (starting w x (shortened y n).guest t)
  run_passes n t goes none turn =
      let s : Shortened (Cores G) = shortened y n in
      let moved : shortened y (suc n) ≡ come y t s = next_is y In lawful n ∙ move_is y In lawful s t goes turn in
      let by : MovesBy (y.guest.is_sleeping s.guest t.hart) s t (come y t s) = come_line s t (goes_on_at y In lawful n goes).lives turn (ap (λ (o : Shortened (Cores G)). o.ending) (sym moved) ∙ none) in
      record {
        moment = refl;
        later = time_on y In lawful n;
        line = by.0 ∙ ap (λ (o : Shortened (Cores G)). starting w x s.guest t ++ o.guest.seats.ready) (sym moved);
        apart = by.1;
      }
