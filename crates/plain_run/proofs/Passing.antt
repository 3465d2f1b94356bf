-- A retirement passes harts into the line and out of it, on each machine.
use Rattle.std.proofs.Common.{◌≡◌, ℕ, suc, ◌≤◌, Bool, true, false, if◌then◌else◌, List, [], ◌∷◌, ◌++◌, sym, ap, ap₂, ◌∙◌, subst, None, Some, append-nil, ⊎_elim}
use Rattle.std.proofs.lemmas.Bool.{cases_Bool}
use Rattle.line_index.specs.Index.{Index, position_at}
use Rattle.machines.specs.Guest.{Experiment, Retirement, IsLawful, goes_on}
use Rattle.machines.specs.Places.{AllApart}
use Rattle.machines.specs.Shortened.{Shortened, Turn, next_turn, shortened}
use Rattle.machines.proofs.Rising.{time_on}
use Rattle.guest_calls.specs.Guest as guests
use Rattle.guest_calls.specs.Orderly as own_order
use Rattle.timing_laws.specs.Noted.{Noted, Noting, noting}
use Rattle.timing_laws.specs.Cores.{Cores, Slicing, on_cores, cores_guest, turned}
use Rattle.timing_laws.specs.Laws.{AreAlike}
use Rattle.timing_laws.specs.Following.{shortened_through}
use Rattle.timing_laws.proofs.Notes.{noted_lawful}
use Rattle.timing_laws.proofs.Usual.{noted_fresh}
use Rattle.timing_model.specs.declared.timing.Timing.{Timing}
use Rattle.timing_steps.specs.State.{keeps}
use Rattle.timed_guest.specs.Guest.{Timed, is_running}
use Rattle.timed_guest.specs.Orderly.{IsOrderly}
use Rattle.timed_guest.specs.Retire.{retire}
use Rattle.timed_guest.specs.Runs.{Run, run_of, run_on, with_costs, noting_of, slicing_of, on_timing}
use Rattle.timed_guest.proofs.Law.{lawful, own_fresh, running_awake}
use Rattle.timed_guest.proofs.Follow.{costed_lawful, retires_same, timed_alike}
use Rattle.ready_ticks.specs.Ready.{Course, course}
use Rattle.ready_ticks.specs.Waits.{Passes}
use Rattle.ready_ticks.specs.Laws.{entering, starting}
use Rattle.ready_ticks.proofs.Passing.{run_passes}
use Rattle.plain_run.specs.PlainRun.{timed_course}
use Rattle.plain_run.proofs.Course.{nobody_in}

-- these harts enter with a move with which those start
pub record HasPassed (c : Course) (n now : ℕ) (started : List ℕ) : Type 0 where
  pub entered : List ℕ
  pub passes : Passes c n now entered started

started_apart : (b : Bool) (h : ℕ) (os : List ℕ) → AllApart (if b then h ∷ os else os) → AllApart os
started_apart true h os a = a.1
started_apart false h os a = a

module _ (t : Timing) (index : Index) (r : Run) (small : r.speedup ≤ 100) (n : ℕ) (hart due : ℕ)
    (goes : (shortened (run_on t index r) n).ending ≡ None) (none : (shortened (run_on t index r) (suc n)).ending ≡ None)
    (turn : next_turn (shortened (run_on t index r) n).dues ≡ Some (record { hart = hart; due = due }))
    (runs : is_running (shortened (run_on t index r) n).guest hart ≡ true)
    (time : (shortened (run_on t index r) (suc n)).time ≡ due) where
  abbrev x : Experiment Timed
  x = run_on t index r

  abbrev others : List ℕ
  others = (retire (shortened x n).guest hart due).others

  module _ (is : keeps t ≡ true) where
    abbrev costed : Experiment guests.Guest
    costed = with_costs t.costs (run_of (position_at index) r)

    abbrev notes : Noting guests.Guest
    notes = noting_of t (position_at index) r.selected

    abbrev w : Slicing (Noted guests.Guest)
    w = slicing_of t

    abbrev noted : Experiment (Noted guests.Guest)
    noted = noting notes costed

    abbrev y : Experiment (Cores (Noted guests.Guest))
    y = on_cores w noted

    abbrev f : Cores (Noted guests.Guest) → Timed
    f = on_timing t index

    alike : AreAlike y x f
    alike = timed_alike t index r is small

    same : (m : ℕ) → shortened x m ≡ shortened_through f (shortened y m)
    same m = alike.shortened_run m

    abbrev now : Cores (Noted guests.Guest)
    now = (shortened y n).guest

    abbrev at : Turn
    at = record { hart = hart; due = due }

    law : IsLawful costed own_order.IsOrderly
    law = costed_lawful (position_at index) r small t.costs

    guest_is : (shortened x n).guest ≡ f now
    guest_is = ap (λ (s : Shortened Timed). s.guest) (same n)

    passed : Passes (course y) n (shortened y (suc n)).time (entering w noted now at) (starting w noted now at)
    passed =
        run_passes w noted (λ m. own_order.IsOrderly m.guest) (noted_lawful notes costed own_order.IsOrderly law)
        (noted_fresh notes w costed own_order.IsOrderly law (own_fresh (position_at index) r)) n at
        (ap (λ (s : Shortened Timed). s.ending) (sym (same n)) ∙ goes) (ap (λ (s : Shortened Timed). s.ending) (sym (same (suc n))) ∙ none)
        (ap (λ (s : Shortened Timed). next_turn s.dues) (sym (same n)) ∙ turn)

    awake : (cores_guest w noted.guest).is_sleeping now hart ≡ false
    awake = running_awake (f now) hart (ap (λ (g : Timed). is_running g hart) (sym guest_is) ∙ runs)

    others_are : starting w noted now at ≡ others
    others_are =
        ap (λ (b : Bool). if b then [] else (turned w noted.guest now hart due).others) awake
        ∙ ap (λ (o : Retirement Timed). o.others) (sym (retires_same t index r is now hart due))
        ∙ ap (λ (g : Timed). (retire g hart due).others) (sym guest_is)

    line_is : (m : ℕ) → (course y).line m ≡ (timed_course x).line m
    line_is m = ap (λ (s : Shortened Timed). s.guest.beside.seats.ready) (sym (same m))

    moment_is : (m : ℕ) → (course y).moment m ≡ (timed_course x).moment m
    moment_is m = ap (λ (s : Shortened Timed). s.time) (sym (same m))

    pub kept_passes : HasPassed (timed_course x) n due others
    kept_passes = record {
      entered = entering w noted now at;
      passes = record {
        moment = time;
        later = subst (λ (m : ℕ). (timed_course x).moment n ≤ m) time (time_on x IsOrderly (lawful t index r small) n);
        line =
            ap (λ (l : List ℕ). l ++ entering w noted now at) (sym (line_is n))
            ∙ passed.line
            ∙ ap₂ (λ (a b : List ℕ). a ++ b) others_are (line_is (suc n));
        apart = subst (λ (l : List ℕ). AllApart (l ++ entering w noted now at)) (line_is n) passed.apart;
      };
    }

  module _ (orderly : IsOrderly (shortened x n).guest) (orderly_after : IsOrderly (shortened x (suc n)).guest)
      (machine : (shortened x n).guest.beside.timing ≡ t) (machine_after : (shortened x (suc n)).guest.beside.timing ≡ t) where
    nobody_at : (g : Timed) → IsOrderly g → g.beside.timing ≡ t → keeps t ≡ false → g.beside.seats.ready ≡ []
    nobody_at g good is none = nobody_in g.beside.seats.ready (good.nobody (ap keeps is ∙ none))

    apart : AllApart others
    apart =
        started_apart (goes_on (retire (shortened x n).guest hart due).fate) hart others
        ((lawful t index r small).apart (shortened x n).guest hart due orderly runs)

    plain_passes : keeps t ≡ false → HasPassed (timed_course x) n due others
    plain_passes none =
        let before : (shortened x n).guest.beside.seats.ready ≡ [] = nobody_at (shortened x n).guest orderly machine none in
        let after : (shortened x (suc n)).guest.beside.seats.ready ≡ [] = nobody_at (shortened x (suc n)).guest orderly_after machine_after none in
        record {
          entered = others;
          passes = record {
            moment = time;
            later = subst (λ (m : ℕ). (timed_course x).moment n ≤ m) time (time_on x IsOrderly (lawful t index r small) n);
            line = ap (λ (l : List ℕ). l ++ others) before ∙ sym (append-nil others) ∙ ap (λ (l : List ℕ). others ++ l) (sym after);
            apart = subst (λ (l : List ℕ). AllApart (l ++ others)) (sym before) apart;
          };
        }

    pub retirement_passes : HasPassed (timed_course x) n due others
    retirement_passes = ⊎_elim (λ (is : keeps t ≡ true). kept_passes is) (λ (is : keeps t ≡ false). plain_passes is) (cases_Bool (keeps t))
