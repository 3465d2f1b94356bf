-- What a turn of the shortened machine is, beside its events: what the code reads off it.
use Rattle.std.proofs.Common.{◌≡◌, ℕ, zero, suc, ◌+◌, ◌-◌, ◌≤◌, ◌∙◌, ◌==◌, if◌then◌else◌, Bool, true, false, get_or, Option, Some, None, arith, refl, sym, ap, eq-eqb, zero-add, suc-add}
use Rattle.coz_types.specs.declared.ending.Ending.{Ending}
use Rattle.machines.specs.Places.{is_among}
use Rattle.machines.specs.Guest.{Experiment, cost, cut, started_harts, IsLater, IsLawful, enough}
use Rattle.machines.specs.Shortened.{Shortened, Turn, next_turn, retire, wake, begin, unbegun, shortened}
use Rattle.machines.proofs.Harts.{cut_le}
use Rattle.machines.proofs.Short.{Lives, turn_runs, move_is, come_retires, come_wakes}
use Rattle.machines.proofs.Ends.{goes_on_at, next_is, stays}
use Rattle.critical_path.specs.Events.{Traced, work, retired, woken, after_move, untraced, traced, events_of}
use Rattle.critical_path.proofs.Recorded.{retired_at, woken_at, now, ended_after, turn_after, stands_at}

module _ {G : Type 0} (x : Experiment G) (Good : G → Type 0) (law : IsLawful x Good) (place : G → ℕ → ℕ) (n : ℕ) where
  abbrev s : Shortened G
  s = shortened x n

  abbrev w : Traced
  w = traced x place n

  pub follows : traced x place (suc n) ≡ after_move x place s w
  unfolding traced
  follows = refl

  -- the moment that a hart is begun for
  begun_for : (due : ℕ) (g : G) (k : ℕ) → due + cost x g k - cut x g k ≡ due + work x place g k
  begun_for due g k = let few = cut_le x g k law.speedup_in_range in omega arith

  -- a hart whose turn it is retires
  pub record IsRetiring (t : Turn) : Type 0 where
    pub traced_is : traced x place (suc n) ≡ retired x place t s.guest w
    pub later : IsLater t.due (x.guest.retire s.guest t.hart t.due).fate
    pub begun : (shortened x (suc n)).ending ≡ None → (k : ℕ) → is_among k (started_harts t.hart (x.guest.retire s.guest t.hart t.due)) ≡ true
        → get_or (shortened x (suc n)).dues k None ≡ Some (t.due + work x place (x.guest.retire s.guest t.hart t.due).guest k)

  -- or it wakes
  pub record IsWaking (t : Turn) : Type 0 where
    pub traced_is : traced x place (suc n) ≡ woken x place t s.guest w
    pub begun : get_or (shortened x (suc n)).dues t.hart None ≡ Some (t.due + work x place (x.guest.wake s.guest t.hart) t.hart)
    pub fits : (w.causes t.hart).slept + (w.causes t.hart).cost ≤ t.due

  module _ (t : Turn) (none : s.ending ≡ None) (is_turn : next_turn s.dues ≡ Some t) where
    lives : Lives x Good s
    lives = (goes_on_at x Good law n none).lives

    some_among : (b : Bool) (o p : Option ℕ) → b ≡ true → (if b then o else p) ≡ o
    some_among true o p is = refl
    some_among false o p is = absurd (let no : false ≡ true = is in cc)

    retires_is : x.guest.is_sleeping s.guest t.hart ≡ false → shortened x (suc n) ≡ retire x t s
    retires_is awake = next_is x Good law n ∙ move_is x Good law s t none is_turn ∙ come_retires x Good law s t awake

    wakes_is : x.guest.is_sleeping s.guest t.hart ≡ true → shortened x (suc n) ≡ wake x t s
    wakes_is asleep = next_is x Good law n ∙ move_is x Good law s t none is_turn ∙ come_wakes x Good law s t asleep

    pub retiring : x.guest.is_sleeping s.guest t.hart ≡ false → IsRetiring t
    retiring awake =
        let runs = turn_runs x Good law s t lives is_turn awake in
        let apart = law.apart s.guest t.hart t.due lives.good runs in
        let is = retires_is awake in
        record {
          traced_is = follows ∙ turn_after x Good law place s t w none is_turn ∙ ap (λ (b : Bool). if b then woken x place t s.guest w else retired x place t s.guest w) awake;
          later = law.sleeps_later s.guest t.hart t.due lives.good runs;
          begun = λ on k among.
              ap (λ (o : Shortened G). get_or o.dues k None) is
              ∙ retired_at x t s k apart (ap (λ (o : Shortened G). o.ending) (sym is) ∙ on)
              ∙ some_among (is_among k (started_harts t.hart (x.guest.retire s.guest t.hart t.due))) _ _ among
              ∙ ap (λ (d : ℕ). Some d) (begun_for t.due (x.guest.retire s.guest t.hart t.due).guest k);
        }

    pub waking : x.guest.is_sleeping s.guest t.hart ≡ true → IsWaking t
    waking asleep =
        let is = wakes_is asleep in
        let caused = (now x Good law place s t w (stands_at x Good law place n) lives none is_turn).1 in
        let due_is = caused.due_is in
        record {
          traced_is = follows ∙ turn_after x Good law place s t w none is_turn ∙ ap (λ (b : Bool). if b then woken x place t s.guest w else retired x place t s.guest w) asleep;
          begun =
              ap (λ (o : Shortened G). get_or o.dues t.hart None) is
              ∙ woken_at x t s t.hart
              ∙ some_among (if t.hart == t.hart then true else false) _ _ (rw (eq-eqb t.hart t.hart refl) refl)
              ∙ ap (λ (d : ℕ). Some d) (begun_for t.due (x.guest.wake s.guest t.hart) t.hart);
          fits = omega arith;
        }

module _ {G : Type 0} (x : Experiment G) (Good : G → Type 0) (law : IsLawful x Good) (place : G → ℕ → ℕ) where
  -- a run that has ended has no more events
  pub traced_stays : (n : ℕ) (a : Ending) → (shortened x n).ending ≡ Some a → (k : ℕ) → traced x place (k + n) ≡ traced x place n
  traced_stays n a e zero = ap (traced x place) (zero-add n)
  traced_stays n a e (suc k) =
      let so_far : traced x place (k + n) ≡ traced x place n = traced_stays n a e k in
      let over : (shortened x (k + n)).ending ≡ Some a = ap (λ (o : Shortened G). o.ending) (stays x Good law n a e k) ∙ e in
      ap (traced x place) (suc-add k n)
      ∙ follows x Good law place (k + n)
      ∙ ended_after x Good law place (shortened x (k + n)) a (traced x place (k + n)) over
      ∙ so_far

  pub all_events : (n : ℕ) (a : Ending) → n ≤ enough x → (shortened x n).ending ≡ Some a → (traced x place n).events ≡ events_of x place
  unfolding events_of
  all_events n a few e =
      let up : (enough x - n) + n ≡ enough x = omega arith in
      ap (λ (o : Traced). o.events) (sym (traced_stays n a e (enough x - n)) ∙ ap (traced x place) up)

  -- as a run begins
  pub first_traced : traced x place 0 ≡ untraced x place
  unfolding traced
  first_traced = refl

  pub first_due : get_or (shortened x 0).dues 0 None ≡ Some (0 + work x place x.first 0)
  unfolding shortened unbegun begin
  first_due = let few = cut_le x x.first 0 law.speedup_in_range in let moment : 0 + cost x x.first 0 - cut x x.first 0 ≡ 0 + work x place x.first 0 = omega arith in ap (λ (d : ℕ). Some d) moment
