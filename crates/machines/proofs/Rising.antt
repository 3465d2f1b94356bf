-- Net time never falls: no hart is due before the last retirement.
use Rattle.std.proofs.Common.{◌≡◌, ℕ, zero, suc, ◌+◌, ◌-◌, ◌<◌, ◌≤◌, Bool, true, false, if◌then◌else◌, List, [], ◌∷◌, ◌++◌, length, get_or, append-nil, refl, sym, ap, ◌∙◌, subst, arith, nat_le, leb-true, leb-false, Option, Some, None, option_map, option_to_list, ◌⊎◌, inl, inr}
use Rattle.std.specs.List.{All}
use Rattle.std.specs.List.Sorted.{IsNonDecreasingBy}
use Rattle.std.proofs.lemmas.List.Elements.{All-nil, All-cons, All-append}
use Rattle.std.proofs.lemmas.List.Sorted.{IsNonDecreasingBy-push, IsNonDecreasingBy-short}
use Rattle.coz_types.specs.declared.ending.Ending.{Ending}
use Rattle.machines.specs.declared.Fate.{Fate}
use Rattle.machines.specs.declared.Fate.TheVariants.{Goes, Waits, Leaves, Sleeps, Ends}
use Rattle.machines.specs.Places.{change, change_each}
use Rattle.machines.specs.Guest.{Experiment, cost, cut, started_harts, IsLater, IsLawful}
use Rattle.machines.specs.Shortened.{NetVisit, Shortened, Turn, before_others, next_turn, rest, over_or, begin, retirement, leave, ending, retire, wake, come, unbegun, shortened}
use Rattle.machines.proofs.Turns.{turn_has}
use Rattle.machines.proofs.Harts.{cut_le}
use Rattle.machines.proofs.Short.{Lives, turn_runs, move_is, move_over, come_by}
use Rattle.machines.proofs.Ends.{HasEnded, GoesOn, goes_or_ended, next_is, turn_at}

-- there is no such moment, or it is not before v
abbrev pub NotBefore : ℕ → Option ℕ → Type 0
NotBefore v None = Unit {0}
NotBefore v (Some due) = v ≤ due

abbrev pub NoneBefore : ℕ → List (Option ℕ) → Type 0
NoneBefore v [] = Unit {0}
NoneBefore v (due ∷ dues) = NotBefore v due × NoneBefore v dues

sooner : (v u : ℕ) (o : Option ℕ) → v ≤ u → NotBefore u o → NotBefore v o
sooner v u None l h = tt
sooner v u (Some due) l h = omega arith

none_sooner : (v u : ℕ) (dues : List (Option ℕ)) → v ≤ u → NoneBefore u dues → NoneBefore v dues
none_sooner v u [] l h = tt
none_sooner v u (due ∷ dues) l h = (sooner v u due l h.0, none_sooner v u dues l h.1)

none_at : (v : ℕ) (dues : List (Option ℕ)) (k : ℕ) → NoneBefore v dues → NotBefore v (get_or dues k None)
none_at v [] k h = tt
none_at v (due ∷ dues) zero h = h.0
none_at v (due ∷ dues) (suc k) h = none_at v dues k h.1

change_none : (v h : ℕ) (f : Option ℕ → Option ℕ) (dues : List (Option ℕ)) → ((o : Option ℕ) → NotBefore v (f o)) → NoneBefore v dues → NoneBefore v (change None h f dues)
change_none v zero f [] g n = (g None, tt)
change_none v zero f (due ∷ dues) g n = (g due, n.1)
change_none v (suc h) f [] g n = (tt, change_none v h f [] g tt)
change_none v (suc h) f (due ∷ dues) g n = (n.0, change_none v h f dues g n.1)

each_none : (v : ℕ) (hs : List ℕ) (f : ℕ → Option ℕ → Option ℕ) (dues : List (Option ℕ)) → ((h : ℕ) (o : Option ℕ) → NotBefore v (f h o)) → NoneBefore v dues → NoneBefore v (change_each None hs f dues)
each_none v [] f dues g n = n
each_none v (h ∷ hs) f dues g n = each_none v hs f (change None h (f h) dues) g (change_none v h (f h) dues (g h) n)

-- what a step on the least moment says
least_split : (d : ℕ) (u t : Turn) (ds : List (Option ℕ)) (b : Bool) → nat_le d u.due ≡ b → Some (if b then record { hart = 0; due = d } else record { hart = suc u.hart; due = u.due }) ≡ Some t
    → NoneBefore u.due ds → NoneBefore t.due (Some d ∷ ds)
least_split d u t ds true le e n =
    let same : record { hart = 0; due = d } ≡ t = cc in
    subst (λ (w : Turn). NoneBefore w.due (Some d ∷ ds)) same (let l : d ≤ u.due = leb-true _ _ le in (omega arith, none_sooner d u.due ds l n))
least_split d u t ds false le e n =
    let same : record { hart = suc u.hart; due = u.due } ≡ t = cc in
    subst (λ (w : Turn). NoneBefore w.due (Some d ∷ ds)) same (let l : u.due < d = leb-false _ _ le in (omega arith, n))

least_step : (due : Option ℕ) (ds : List (Option ℕ)) (o : Option Turn) (t : Turn) → ((u : Turn) → o ≡ Some u → NoneBefore u.due ds) → (o ≡ None → (v : ℕ) → NoneBefore v ds)
    → before_others due o ≡ Some t → NoneBefore t.due (due ∷ ds)
least_step None ds None t some none e = absurd (let no : ◌≡◌ {A = Option Turn} None (Some t) = e in cc)
least_step None ds (Some u) t some none e =
    let same : record { hart = suc u.hart; due = u.due } ≡ t = cc in
    subst (λ (w : Turn). NoneBefore w.due (None ∷ ds)) same (tt, some u refl)
least_step (Some d) ds None t some none e =
    let same : record { hart = 0; due = d } ≡ t = cc in
    subst (λ (w : Turn). NoneBefore w.due (Some d ∷ ds)) same (omega arith, none refl d)
least_step (Some d) ds (Some u) t some none e = least_split d u t ds (nat_le d u.due) refl e (some u refl)

some_turn : (due : Option ℕ) (o : Option Turn) → before_others due o ≡ None → (due ≡ None) × (o ≡ None)
some_turn None None e = (refl, refl)
some_turn None (Some t) e = absurd (let no : Some (record { hart = suc t.hart; due = t.due }) ≡ None = e in cc)
some_turn (Some due) None e = absurd (let no : Some (record { hart = 0; due = due }) ≡ None = e in cc)
some_turn (Some due) (Some t) e = absurd cc

no_turn : (dues : List (Option ℕ)) → next_turn dues ≡ None → (v : ℕ) → NoneBefore v dues
no_turn [] e v = tt
no_turn (due ∷ dues) e v = let r = some_turn due (next_turn dues) e in (subst (NotBefore v) (sym r.0) tt, no_turn dues r.1 v)

-- no hart is due before the one whose turn it is
pub least_turn : (dues : List (Option ℕ)) (t : Turn) → next_turn dues ≡ Some t → NoneBefore t.due dues
least_turn [] t e = absurd (let no : ◌≡◌ {A = Option Turn} None (Some t) = e in cc)
least_turn (due ∷ dues) t e = least_step due dues (next_turn dues) t (λ u s. least_turn dues u s) (λ none. no_turn dues none) e

rest_later : (v : ℕ) (fate : Fate) → IsLater v fate → NotBefore v (rest fate)
rest_later v Goes l = tt
rest_later v Waits l = tt
rest_later v Leaves l = tt
rest_later v (Sleeps moment) l = l
rest_later v (Ends ending) l = tt

-- no hart that runs or sleeps is due before the last retirement, and the visits' moments never fall up to it
pub record IsRising {G : Type 0} (s : Shortened G) : Type 0 where
  pub due : NoneBefore s.time s.dues
  pub rising : IsNonDecreasingBy (λ (v : NetVisit). v.time) s.visits
  pub within : All (λ (v : NetVisit). v.time ≤ s.time) s.visits

all_later : (v u : ℕ) (visits : List NetVisit) → v ≤ u → All (λ (w : NetVisit). w.time ≤ v) visits → All (λ (w : NetVisit). w.time ≤ u) visits
all_later v u visits l within k d b = let h : (get_or visits k d).time ≤ v = within k d b in omega arith

one_more : (v u : ℕ) (visits : List NetVisit) (o : Option NetVisit) → v ≤ u → ((w : NetVisit) → o ≡ Some w → w.time ≡ u)
    → IsNonDecreasingBy (λ (w : NetVisit). w.time) visits → All (λ (w : NetVisit). w.time ≤ v) visits
    → IsNonDecreasingBy (λ (w : NetVisit). w.time) (visits ++ option_to_list o) × All (λ (w : NetVisit). w.time ≤ u) (visits ++ option_to_list o)
one_more v u visits None l at rising within = rw (append-nil visits) (rising, all_later v u visits l within)
one_more v u visits (Some w) l at rising within =
    let is : w.time ≡ u = at w refl in (
      IsNonDecreasingBy-push (λ (w : NetVisit). w.time) visits w rising (λ d some. let h : (get_or visits (length visits - 1) d).time ≤ v = within (length visits - 1) d (omega arith) in omega arith),
      All-append (λ (w : NetVisit). w.time ≤ u) visits (w ∷ []) (all_later v u visits l within) (All-cons (λ (w : NetVisit). w.time ≤ u) w [] (omega arith) (All-nil (λ (w : NetVisit). w.time ≤ u))),
    )

visit_time : (h u : ℕ) (o : Option ℕ) (w : NetVisit) → option_map (λ p. record { point = p; hart = h; time = u }) o ≡ Some w → w.time ≡ u
visit_time h u None w e = absurd (let no : ◌≡◌ {A = Option NetVisit} None (Some w) = e in cc)
visit_time h u (Some p) w e = let same : record { point = p; hart = h; time = u } ≡ w = cc in sym (ap (λ (w : NetVisit). w.time) same)

module _ {G : Type 0} (x : Experiment G) (small : x.speedup ≤ 100) where
  due_later : (g : G) (h v : ℕ) → v ≤ v + cost x g h - cut x g h
  due_later g h v = omega (arith, cut_le x g h small)

  begin_rises : (hs : List ℕ) (v : ℕ) (s : Shortened G) → s.time ≤ v → IsRising s → IsRising (begin x hs v s)
  unfolding begin
  begin_rises hs v s l is = record {
    due = each_none s.time hs (λ h _. Some (v + cost x s.guest h - cut x s.guest h)) s.dues (λ h o. let e = due_later s.guest h v in omega (arith, e)) is.due;
    rising = is.rising;
    within = is.within;
  }

  leave_rises : (t : Turn) (s : Shortened G) → next_turn s.dues ≡ Some t → s.time ≤ t.due → IsLater t.due (retirement x t s).fate → IsRising s → IsRising (leave x t s)
  unfolding leave
  leave_rises t s e l later is =
      let visits = one_more s.time t.due s.visits (option_map (λ p. record { point = p; hart = t.hart; time = t.due }) (x.guest.point s.guest t.hart)) l
      (visit_time t.hart t.due (x.guest.point s.guest t.hart)) is.rising is.within in
      record {
        due = change_none t.due t.hart (λ _. rest (retirement x t s).fate) s.dues (λ _. rest_later t.due (retirement x t s).fate later) (least_turn s.dues t e);
        rising = visits.0;
        within = visits.1;
      }

  leave_time : (t : Turn) (s : Shortened G) → (leave x t s).time ≡ t.due
  unfolding leave
  leave_time t s = refl

  over_rises : (o : Option Ending) (p q : Shortened G) → IsRising p → IsRising q → IsRising (over_or o p q)
  over_rises None p q a b = b
  over_rises (Some ending) p q a b = record { due = a.due; rising = a.rising; within = a.within }

  retire_rises : (t : Turn) (s : Shortened G) → next_turn s.dues ≡ Some t → s.time ≤ t.due → IsLater t.due (retirement x t s).fate → IsRising s → IsRising (retire x t s)
  unfolding retire
  retire_rises t s e l later is =
      let left = leave_rises t s e l later is in
      over_rises (ending x t s) (leave x t s) (begin x (started_harts t.hart (retirement x t s)) t.due (leave x t s)) left
      (begin_rises (started_harts t.hart (retirement x t s)) t.due (leave x t s) (omega (arith, leave_time t s)) left)

  wake_rises : (t : Turn) (s : Shortened G) → s.time ≤ t.due → IsRising s → IsRising (wake x t s)
  unfolding wake
  wake_rises t s l is =
      begin_rises (t.hart ∷ []) t.due (record s { guest = x.guest.wake s.guest t.hart; wakes = s.wakes + 1 }) l
      (record { due = is.due; rising = is.rising; within = is.within })

  first_rises : IsRising (shortened x 0)
  unfolding shortened unbegun
  first_rises = begin_rises (0 ∷ []) 0 (unbegun x) (omega arith) (record {
    due = tt;
    rising = IsNonDecreasingBy-short (λ (w : NetVisit). w.time) [] (omega arith);
    within = All-nil (λ (w : NetVisit). w.time ≤ 0);
  })

  -- the turn is not before the last retirement
  turn_later : (t : Turn) (s : Shortened G) → next_turn s.dues ≡ Some t → IsRising s → s.time ≤ t.due
  turn_later t s e is = subst (NotBefore s.time) (turn_has s.dues t e) (none_at s.time s.dues t.hart is.due)

  retire_time : (t : Turn) (s : Shortened G) → (retire x t s).time ≡ t.due
  unfolding retire leave begin
  retire_time t s = go (ending x t s)
    where
      go : (o : Option Ending) → (over_or o (leave x t s) (begin x (started_harts t.hart (retirement x t s)) t.due (leave x t s))).time ≡ t.due
      go None = refl
      go (Some a) = refl

  wake_time : (t : Turn) (s : Shortened G) → (wake x t s).time ≡ s.time
  unfolding wake begin
  wake_time t s = refl

module _ {G : Type 0} (x : Experiment G) (Good : G → Type 0) (law : IsLawful x Good) where
  later_fate : (s : Shortened G) (t : Turn) → Lives x Good s → next_turn s.dues ≡ Some t → x.guest.is_sleeping s.guest t.hart ≡ false → IsLater t.due (retirement x t s).fate
  unfolding retirement
  later_fate s t l e awake = law.sleeps_later s.guest t.hart t.due l.good (turn_runs x Good law s t l e awake)

  come_rises : (s : Shortened G) (t : Turn) → Lives x Good s → next_turn s.dues ≡ Some t → IsRising s → IsRising (come x t s) × (s.time ≤ (come x t s).time)
  come_rises s t l e is =
      let later : s.time ≤ t.due = turn_later x law.speedup_in_range t s e is in
      come_by x Good law (λ o. IsRising o × (s.time ≤ o.time)) s t
      (λ asleep. (wake_rises x law.speedup_in_range t s later is, rw (wake_time x law.speedup_in_range t s) (omega arith)))
      (λ awake. (retire_rises x law.speedup_in_range t s e later (later_fate s t l e awake) is, rw (retire_time x law.speedup_in_range t s) later))

  step_rises : (n : ℕ) → IsRising (shortened x n) → IsRising (shortened x (suc n)) × ((shortened x n).time ≤ (shortened x (suc n)).time)
  step_rises n is = go (goes_or_ended x Good law n)
    where
      go : HasEnded x Good law n ⊎ GoesOn x Good law n → IsRising (shortened x (suc n)) × ((shortened x n).time ≤ (shortened x (suc n)).time)
      go (inl e) = subst (λ (o : Shortened G). IsRising o × ((shortened x n).time ≤ o.time)) (sym (next_is x Good law n ∙ move_over x Good law (shortened x n) e.0 e.1)) (is, omega arith)
      go (inr g) =
          let turn = turn_at x Good law n g in
          subst (λ (o : Shortened G). IsRising o × ((shortened x n).time ≤ o.time)) (sym (next_is x Good law n ∙ move_is x Good law (shortened x n) turn.0 g.none turn.1))
          (come_rises (shortened x n) turn.0 g.lives turn.1 is)

  -- no hart of the shortened machine is due before the moment of the last retirement, and the visits never fall up to it
  pub time_rises : (n : ℕ) → IsRising (shortened x n)
  time_rises zero = first_rises x law.speedup_in_range
  time_rises (suc n) = (step_rises n (time_rises n)).0

  -- that moment never falls
  pub time_on : (n : ℕ) → (shortened x n).time ≤ (shortened x (suc n)).time
  time_on n = (step_rises n (time_rises n)).1
