-- The shortened run of a program stays within its bounds.
use Rattle.std.proofs.Common.{◌≡◌, ◌≢◌, ℕ, zero, suc, ◌+◌, ◌-◌, ◌*◌, ◌^◌, ◌≤◌, ◌<◌, Bool, true, false, ◌||◌, if◌then◌else◌, nat_le, leb-false, List, [], ◌∷◌, length, length-append, get_or, filter, Option, Some, None, is_some, option_map, option_to_list, refl, sym, ap, ◌∙◌, subst, arith, eq-eqb, ne_eqb, ◌⊎◌, inl, inr}
use Rattle.std.specs.List.{AllByRecursion}
use Rattle.std.proofs.lemmas.Bool.{cases_eq}
use Rattle.coz_types.specs.declared.ending.Ending.{Ending}
use Rattle.coz_types.specs.Image.{ImageParts}
use Rattle.cost_table.proofs.ByOpcode.{few_cycles}
use Rattle.machines.specs.declared.Fate.{Fate}
use Rattle.machines.specs.declared.Fate.TheVariants.{Goes, Waits, Leaves, Sleeps, Ends}
use Rattle.machines.specs.Places.{is_among, AllApart, change, change_each}
use Rattle.machines.specs.Guest.{Experiment, Retirement, IsLawful, cost, cut, goes_on, started_harts, is_timed, ending_after}
use Rattle.machines.specs.Delayed.{is_any}
use Rattle.machines.specs.Shortened.{Shortened, NetVisit, Turn, next_turn, has_due_any, over_or, retirement, leave, ending, begin, rest, retire, wake, unbegun, shortened}
use Rattle.machines.proofs.Maps.{change_same, change_other}
use Rattle.machines.proofs.Turns.{turn_has}
use Rattle.machines.proofs.Short.{Lives, lives_on, wakes_on, turn_runs, come_by, move_is, move_over}
use Rattle.machines.proofs.Ends.{HasEnded, GoesOn, goes_or_ended, next_is, turn_at}
use Rattle.guest_calls.specs.Guest.{Guest}
use Rattle.guest_calls.specs.Guest as guests
use Rattle.guest_calls.specs.Orderly.{IsOrderly}
use Rattle.guest_calls.specs.Retire.{next_of}
use Rattle.guest_calls.proofs.Law.{timed_low, others_idle, sleeps_few}
use Rattle.run_engine.specs.declared.choice.Choice.{Choice}
use Rattle.run_engine.specs.Run.{experiment, IsChoice}
use Rattle.run_engine.specs.Begin.{many}
use Rattle.run_engine.proofs.Law.{lawful_run, none_full}

-- ---- moves

module _ {G : Type 0} (x : Experiment G) (Good : G → Type 0) (law : IsLawful x Good) where
  -- a hart has its turn
  pub record Comes (s : Shortened G) (t : Turn) : Type 0 where
    pub lives : Lives x Good s
    pub goes : s.ending ≡ None
    pub turn : next_turn s.dues ≡ Some t

  -- what holds at first, and after each wake and each retirement, holds of every state
  pub by_moves : (P : Shortened G → Type 0) → P (shortened x 0)
      → ((s : Shortened G) (t : Turn) → Comes s t → x.guest.is_sleeping s.guest t.hart ≡ true → P s → P (wake x t s))
      → ((s : Shortened G) (t : Turn) → Comes s t → x.guest.is_sleeping s.guest t.hart ≡ false → P s → P (retire x t s))
      → (n : ℕ) → P (shortened x n)
  by_moves P first wakes retires zero = first
  by_moves P first wakes retires (suc n) = go (goes_or_ended x Good law n) (by_moves P first wakes retires n)
    where
      go : HasEnded x Good law n ⊎ GoesOn x Good law n → P (shortened x n) → P (shortened x (suc n))
      go (inl e) p = subst P (sym (next_is x Good law n ∙ move_over x Good law (shortened x n) e.0 e.1)) p
      go (inr g) p =
          let turn = turn_at x Good law n g in
          let s : Shortened G = shortened x n in
          let comes : Comes s turn.0 = record { lives = g.lives; goes = g.none; turn = turn.1 } in
          subst P (sym (next_is x Good law n ∙ move_is x Good law s turn.0 g.none turn.1))
          (come_by x Good law P s turn.0 (λ asleep. wakes s turn.0 comes asleep p) (λ awake. retires s turn.0 comes awake p))

  abbrev pub begun : Turn → Shortened G → Shortened G
  begun t s = begin x (started_harts t.hart (retirement x t s)) t.due (leave x t s)

  -- a retirement ends the run or doesn't
  pub retired_by : (P : Shortened G → Type 0) (s : Shortened G) (t : Turn) → (ending x t s ≡ None → retire x t s ≡ begun t s → P (begun t s))
      → ((e : Ending) → ending x t s ≡ Some e → P (record (leave x t s) { ending = Some e })) → P (retire x t s)
  unfolding retire
  retired_by P s t goes ends = go (ending x t s) refl
    where
      go : (o : Option Ending) → ending x t s ≡ o → P (over_or o (leave x t s) (begun t s))
      go None is = goes is (ap (λ (o : Option Ending). over_or o (leave x t s) (begun t s)) is)
      go (Some e) is = ends e is

-- ---- moments

abbrev pub IsSoon : ℕ → Option ℕ → Type 0
IsSoon most None = Unit {0}
IsSoon most (Some due) = due ≤ most

abbrev pub AreSoon : ℕ → List (Option ℕ) → Type 0
AreSoon most dues = AllByRecursion (IsSoon most) dues

soon_later : (m n : ℕ) (o : Option ℕ) → m ≤ n → IsSoon m o → IsSoon n o
soon_later m n None le soon = tt
soon_later m n (Some due) le soon = omega arith

all_later : (m n : ℕ) (dues : List (Option ℕ)) → m ≤ n → AreSoon m dues → AreSoon n dues
all_later m n [] le soon = tt
all_later m n (o ∷ dues) le soon = (soon_later m n o le soon.0, all_later m n dues le soon.1)

soon_changed : (m h : ℕ) (new : Option ℕ) (dues : List (Option ℕ)) → IsSoon m new → AreSoon m dues → AreSoon m (change None h (λ _. new) dues)
soon_changed m zero new [] is soon = (is, tt)
soon_changed m zero new (o ∷ dues) is soon = (is, soon.1)
soon_changed m (suc h) new [] is soon = (tt, soon_changed m h new [] is tt)
soon_changed m (suc h) new (o ∷ dues) is soon = (soon.0, soon_changed m h new dues is soon.1)

soon_each : (m : ℕ) (hs : List ℕ) (due : ℕ → ℕ) (dues : List (Option ℕ)) → ((h : ℕ) → due h ≤ m) → AreSoon m dues → AreSoon m (change_each None hs (λ h _. Some (due h)) dues)
soon_each m [] due dues few soon = soon
soon_each m (h ∷ hs) due dues few soon = soon_each m hs due (change None h (λ _. Some (due h)) dues) few (soon_changed m h (Some (due h)) dues (few h) soon)

soon_at : (m h due : ℕ) (dues : List (Option ℕ)) → AreSoon m dues → get_or dues h None ≡ Some due → due ≤ m
soon_at m h due [] soon is = absurd (let no : ◌≡◌ {A = Option ℕ} None (Some due) = is in cc)
soon_at m zero due (o ∷ dues) soon is = subst (IsSoon m) is soon.0
soon_at m (suc h) due (o ∷ dues) soon is = soon_at m h due dues soon.1 is

-- ---- how many harts have a moment

abbrev counted : Option ℕ → ℕ
counted None = 0
counted (Some due) = 1

many_cons : (o : Option ℕ) (dues : List (Option ℕ)) → many (o ∷ dues) ≡ counted o + many dues
many_cons None dues = omega arith
many_cons (Some due) dues = omega arith

many_changed : (h : ℕ) (new : Option ℕ) (dues : List (Option ℕ)) → many (change None h (λ _. new) dues) + counted (get_or dues h None) ≡ many dues + counted new
many_changed zero new [] = let a : many (new ∷ []) ≡ counted new + 0 = many_cons new [] in omega arith
many_changed zero new (o ∷ dues) = let a : many (new ∷ dues) ≡ counted new + many dues = many_cons new dues in let b : many (o ∷ dues) ≡ counted o + many dues = many_cons o dues in omega arith
many_changed (suc h) new [] = let a : many (change None h (λ _. new) []) + 0 ≡ 0 + counted new = many_changed h new [] in omega arith
many_changed (suc h) new (o ∷ dues) =
    let a : many (change None h (λ _. new) dues) + counted (get_or dues h None) ≡ many dues + counted new = many_changed h new dues in
    let b : many (o ∷ change None h (λ _. new) dues) ≡ counted o + many (change None h (λ _. new) dues) = many_cons o (change None h (λ _. new) dues) in
    let c : many (o ∷ dues) ≡ counted o + many dues = many_cons o dues in
    omega arith

many_begun : (hs : List ℕ) (due : ℕ → ℕ) (dues : List (Option ℕ)) → AllApart hs → ((k : ℕ) → is_among k hs ≡ true → get_or dues k None ≡ None) → many (change_each None hs (λ h _. Some (due h)) dues) ≡ many dues + length hs
many_begun [] due dues apart absent = omega arith
many_begun (h ∷ hs) due dues apart absent =
    let first : List (Option ℕ) = change None h (λ _. Some (due h)) dues in
    let none : get_or dues h None ≡ None = absent h (rw (eq-eqb h h refl) refl) in
    let one : many first + counted (get_or dues h None) ≡ many dues + 1 = many_changed h (Some (due h)) dues in
    let zero_is : counted (get_or dues h None) ≡ 0 = ap counted none in
    let more : many (change_each None hs (λ h _. Some (due h)) first) ≡ many first + length hs = many_begun hs due first apart.1 (λ k among. later k among (cases_eq h k)) in
    omega arith
  where
    later : (k : ℕ) → is_among k hs ≡ true → (h ≡ k) ⊎ (h ≡ k → ⊥) → get_or (change None h (λ _. Some (due h)) dues) k None ≡ None
    later k among (inl same) = absurd (let no : true ≡ false = sym among ∙ ap (λ (n : ℕ). is_among n hs) (sym same) ∙ apart.0 in cc)
    later k among (inr other) = change_other None h k (λ _. Some (due h)) dues other ∙ absent k (rw (ne_eqb k h (λ e. other (sym e))) among)

many_low : (n : ℕ) (dues : List (Option ℕ)) → ((k : ℕ) → is_some (get_or dues k None) ≡ true → k < n) → many dues ≤ n
many_low n [] low = omega arith
many_low zero (None ∷ dues) low = many_low zero dues (λ k some. let no : suc k < 0 = low (suc k) some in omega arith)
many_low zero (Some due ∷ dues) low = let no : 0 < 0 = low 0 refl in omega arith
many_low (suc n) (None ∷ dues) low = let few : many dues ≤ n = many_low n dues (λ k some. let less : suc k < suc n = low (suc k) some in omega arith) in omega arith
many_low (suc n) (Some due ∷ dues) low = let few : many dues ≤ n = many_low n dues (λ k some. let less : suc k < suc n = low (suc k) some in omega arith) in omega arith

one_of : (b : Bool) (h : ℕ) (hs : List ℕ) → length (if b then h ∷ hs else hs) ≤ suc (length hs)
one_of true h hs = omega arith
one_of false h hs = omega arith

filtered_few : (p : ℕ → Bool) (hs : List ℕ) → length (filter p hs) ≤ length hs
filtered_few p [] = omega arith
filtered_few p (h ∷ hs) = let few : length (filter p hs) ≤ length hs = filtered_few p hs in let more : length (if p h then h ∷ filter p hs else filter p hs) ≤ suc (length (filter p hs)) = one_of (p h) h (filter p hs) in omega arith

none_when : (o : Option ℕ) → is_some o ≡ false → o ≡ None
none_when None is = refl
none_when (Some due) is = absurd (let no : true ≡ false = is in cc)

-- ---- the run of a program

module _ (image : ImageParts) (position point : ℕ → Option ℕ) (input : List ℕ) (choice : Choice) (valid : IsChoice choice) where
  abbrev pub run : Experiment Guest
  run = experiment image position point input choice

  pub law : IsLawful run IsOrderly
  law = lawful_run image position point input choice valid.speedup

  -- by which every hart has its turn after this number of retirements and wakes
  abbrev pub latest : ℕ → ℕ
  latest events = 10 ^ 16 + 4000 * (events + 1)

  pub record InBounds (s : Shortened Guest) : Type 0 where
    pub retired : s.retired ≤ choice.budget
    pub visits : length s.visits ≤ choice.visit_limit
    pub below : s.ending ≡ None → length s.visits < choice.visit_limit
    pub starts : s.starts ≤ s.retired + s.wakes + many s.dues
    pub few : many s.dues ≤ 256
    pub soon : AreSoon (latest (s.retired + s.wakes)) s.dues
    pub time : s.time ≤ latest (s.retired + s.wakes)

  few_alive : (s : Shortened Guest) → Lives run IsOrderly s → many s.dues ≤ 256
  few_alive s lives = many_low 256 s.dues (λ k some. (timed_low s.guest k lives.good (lives.running k ∙ some)).1)

  cost_few : (g : Guest) (h : ℕ) → cost run g h ≤ 4000
  unfolding cost
  cost_few g h = let few : run.guest.cycles g h ≤ 40 = few_cycles (next_of g h) in omega arith

  due_few : (v m : ℕ) (g : Guest) (h : ℕ) → v + 4000 ≤ m → v + cost run g h - cut run g h ≤ m
  due_few v m g h le = let few : cost run g h ≤ 4000 = cost_few g h in omega arith

  -- ---- a retirement

  -- the harts that it starts have no moment once it has left
  absent : (s : Shortened Guest) (t : Turn) → Comes run IsOrderly law s t → run.guest.is_sleeping s.guest t.hart ≡ false
      → (k : ℕ) → is_among k (started_harts t.hart (retirement run t s)) ≡ true → get_or (leave run t s).dues k None ≡ None
  unfolding leave retirement
  absent s t comes awake k among = by (cases_eq t.hart k) (goes_on r.fate) refl among
    where
      r : Retirement Guest
      r = run.guest.retire s.guest t.hart t.due

      runs : run.guest.is_running s.guest t.hart ≡ true
      runs = turn_runs run IsOrderly law s t comes.lives comes.turn awake

      idle : is_among k r.others ≡ true → is_timed run.guest s.guest k ≡ false
      idle other = others_idle s.guest t.hart t.due comes.lives.good runs k other

      had : t.hart ≡ k → is_timed run.guest s.guest k ≡ true
      had same = comes.lives.running k ∙ ap is_some (ap (λ (n : ℕ). get_or s.dues n None) (sym same) ∙ turn_has s.dues t comes.turn)

      rests : (fate : Fate) → goes_on fate ≡ true → rest fate ≡ None
      rests Goes e = refl
      rests Waits e = refl
      rests Leaves e = refl
      rests (Sleeps moment) e = absurd (let no : false ≡ true = e in cc)
      rests (Ends ending) e = refl

      clash : is_timed run.guest s.guest k ≡ true → is_timed run.guest s.guest k ≡ false → ⊥
      clash e f = let no : true ≡ false = sym e ∙ f in cc

      of_others : t.hart ≢ k → is_among k r.others ≡ true → get_or (change None t.hart (λ _. rest r.fate) s.dues) k None ≡ None
      of_others other e = change_other None t.hart k (λ _. rest r.fate) s.dues other ∙ none_when (get_or s.dues k None) (sym (comes.lives.running k) ∙ idle e)

      by : (t.hart ≡ k) ⊎ (t.hart ≡ k → ⊥) → (b : Bool) → goes_on r.fate ≡ b → is_among k (if b then t.hart ∷ r.others else r.others) ≡ true → get_or (change None t.hart (λ _. rest r.fate) s.dues) k None ≡ None
      by (inl same) true goes e = subst (λ (n : ℕ). get_or (change None t.hart (λ _. rest r.fate) s.dues) n None ≡ None) same (change_same None t.hart (λ _. rest r.fate) s.dues ∙ rests r.fate goes)
      by (inl same) false goes e = absurd (clash (had same) (idle e))
      by (inr other) true goes e = of_others other (rw (ne_eqb k t.hart (λ same. other (sym same))) at e)
      by (inr other) false goes e = of_others other e

  visit_of : Option ℕ → ℕ → ℕ → List NetVisit
  visit_of o h due = option_to_list (option_map (λ p. record { point = p; hart = h; time = due }) o)

  one_visit : (o : Option ℕ) (h due : ℕ) → length (visit_of o h due) ≤ 1
  unfolding visit_of
  one_visit None h due = omega arith
  one_visit (Some p) h due = omega arith

  counted_one : (o : Option ℕ) → counted o ≤ 1
  counted_one None = omega arith
  counted_one (Some due) = omega arith

  rest_soon : (m : ℕ) (fate : Fate) → 10 ^ 16 ≤ m → ((moment : ℕ) → fate ≡ Sleeps moment → moment ≤ 10 ^ 16) → IsSoon m (rest fate)
  rest_soon m Goes le few = tt
  rest_soon m Waits le few = tt
  rest_soon m Leaves le few = tt
  rest_soon m (Sleeps moment) le few = let small : moment ≤ 10 ^ 16 = few moment refl in omega arith
  rest_soon m (Ends ending) le few = tt

  -- what has left
  pub record HasLeft (s : Shortened Guest) (t : Turn) : Type 0 where
    pub visits : length (leave run t s).visits ≤ length s.visits + 1
    pub more : many s.dues ≤ many (leave run t s).dues + 1
    pub few : many (leave run t s).dues ≤ many s.dues
    pub soon : AreSoon (latest (s.retired + s.wakes)) (leave run t s).dues
    pub due : t.due ≤ latest (s.retired + s.wakes)

  has_left : (s : Shortened Guest) (t : Turn) → Comes run IsOrderly law s t → run.guest.is_sleeping s.guest t.hart ≡ false → InBounds s → HasLeft s t
  unfolding leave retirement visit_of
  has_left s t comes awake b =
      let fate : Fate = (run.guest.retire s.guest t.hart t.due).fate in
      let runs : run.guest.is_running s.guest t.hart ≡ true = turn_runs run IsOrderly law s t comes.lives comes.turn awake in
      let has : counted (get_or s.dues t.hart None) ≡ 1 = ap counted (turn_has s.dues t comes.turn) in
      let changed : many (change None t.hart (λ _. rest fate) s.dues) + counted (get_or s.dues t.hart None) ≡ many s.dues + counted (rest fate) = many_changed t.hart (rest fate) s.dues in
      let one : counted (rest fate) ≤ 1 = counted_one (rest fate) in
      let visit = one_visit (run.guest.point s.guest t.hart) t.hart t.due in
      let long = length-append s.visits (visit_of (run.guest.point s.guest t.hart) t.hart t.due) in
      record {
        visits = omega (arith, visit, long);
        more = omega arith;
        few = omega arith;
        soon = soon_changed (latest (s.retired + s.wakes)) t.hart (rest fate) s.dues (rest_soon (latest (s.retired + s.wakes)) fate (omega arith) (sleeps_few s.guest t.hart t.due comes.lives.good runs)) b.soon;
        due = soon_at (latest (s.retired + s.wakes)) t.hart t.due s.dues b.soon (turn_has s.dues t comes.turn);
      }

  below_budget : (n : ℕ) → (n ≡ 0) ⊎ (n < choice.budget) → n + 1 ≤ choice.budget
  below_budget n (inl none) = let some : 1 ≤ choice.budget = valid.some_budget in omega arith
  below_budget n (inr less) = omega arith

  frame : (s : Shortened Guest) (t : Turn) → ((leave run t s).retired ≡ s.retired + 1) × ((leave run t s).wakes ≡ s.wakes) × ((leave run t s).starts ≡ s.starts) × ((leave run t s).time ≡ t.due)
  unfolding leave
  frame s t = (refl, refl, refl, refl)

  ended_bounds : (s : Shortened Guest) (t : Turn) (e : Ending) → Comes run IsOrderly law s t → HasLeft s t → InBounds s → InBounds (record (leave run t s) { ending = Some e })
  ended_bounds s t e comes l b =
      let f = frame s t in
      let under : length s.visits < choice.visit_limit = b.below comes.goes in
      record {
        retired = rw f.0 (below_budget s.retired comes.lives.within);
        visits = omega (arith, under, l.visits);
        below = λ none. absurd (let no : ◌≡◌ {A = Option Ending} (Some e) None = none in cc);
        starts = omega (arith, f.0, f.1, f.2, b.starts, l.more);
        few = omega (arith, b.few, l.few);
        soon = all_later (latest (s.retired + s.wakes)) (latest ((leave run t s).retired + (leave run t s).wakes)) (leave run t s).dues (omega (arith, f.0, f.1)) l.soon;
        time = omega (arith, f.0, f.1, f.3, l.due);
      }

  -- what has begun after it
  begun_frame : (s : Shortened Guest) (t : Turn) (hs : List ℕ)
      → ((begin run hs t.due (leave run t s)).retired ≡ s.retired + 1) × ((begin run hs t.due (leave run t s)).wakes ≡ s.wakes)
      × ((begin run hs t.due (leave run t s)).time ≡ t.due) × ((begin run hs t.due (leave run t s)).visits ≡ (leave run t s).visits) × ((begin run hs t.due (leave run t s)).ending ≡ s.ending)
  unfolding leave begin
  begun_frame s t hs = (refl, refl, refl, refl, refl)

  begin_soon : (m v : ℕ) (hs : List ℕ) (s : Shortened Guest) → v + 4000 ≤ m → AreSoon m s.dues → AreSoon m (begin run hs v s).dues
  unfolding begin
  begin_soon m v hs s le soon = soon_each m hs (λ h. v + cost run s.guest h - cut run s.guest h) s.dues (λ h. due_few v m s.guest h le) soon

  begin_many : (v : ℕ) (hs : List ℕ) (s : Shortened Guest) → AllApart hs → ((k : ℕ) → is_among k hs ≡ true → get_or s.dues k None ≡ None)
      → (many (begin run hs v s).dues ≡ many s.dues + length hs) × ((begin run hs v s).starts ≤ s.starts + length hs)
  unfolding begin
  begin_many v hs s apart none = (
    many_begun hs (λ h. v + cost run s.guest h - cut run s.guest h) s.dues apart none,
    let few = filtered_few (run.guest.is_selected s.guest) hs in omega (arith, few),
  )

  under_limit : (s : Shortened Guest) (t : Turn) → ending run t s ≡ None → length (leave run t s).visits < choice.visit_limit
  unfolding ending ending_after
  under_limit s t none =
      let r : Retirement Guest = retirement run t s in
      leb-false choice.visit_limit (length (leave run t s).visits)
      (none_full r.fate (nat_le choice.output_limit (length (run.guest.output r.guest))) (nat_le choice.visit_limit (length (leave run t s).visits)) (is_any (started_harts t.hart r) || has_due_any (leave run t s).dues) (leave run t s).retired choice.budget none)

  apart : (s : Shortened Guest) (t : Turn) → Comes run IsOrderly law s t → run.guest.is_sleeping s.guest t.hart ≡ false → AllApart (started_harts t.hart (retirement run t s))
  unfolding retirement
  apart s t comes awake = law.apart s.guest t.hart t.due comes.lives.good (turn_runs run IsOrderly law s t comes.lives comes.turn awake)

  begun_bounds : (s : Shortened Guest) (t : Turn) → Comes run IsOrderly law s t → run.guest.is_sleeping s.guest t.hart ≡ false → ending run t s ≡ None → retire run t s ≡ begun run IsOrderly law t s → HasLeft s t → InBounds s → InBounds (begun run IsOrderly law t s)
  begun_bounds s t comes awake none is l b =
      let hs : List ℕ = started_harts t.hart (retirement run t s) in
      let f = begun_frame s t hs in
      let g = frame s t in
      let m = begin_many t.due hs (leave run t s) (apart s t comes awake) (absent s t comes awake) in
      let under : length (leave run t s).visits < choice.visit_limit = under_limit s t none in
      let goes : (retire run t s).ending ≡ None = ap (λ (o : Shortened Guest). o.ending) is ∙ f.4 ∙ comes.goes in
      record {
        retired = rw f.0 (below_budget s.retired comes.lives.within);
        visits = omega (arith, ap length f.3, under);
        below = λ _. omega (arith, ap length f.3, under);
        starts = omega (arith, f.0, f.1, g.2, m.0, m.1, b.starts, l.more);
        few = few_alive (begun run IsOrderly law t s) (subst (Lives run IsOrderly) is (lives_on run IsOrderly law s t comes.lives comes.turn awake comes.goes goes));
        soon =
            begin_soon (latest ((begin run hs t.due (leave run t s)).retired + (begin run hs t.due (leave run t s)).wakes)) t.due hs (leave run t s) (omega (arith, f.0, f.1, l.due))
            (all_later (latest (s.retired + s.wakes)) (latest ((begin run hs t.due (leave run t s)).retired + (begin run hs t.due (leave run t s)).wakes)) (leave run t s).dues (omega (arith, f.0, f.1)) l.soon);
        time = omega (arith, f.0, f.1, f.2, l.due);
      }

  retire_bounds : (s : Shortened Guest) (t : Turn) → Comes run IsOrderly law s t → run.guest.is_sleeping s.guest t.hart ≡ false → InBounds s → InBounds (retire run t s)
  retire_bounds s t comes awake b =
      let l : HasLeft s t = has_left s t comes awake b in
      retired_by run IsOrderly law InBounds s t (λ none is. begun_bounds s t comes awake none is l b) (λ e is. ended_bounds s t e comes l b)

  -- ---- a wake

  wake_frame : (s : Shortened Guest) (t : Turn)
      → ((wake run t s).retired ≡ s.retired) × ((wake run t s).wakes ≡ s.wakes + 1) × ((wake run t s).time ≡ s.time) × ((wake run t s).visits ≡ s.visits) × ((wake run t s).ending ≡ s.ending)
  unfolding wake begin
  wake_frame s t = (refl, refl, refl, refl, refl)

  wake_starts : (s : Shortened Guest) (t : Turn) → Comes run IsOrderly law s t → (s.starts + many s.dues + 1 ≡ (s.starts + 1) + many (wake run t s).dues) × ((wake run t s).starts ≤ s.starts + 1)
  unfolding wake begin
  wake_starts s t comes =
      let due : ℕ = t.due + cost run (guests.with_wake t.hart s.guest) t.hart - cut run (guests.with_wake t.hart s.guest) t.hart in
      let changed : many (change None t.hart (λ _. Some due) s.dues) + counted (get_or s.dues t.hart None) ≡ many s.dues + 1 = many_changed t.hart (Some due) s.dues in
      let has : counted (get_or s.dues t.hart None) ≡ 1 = ap counted (turn_has s.dues t comes.turn) in
      let few = filtered_few (run.guest.is_selected (guests.with_wake t.hart s.guest)) (t.hart ∷ []) in
      (omega arith, omega (arith, few))

  wake_soon : (m : ℕ) (s : Shortened Guest) (t : Turn) → t.due + 4000 ≤ m → AreSoon m s.dues → AreSoon m (wake run t s).dues
  unfolding wake
  wake_soon m s t le soon = begin_soon m t.due (t.hart ∷ []) (record s { guest = guests.with_wake t.hart s.guest; wakes = s.wakes + 1 }) le soon

  wake_bounds : (s : Shortened Guest) (t : Turn) → Comes run IsOrderly law s t → run.guest.is_sleeping s.guest t.hart ≡ true → InBounds s → InBounds (wake run t s)
  wake_bounds s t comes asleep b =
      let f = wake_frame s t in
      let m = wake_starts s t comes in
      let due : t.due ≤ latest (s.retired + s.wakes) = soon_at (latest (s.retired + s.wakes)) t.hart t.due s.dues b.soon (turn_has s.dues t comes.turn) in
      record {
        retired = rw f.0 b.retired;
        visits = rw f.3 b.visits;
        below = λ none. rw f.3 (b.below comes.goes);
        starts = omega (arith, f.0, f.1, m.0, m.1, b.starts);
        few = few_alive (wake run t s) (wakes_on run IsOrderly law s t comes.lives comes.turn asleep);
        soon =
            wake_soon (latest ((wake run t s).retired + (wake run t s).wakes)) s t (omega (arith, f.0, f.1, due))
            (all_later (latest (s.retired + s.wakes)) (latest ((wake run t s).retired + (wake run t s).wakes)) s.dues (omega (arith, f.0, f.1)) b.soon);
        time = omega (arith, f.0, f.1, f.2, b.time);
      }

  -- ---- the whole run

  first_bounds : InBounds (shortened run 0)
  unfolding shortened begin unbegun
  first_bounds =
      let few = filtered_few (run.guest.is_selected run.first) (0 ∷ []) in
      let some : 1 ≤ choice.visit_limit = valid.some_visits in
      record {
        retired = omega arith;
        visits = omega arith;
        below = λ _. omega arith;
        starts = omega (arith, few);
        few = omega arith;
        soon = (due_few 0 (latest 0) run.first 0 (omega arith), tt);
        time = omega arith;
      }

  pub in_bounds : (n : ℕ) → InBounds (shortened run n)
  in_bounds = by_moves run IsOrderly law InBounds first_bounds wake_bounds retire_bounds
