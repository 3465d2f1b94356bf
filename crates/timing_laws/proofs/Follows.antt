-- A guest that follows another one has its delayed run.
use Rattle.std.proofs.Common.{◌≡◌, ◌↔◌, map, ℕ, zero, suc, ◌+◌, ◌-◌, ◌*◌, Bool, true, false, ◌||◌, not, if◌then◌else◌, List, [], ◌∷◌, ◌++◌, length, filter, fold, refl, sym, ap, ap₂, ◌∙◌, subst, Option, Some, None, option_map, option_to_list, is_some, get_or, unwrap_or, nat_le}
use Rattle.std.proofs.Math.Path.{fun_ext}
use Rattle.coz_types.specs.declared.ending.Ending.{Ending}
use Rattle.coz_types.specs.declared.ending.Ending.TheVariants.{OutputFull, VisitsFull, Stalled, Spent}
use Rattle.machines.specs.declared.Fate.{Fate}
use Rattle.machines.specs.Places.{first_place, change, change_each, change_from, with_places}
use Rattle.machines.specs.Guest.{Experiment, Retirement, IsLawful, is_timed, cost, cut, ending_after, started_harts, own_ending, ending_if, first_ending, enough}
use Rattle.machines.specs.Delayed.{Delayed, Hart, Load, idle_hart, run, rest, is_ready, has_load, is_any, has_load_any, over_or, total, credit, account_of, raise, raise_hart, begin, retirement, leave, give_credit, ending, retire, wake, come, tick, move, move_by, unbegun, after, delayed}
use Rattle.machines.specs.Records.{Record, record_of, outcome, IsDelayed}
use Rattle.machines.specs.Standing.{ticks_left, next, standing, delayed_record}
use Rattle.machines.proofs.Short.{no_ending}
use Rattle.machines.proofs.Standing.{reached}
use Rattle.machines.proofs.Stepping.{after_delayed}
use Rattle.machines.proofs.Timed.{loads_timed}
use Rattle.machines.proofs.Turns.{first_is}
use Rattle.timing_laws.specs.Following.{retirement_through, delayed_through, IsAlike, Follows}

-- a state after the retirement r at the point p
abbrev left : {G : Type 0} → Retirement G → Option ℕ → ℕ → Delayed G → Delayed G
left r p h d = record d {
  guest = r.guest;
  harts = with_places idle_hart r.others (change idle_hart h (rest r.fate (d.now - d.delay)) d.harts);
  visits = d.visits ++ option_to_list (option_map (λ p. record { point = p; hart = h; time = d.now; delay = d.delay }) p);
  retired = d.retired + 1;
}

abbrev credited : {G : Type 0} → Retirement G → Option ℕ → ℕ → Delayed G → Delayed G
credited r p h d = record (left r p h d) {
  harts = change_each idle_hart r.others (λ _. credit (total (account_of d.harts h))) (left r p h d).harts;
}

abbrev ending_with : {G : Type 0} → Experiment G → Retirement G → Option ℕ → ℕ → Delayed G → Option Ending
ending_with x r p h d = ending_after x r (length (left r p h d).visits) (is_any (started_harts h r) || has_load_any (left r p h d).harts) (left r p h d).retired

abbrev retired_with : {G : Type 0} → Experiment G → Retirement G → Option ℕ → ℕ → Delayed G → Delayed G
retired_with x r p h d = over_or (ending_with x r p h d) (left r p h d) (begin x (started_harts h r) (credited r p h d))

retires_so : {G : Type 0} (x : Experiment G) (h : ℕ) (d : Delayed G) → retire x h d ≡ retired_with x (retirement x h d) (x.guest.point d.guest h) h d
unfolding retire ending leave give_credit
retires_so x h d = refl

module _ {G : Type 0} (x : Experiment G) where
  raised_guest : (hs : List ℕ) (d : Delayed G) → (fold (raise x) d hs).guest ≡ d.guest
  unfolding raise
  raised_guest [] d = refl
  raised_guest (h ∷ hs) d = raised_guest hs (raise x d h)

  begun_guest : (hs : List ℕ) (d : Delayed G) → (begin x hs d).guest ≡ d.guest
  unfolding begin
  begun_guest hs d = raised_guest (filter (x.guest.is_selected d.guest) hs) (record d { harts = change_each idle_hart hs (λ h. run (cost x d.guest h)) d.harts })

-- what is known of the guest after each number of moves, also once the run has ended
module _ {G : Type 0} (x : Experiment G) (Good : G → Type 0) (law : IsLawful x Good) where
  over_guest : (o : Option Ending) (d next : Delayed G) → next.guest ≡ d.guest → (over_or o d next).guest ≡ d.guest
  over_guest None d next e = e
  over_guest (Some a) d next e = refl

  retired_guest : (h : ℕ) (d : Delayed G) → (retire x h d).guest ≡ (x.guest.retire d.guest h (d.now - d.delay)).guest
  unfolding retirement
  retired_guest h d =
      let r : Retirement G = x.guest.retire d.guest h (d.now - d.delay) in
      let p : Option ℕ = x.guest.point d.guest h in
      ap (λ d. d.guest) (retires_so x h d)
      ∙ over_guest (ending_with x r p h d) (left r p h d) (begin x (started_harts h r) (credited r p h d)) (begun_guest x (started_harts h r) (credited r p h d))

  woken_guest : (h : ℕ) (d : Delayed G) → (wake x h d).guest ≡ x.guest.wake d.guest h
  unfolding wake
  woken_guest h d = begun_guest x (h ∷ []) (record d { guest = x.guest.wake d.guest h; wakes = d.wakes + 1 })

  or_running : (a b : Bool) → (a || b) ≡ true → a ≡ false → b ≡ true
  or_running true b e f = let no : true ≡ false = f in absurd cc
  or_running false b e f = e

  comes_good : (h : ℕ) (d : Delayed G) → Good d.guest → is_timed x.guest d.guest h ≡ true → Good (come x h d).guest
  unfolding come
  comes_good h d good timed = go (x.guest.is_sleeping d.guest h) refl
    where
      go : (b : Bool) → x.guest.is_sleeping d.guest h ≡ b → Good (if b then wake x h d else retire x h d).guest
      go true sleeps = subst Good (sym (woken_guest h d)) (law.wakes_good d.guest h good sleeps)
      go false awake = subst Good (sym (retired_guest h d)) (law.stays_good d.guest h (d.now - d.delay) good (or_running (x.guest.is_sleeping d.guest h) (x.guest.is_running d.guest h) timed awake))

  ready_has : (hart : Hart) → is_ready hart ≡ true → has_load hart ≡ true
  ready_has hart e = go hart.load e
    where
      go : (o : Option Load) → is_ready (record { account = hart.account; load = o }) ≡ true → is_some o ≡ true
      go None e = e
      go (Some l) e = refl

  pub ready_timed : (n : ℕ) → (delayed x n).ending ≡ None → (h : ℕ) → first_place is_ready (delayed x n).harts ≡ Some h → is_timed x.guest (delayed x n).guest h ≡ true
  ready_timed n e h r = loads_timed x Good law n e h ∙ ready_has (get_or (delayed x n).harts h idle_hart) (first_is idle_hart is_ready (delayed x n).harts h r).passes

  moves_good : (n : ℕ) → Good (delayed x n).guest → Good (move x (delayed x n)).guest
  unfolding move move_by tick
  moves_good n good = go (delayed x n).ending (first_place is_ready (delayed x n).harts) refl refl
    where
      go : (o : Option Ending) (ready : Option ℕ) → (delayed x n).ending ≡ o → first_place is_ready (delayed x n).harts ≡ ready → Good (move_by x o ready (delayed x n)).guest
      go (Some a) ready e r = good
      go None (Some h) e r = comes_good h (delayed x n) good (ready_timed n e h r)
      go None None e r = good

  -- the guest is good at every moment of a run
  pub always_good : (n : ℕ) → Good (delayed x n).guest
  unfolding delayed after unbegun
  always_good zero = subst Good (sym (begun_guest x (0 ∷ []) (unbegun x))) law.first_good
  always_good (suc n) = moves_good n (always_good n)

  pub standing_good : (n : ℕ) → Good (standing x n).guest
  standing_good n = let r = reached x n in subst (λ (d : Delayed G). Good d.guest) (sym r.1) (always_good r.0)

over_through : {G H : Type 0} (f : G → H) (o : Option Ending) (d next : Delayed G) (next' : Delayed H) → (o ≡ None → next' ≡ delayed_through f next) → over_or o (delayed_through f d) next' ≡ delayed_through f (over_or o d next)
over_through f None d next next' e = e refl
over_through f (Some a) d next next' e = refl

over_goes : {G : Type 0} (P : G → Type 0) (o : Option Ending) (d next : Delayed G) → (o ≡ None → P next.guest) → (over_or o d next).ending ≡ None → P (over_or o d next).guest
over_goes P None d next p e = p refl
over_goes P (Some a) d next p e = let no : Some a ≡ None = e in absurd cc

-- the ending, of numbers alone
abbrev ending_of : ℕ → ℕ → ℕ → ℕ → Fate → ℕ → Bool → ℕ → Option Ending
ending_of output_limit output visit_limit budget fate visits some retired =
    first_ending
    (own_ending fate
    ∷ ending_if (nat_le output_limit output) OutputFull
    ∷ ending_if (nat_le visit_limit visits) VisitsFull
    ∷ ending_if (not some) Stalled
    ∷ ending_if (nat_le budget retired) Spent
    ∷ [])

module _ {G H : Type 0} (x : Experiment G) (y : Experiment H) (f : G → H) (Good Kept : G → Type 0) (follows : Follows x y f Good Kept) where
  abbrev image : Delayed G → Delayed H
  image d = delayed_through f d

  pub same_cost : (g : G) → Good g → Kept g → cost y (f g) ≡ cost x g
  unfolding cost
  same_cost g good kept = fun_ext (λ h. ap (λ n. 100 * n) ((follows.alike g good kept).cycles h))

  pub same_cut : (g : G) → Good g → Kept g → (h : ℕ) → cut y (f g) h ≡ cut x g h
  unfolding cut
  same_cut g good kept h =
      let a : IsAlike x y f g = follows.alike g good kept in
      ap (λ b. if b then y.speedup * y.guest.cycles (f g) h else 0) (a.is_selected h)
      ∙ ap₂ (λ s n. if x.guest.is_selected g h then s * n else 0) follows.speedup (a.cycles h)

  pub same_selected : (g : G) → Good g → Kept g → y.guest.is_selected (f g) ≡ x.guest.is_selected g
  same_selected g good kept = fun_ext (λ h. (follows.alike g good kept).is_selected h)

  pub same_ending : (r : Retirement G) (visits : ℕ) (some : Bool) (retired : ℕ) → ending_after y (retirement_through f r) visits some retired ≡ ending_after x r visits some retired
  unfolding ending_after
  same_ending r visits some retired =
      ap₂ (λ l o. ending_of l (length o) y.visit_limit y.budget r.fate visits some retired) follows.output_limit (follows.output r.guest)
      ∙ ap₂ (λ l b. ending_of x.output_limit (length (x.guest.output r.guest)) l b r.fate visits some retired) follows.visit_limit follows.budget

  raises : (hs : List ℕ) (d : Delayed G) → ((h : ℕ) → cut y (f d.guest) h ≡ cut x d.guest h) → fold (raise y) (image d) hs ≡ image (fold (raise x) d hs)
  unfolding raise
  raises [] d e = refl
  raises (h ∷ hs) d e =
      ap (λ n. fold (raise y) (record (image d) { delay = d.delay + n; harts = change_from 0 (raise_hart n h) d.harts; starts = d.starts + 1 }) hs) (e h)
      ∙ raises hs (raise x d h) e

  begins : (hs : List ℕ) (d : Delayed G) → Good d.guest → Kept d.guest → begin y hs (image d) ≡ image (begin x hs d)
  unfolding begin
  begins hs d good kept =
      ap (λ (c : ℕ → ℕ). fold (raise y) (record (image d) { harts = change_each idle_hart hs (λ h. run (c h)) d.harts }) (filter (y.guest.is_selected (f d.guest)) hs)) (same_cost d.guest good kept)
      ∙ ap (λ (s : ℕ → Bool). fold (raise y) (record (image d) { harts = change_each idle_hart hs (λ h. run (cost x d.guest h)) d.harts }) (filter s hs)) (same_selected d.guest good kept)
      ∙ raises (filter (x.guest.is_selected d.guest) hs) (record d { harts = change_each idle_hart hs (λ h. run (cost x d.guest h)) d.harts }) (same_cut d.guest good kept)

  retired_through : (r : Retirement G) (p : Option ℕ) (h : ℕ) (d : Delayed G) → Good r.guest → (own_ending r.fate ≡ None → Kept r.guest)
      → (retired_with y (retirement_through f r) p h (image d) ≡ image (retired_with x r p h d)) × ((retired_with x r p h d).ending ≡ None → Kept (retired_with x r p h d).guest)
  retired_through r p h d good kept =
      let visits : ℕ = length (left r p h d).visits in
      let some : Bool = is_any (started_harts h r) || has_load_any (left r p h d).harts in
      let hs : List ℕ = started_harts h r in
      let goes : ending_with x r p h d ≡ None → Kept r.guest = λ none. kept (no_ending x r visits some (left r p h d).retired none).own in (
        ap (λ o. over_or o (image (left r p h d)) (begin y hs (image (credited r p h d)))) (same_ending r visits some (left r p h d).retired)
            ∙ over_through f (ending_with x r p h d) (left r p h d) (begin x hs (credited r p h d)) (begin y hs (image (credited r p h d))) (λ none. begins hs (credited r p h d) good (goes none)),
        over_goes Kept (ending_with x r p h d) (left r p h d) (begin x hs (credited r p h d)) (λ none. subst Kept (sym (begun_guest x hs (credited r p h d))) (goes none)),
      )

  module _ (law : IsLawful x Good) where
    -- the same comes of a move, and what is kept is kept while the run goes on
    abbrev Fits : Delayed H → Delayed G → Type 0
    Fits e d = (e ≡ image d) × (d.ending ≡ None → Kept d.guest)

    retires : (h : ℕ) (d : Delayed G) → Good d.guest → Kept d.guest → x.guest.is_running d.guest h ≡ true → Fits (retire y h (image d)) (retire x h d)
    unfolding retirement
    retires h d good kept runs =
        let v : ℕ = d.now - d.delay in
        let r : Retirement G = x.guest.retire d.guest h v in
        let p : Option ℕ = x.guest.point d.guest h in
        let both = retired_through r p h d (law.stays_good d.guest h v good runs) (follows.stays_kept d.guest h v good kept runs) in (
          retires_so y h (image d)
              ∙ ap₂ (λ r p. retired_with y r p h (image d)) (follows.retires d.guest h v good kept runs) ((follows.alike d.guest good kept).point h)
              ∙ both.0
              ∙ ap image (sym (retires_so x h d)),
          subst (λ (d : Delayed G). d.ending ≡ None → Kept d.guest) (sym (retires_so x h d)) both.1,
        )

    wakes : (h : ℕ) (d : Delayed G) → Good d.guest → Kept d.guest → x.guest.is_sleeping d.guest h ≡ true → Fits (wake y h (image d)) (wake x h d)
    unfolding wake
    wakes h d good kept sleeps =
        let woken : Delayed G = record d { guest = x.guest.wake d.guest h; wakes = d.wakes + 1 } in
        let keeps : Kept woken.guest = follows.wakes_kept d.guest h good kept sleeps in (
          ap (λ g. begin y (h ∷ []) (record (image d) { guest = g; wakes = d.wakes + 1 })) (follows.wakes d.guest h good kept sleeps)
              ∙ begins (h ∷ []) woken (law.wakes_good d.guest h good sleeps) keeps,
          λ none. subst Kept (sym (begun_guest x (h ∷ []) woken)) keeps,
        )

    comes : (h : ℕ) (d : Delayed G) → Good d.guest → Kept d.guest → is_timed x.guest d.guest h ≡ true → Fits (come y h (image d)) (come x h d)
    unfolding come
    comes h d good kept timed =
        subst (λ (b : Bool). Fits (if b then wake y h (image d) else retire y h (image d)) (if x.guest.is_sleeping d.guest h then wake x h d else retire x h d)) (sym ((follows.alike d.guest good kept).is_sleeping h))
        (go (x.guest.is_sleeping d.guest h) refl)
      where
        go : (b : Bool) → x.guest.is_sleeping d.guest h ≡ b → Fits (if b then wake y h (image d) else retire y h (image d)) (if b then wake x h d else retire x h d)
        go true sleeps = wakes h d good kept sleeps
        go false awake = retires h d good kept (or_running x Good law (x.guest.is_sleeping d.guest h) (x.guest.is_running d.guest h) timed awake)

    moves : (n : ℕ) → ((delayed x n).ending ≡ None → Kept (delayed x n).guest) → Fits (move y (image (delayed x n))) (move x (delayed x n))
    unfolding move move_by tick
    moves n kept = go (delayed x n).ending (first_place is_ready (delayed x n).harts) refl refl
      where
        go : (o : Option Ending) (ready : Option ℕ) → (delayed x n).ending ≡ o → first_place is_ready (delayed x n).harts ≡ ready → Fits (move_by y o ready (image (delayed x n))) (move_by x o ready (delayed x n))
        go (Some a) ready e r = (refl, kept)
        go None (Some h) e r = comes h (delayed x n) (always_good x Good law n) (kept e) (ready_timed x Good law n e h r)
        go None None e r = (refl, kept)

    first_fits : Fits (begin y (0 ∷ []) (unbegun y)) (begin x (0 ∷ []) (unbegun x))
    unfolding unbegun
    first_fits = (
      ap (λ g. begin y (0 ∷ []) (record (image (unbegun x)) { guest = g })) follows.first ∙ begins (0 ∷ []) (unbegun x) law.first_good follows.first_kept,
      λ none. subst Kept (sym (begun_guest x (0 ∷ []) (unbegun x))) follows.first_kept,
    )

    pub delayed_fits : (n : ℕ) → Fits (delayed y n) (delayed x n)
    unfolding delayed after
    delayed_fits zero = first_fits
    delayed_fits (suc n) =
        let so_far = delayed_fits n in
        let next = moves n so_far.1 in
        (ap (move y) so_far.0 ∙ next.0, next.1)

    -- the run of y is that of x, with each state mapped
    pub delayed_follows : (n : ℕ) → delayed y n ≡ delayed_through f (delayed x n)
    delayed_follows n = (delayed_fits n).0

    same_record : (d : Delayed G) (a : Ending) → record_of y (image d) a ≡ record_of x d a
    same_record d a = ap (λ o. record { ending = a; time = d.now; delay = d.delay; retired = d.retired; starts = d.starts; output = o; visits = d.visits; accounts = map (λ hart. hart.account) d.harts }) (follows.output d.guest)

    same_outcome : (d : Delayed G) → outcome y (image d) ≡ outcome x d
    same_outcome d = go d.ending
      where
        go : (o : Option Ending) → option_map (record_of y (image d)) o ≡ option_map (record_of x d) o
        go None = refl
        go (Some a) = ap Some (same_record d a)

    outcome_is : (n : ℕ) → outcome y (delayed y n) ≡ outcome x (delayed x n)
    outcome_is n = ap (outcome y) (delayed_follows n) ∙ same_outcome (delayed x n)

    -- the delayed runs end with the same records
    pub delayed_ends : (r : Record) → IsDelayed x r ↔ IsDelayed y r
    delayed_ends r = ((λ e. (e.0, outcome_is e.0 ∙ e.1)), (λ e. (e.0, sym (outcome_is e.0) ∙ e.1)))

    pub standing_follows : (n : ℕ) → standing y n ≡ delayed_through f (standing x n)
    unfolding standing next
    standing_follows zero = delayed_follows 0
    standing_follows (suc n) =
        let r = reached x n in
        let k : ℕ = suc (ticks_left (standing x n).harts) in
        ap (next y) (standing_follows n)
        ∙ ap (λ d. after y k (delayed_through f d)) r.1
        ∙ ap (after y k) (sym (delayed_follows r.0))
        ∙ after_delayed y k r.0
        ∙ delayed_follows (k + r.0)
        ∙ ap (delayed_through f) (sym (after_delayed x k r.0))
        ∙ ap (λ d. delayed_through f (after x k d)) (sym r.1)

    pub record_follows : delayed_record y ≡ delayed_record x
    unfolding delayed_record
    record_follows =
        ap (λ n. record_of y (standing y n) (unwrap_or (standing y n).ending Spent)) (ap (λ n. 2 * n) follows.budget)
        ∙ ap (λ d. record_of y d (unwrap_or d.ending Spent)) (standing_follows (enough x))
        ∙ same_record (standing x (enough x)) (unwrap_or (standing x (enough x)).ending Spent)
