-- A step of the delayed machine, on the credits that hold its accounts and pauses.
use Rattle.std.proofs.Common.{◌≡◌, ℕ, suc, ◌+◌, ◌-◌, ◌*◌, ◌≤◌, true, false, List, [], ◌∷◌, ◌++◌, length, get_or, filter, refl, sym, ap, ap₂, ◌∙◌, subst, arith, eqb-true, Option, Some, None, is_some, option_map, option_to_list, ◌⊎◌, inl, inr}
use Rattle.std.proofs.lemmas.Bool.{cases_eq}
use Rattle.coz_types.specs.declared.ending.Ending.{Ending}
use Rattle.machines.specs.declared.Fate.{Fate}
use Rattle.machines.specs.declared.Fate.TheVariants.{Goes, Waits, Leaves, Sleeps, Ends}
use Rattle.machines.specs.Guest.{Experiment, Retirement, IsLawful, started_harts, is_timed}
use Rattle.machines.specs.Delayed.{Account, Load, Hart, Visit, Delayed, total, idle_hart, is_ready, has_load, run, account_of, over_or, begin, retirement, leave, give_credit, ending, retire, wake}
use Rattle.machines.specs.Shortened.{Shortened, Turn, next_turn, shortened}
use Rattle.machines.specs.Agreement.{Agrees}
use Rattle.machines.specs.Steps.{Passes, jump}
use Rattle.machines.specs.Standing.{standing}
use Rattle.machines.proofs.Maps.{change_same, change_other}
use Rattle.machines.proofs.Turns.{first_is, turn_has}
use Rattle.machines.proofs.Harts.{alike}
use Rattle.machines.proofs.Retire.{Ready, ready_is, account_at}
use Rattle.machines.proofs.Short.{Lives}
use Rattle.machines.proofs.Ends.{goes_on_at}
use Rattle.machines.proofs.Begin.{unchanged}
use Rattle.machines.proofs.Stepping.{begin_frame}
use Rattle.machines.proofs.Standing.{StepsBy, steps_is, agrees, jump_agrees, visit_of, retire_visits}
use Rattle.delay_credits.specs.Delays.{Delays, hart_at, pause_of, at}
use Rattle.delay_credits.specs.Ticks.{without_work}
use Rattle.virtual_run.specs.Credited.{Holds, with_credits, with_starts, with_raises, with_rest, with_wake}
use Rattle.virtual_run.proofs.CreditedBounds.{begin_starts, credit_starts}
use Rattle.virtual_run.proofs.Credited.{rest_of, with_rest_is, holds_jump, holds_leave, holds_credit, holds_begin}

-- a hart without its work
pub runs_held : (hart : Hart) → has_load (without_work hart) ≡ has_load hart
runs_held hart = go hart.account hart.load
  where
    go : (a : Account) (o : Option Load) → has_load (without_work (record { account = a; load = o })) ≡ is_some o
    go a None = refl
    go a (Some l) = refl

account_held : (hart : Hart) → (without_work hart).account ≡ hart.account
account_held hart = go hart.account hart.load
  where
    go : (a : Account) (o : Option Load) → (without_work (record { account = a; load = o })).account ≡ a
    go a None = refl
    go a (Some l) = refl

-- one that is ready has no pause before it
unpaused_ready : (hart : Hart) → is_ready hart ≡ true → pause_of (without_work hart) ≡ 0
unpaused_ready hart r = go hart.account hart.load r
  where
    go : (a : Account) (o : Option Load) → is_ready (record { account = a; load = o }) ≡ true → pause_of (without_work (record { account = a; load = o })) ≡ 0
    go a None r = refl
    go a (Some l) r = let none : l.work + l.pause ≡ 0 = eqb-true _ _ r in omega arith

-- so it is as one that has just begun with no pause
still_ready : (hart : Hart) → is_ready hart ≡ true → run 0 (without_work hart) ≡ without_work hart
still_ready hart r = go hart.account hart.load r
  where
    go : (a : Account) (o : Option Load) → is_ready (record { account = a; load = o }) ≡ true → run 0 (without_work (record { account = a; load = o })) ≡ without_work (record { account = a; load = o })
    go a None r = absurd (let no : false ≡ true = r in cc)
    go a (Some l) r = let sum : l.work + l.pause ≡ 0 = eqb-true _ _ r in let none : l.pause ≡ 0 = omega arith in cc

-- a run that ends with a retirement, or goes on
over_ended : {G : Type 0} (o : Option Ending) (d next : Delayed G) (a : Ending) → next.ending ≡ None → (over_or o d next).ending ≡ Some a → over_or o d next ≡ record d { ending = Some a }
over_ended None d next a none e = absurd (let no : ◌≡◌ {A = Option Ending} None (Some a) = sym none ∙ e in cc)
over_ended (Some b) d next a none e = ap (λ (o : Option Ending). record d { ending = o }) e

over_goes : {G : Type 0} (o : Option Ending) (d next : Delayed G) → (over_or o d next).ending ≡ None → over_or o d next ≡ next
over_goes None d next e = refl
over_goes (Some b) d next e = absurd (let no : ◌≡◌ {A = Option Ending} (Some b) None = e in cc)

module _ {G : Type 0} (x : Experiment G) where
  credit_ending : (h : ℕ) (d : Delayed G) → (give_credit x h d).ending ≡ d.ending
  unfolding give_credit leave
  credit_ending h d = refl

  retire_ended : (h : ℕ) (d : Delayed G) (a : Ending) → d.ending ≡ None → (retire x h d).ending ≡ Some a → retire x h d ≡ record (leave x h d) { ending = Some a }
  unfolding retire
  retire_ended h d a none e =
      let hs : List ℕ = started_harts h (retirement x h d) in
      over_ended (ending x h d) (leave x h d) (begin x hs (give_credit x h d)) a (ap (λ o. o.ending) (begin_frame x hs (give_credit x h d)) ∙ credit_ending h d ∙ none) e

  retire_goes : (h : ℕ) (d : Delayed G) → (retire x h d).ending ≡ None → retire x h d ≡ begin x (started_harts h (retirement x h d)) (give_credit x h d)
  unfolding retire
  retire_goes h d e = over_goes (ending x h d) (leave x h d) (begin x (started_harts h (retirement x h d)) (give_credit x h d)) e

  credit_guest : (h : ℕ) (d : Delayed G) → (give_credit x h d).guest ≡ (retirement x h d).guest
  unfolding give_credit leave
  credit_guest h d = refl

  retirement_is : (h due : ℕ) (d : Delayed G) (g : G) → d.guest ≡ g → d.now - d.delay ≡ due → retirement x h d ≡ x.guest.retire g h due
  unfolding retirement
  retirement_is h due d g same moment = ap₂ (λ g v. x.guest.retire g h v) same moment

  leave_now : (h : ℕ) (d : Delayed G) → (leave x h d).now ≡ d.now
  unfolding leave
  leave_now h d = refl

  jump_parts : (n : ℕ) (d : Delayed G) → ((jump n d).now ≡ d.now + n) × ((jump n d).delay ≡ d.delay) × ((jump n d).guest ≡ d.guest) × ((jump n d).ending ≡ d.ending) × ((jump n d).visits ≡ d.visits) × ((jump n d).starts ≡ d.starts)
  unfolding jump
  jump_parts n d = (refl, refl, refl, refl, refl, refl)

  unfoldable pub visit_at : (h : ℕ) (now delay : ℕ) (g : G) → List Visit
  visit_at h now delay g = option_to_list (option_map (λ p. record { point = p; hart = h; time = now; delay = delay }) (x.guest.point g h))

module _ {G : Type 0} (x : Experiment G) (Good : G → Type 0) (law : IsLawful x Good) where
  -- hart t.hart has the next turn, at the real time now, from the state after n events, which the credits hold
  pub record IsNext (n : ℕ) (t : Turn) (now : ℕ) (c : Delays) : Type 0 where
    pub goes : (standing x n).ending ≡ None
    pub turn : next_turn (shortened x n).dues ≡ Some t
    pub moment : now ≡ t.due + c.raised
    pub holds : Holds c (standing x n)

  module _ (n : ℕ) (t : Turn) (now : ℕ) (c : Delays) (next : IsNext n t now c) where
    abbrev d : Delayed G
    d = standing x n

    abbrev k : ℕ
    k = t.due + d.delay - d.now

    abbrev s : Shortened G
    s = shortened x n

    steps : StepsBy x Good law n t k
    steps = steps_is x Good law n t next.goes next.turn

    both : Agrees (jump k d) s
    both = jump_agrees x k d s (agrees x Good law n) next.goes steps.ticks

    now_is : now ≡ d.now + k
    now_is = next.moment ∙ ap (λ m. t.due + m) next.holds.raised ∙ sym steps.moment

    -- the moment isn't earlier
    pub later : c.latest ≤ now
    later = let latest : c.latest ≡ d.now = next.holds.latest in let is : now ≡ d.now + k = now_is in omega arith

    held : Holds (at now c) (jump k d)
    held = holds_jump k now c d now_is next.holds

    this_ready : is_ready (get_or (jump k d).harts t.hart idle_hart) ≡ true
    this_ready = (first_is idle_hart is_ready (jump k d).harts t.hart steps.ready).passes

    ready : Ready (jump k d).now (jump k d).delay (get_or (jump k d).harts t.hart idle_hart).account (get_or s.dues t.hart None)
    ready =
        let this : Hart = get_or (jump k d).harts t.hart idle_hart in
        ready_is (jump k d).now (jump k d).delay this.account this.load (get_or s.dues t.hart None) (both.harts t.hart) this_ready

    -- the hart has no pause before it then
    pub unpaused : pause_of (hart_at (at now c) t.hart) ≡ 0
    unpaused = ap pause_of (held.harts t.hart) ∙ unpaused_ready (get_or (jump k d).harts t.hart idle_hart) this_ready

    -- it is then as one that has just begun with no pause
    pub still : run 0 (hart_at (at now c) t.hart) ≡ hart_at (at now c) t.hart
    still = subst (λ (hart : Hart). run 0 hart ≡ hart) (sym (held.harts t.hart)) (still_ready (get_or (jump k d).harts t.hart idle_hart) this_ready)

    due_is : (jump k d).now - (jump k d).delay ≡ t.due
    due_is =
        let m : d.now + k ≡ t.due + d.delay = steps.moment in
        let due : d.now + k - d.delay ≡ t.due = omega arith in
        ap₂ (λ m n. m - n) (jump_parts x k d).0 (jump_parts x k d).1 ∙ due

    lives : Lives x Good s
    lives = (goes_on_at x Good law n (sym (agrees x Good law n).ending ∙ next.goes)).lives

    -- the hart counts as running, if it sleeps too
    pub running : has_load (hart_at c t.hart) ≡ true
    running =
        let this : Hart = get_or d.harts t.hart idle_hart in
        ap has_load (next.holds.harts t.hart)
        ∙ runs_held this
        ∙ alike d.now d.delay this.account this.load (get_or s.dues t.hart None) ((agrees x Good law n).harts t.hart)
        ∙ ap is_some (turn_has s.dues t next.turn)

    raised_is : c.raised ≡ (jump k d).delay
    raised_is = next.holds.raised ∙ sym (jump_parts x k d).1

    -- its total is all that was raised, also once it has stopped
    pub whole : total (hart_at (at now c) t.hart).account ≡ c.raised
    whole =
        let this : Hart = get_or (jump k d).harts t.hart idle_hart in
        ap (λ (o : Hart). total o.account) (held.harts t.hart) ∙ ap total (account_held this) ∙ ready.has_all ∙ sym raised_is

    account_rested : (fate : Fate) (hart : Hart) → (rest_of fate hart).account ≡ hart.account
    account_rested Goes hart = refl
    account_rested Waits hart = refl
    account_rested Leaves hart = refl
    account_rested (Sleeps moment) hart = refl
    account_rested (Ends ending) hart = refl

    -- also once it stops, or sleeps
    pub whole_stopped : (fate : Fate) → total (hart_at (with_rest t.hart fate now c) t.hart).account ≡ c.raised
    whole_stopped fate =
        ap (λ (o : Delays). total (hart_at o t.hart).account) (with_rest_is t.hart fate now c)
        ∙ ap (λ (o : Hart). total o.account) (change_same idle_hart t.hart (rest_of fate) (at now c).harts)
        ∙ ap total (account_rested fate (hart_at (at now c) t.hart))
        ∙ whole

    timed_here : is_timed x.guest s.guest t.hart ≡ true
    timed_here = lives.running t.hart ∙ ap is_some (turn_has s.dues t next.turn)

    idle_by : (fate : Fate) (i : ℕ) → is_timed x.guest s.guest i ≡ false → (t.hart ≡ i) ⊎ (t.hart ≡ i → ⊥) → has_load (hart_at (with_rest t.hart fate now c) i) ≡ false
    idle_by fate i none (inl same) = absurd (let no : true ≡ false = sym timed_here ∙ ap (is_timed x.guest s.guest) same ∙ none in cc)
    idle_by fate i none (inr other) =
        let that : Hart = get_or (jump k d).harts i idle_hart in
        ap (λ (o : Delays). has_load (hart_at o i)) (with_rest_is t.hart fate now c)
        ∙ ap has_load (change_other idle_hart t.hart i (rest_of fate) (at now c).harts other ∙ held.harts i)
        ∙ runs_held that
        ∙ alike (jump k d).now (jump k d).delay that.account that.load (get_or s.dues i None) (both.harts i)
        ∙ sym (lives.running i)
        ∙ none

    -- a hart that neither runs nor sleeps doesn't run after it
    pub idle : (fate : Fate) (i : ℕ) → is_timed x.guest s.guest i ≡ false → has_load (hart_at (with_rest t.hart fate now c) i) ≡ false
    idle fate i none = idle_by fate i none (cases_eq t.hart i)

    jump_goes : (jump k d).ending ≡ None
    jump_goes = (jump_parts x k d).3 ∙ next.goes

    same_guest : d.guest ≡ s.guest
    same_guest = (agrees x Good law n).guest

    -- it runs, and retires
    module _ (awake : x.guest.is_sleeping s.guest t.hart ≡ false) where
      is : standing x (suc n) ≡ retire x t.hart (jump k d)
      is = (steps.retires (ap (λ g. x.guest.is_sleeping g t.hart) same_guest ∙ awake)).0

      retires : retirement x t.hart (jump k d) ≡ x.guest.retire s.guest t.hart t.due
      retires = retirement_is x t.hart t.due (jump k d) s.guest both.guest due_is

      stopped : Holds (with_rest t.hart (retirement x t.hart (jump k d)).fate now c) (leave x t.hart (jump k d))
      stopped = holds_leave x t.hart now c (jump k d) held

      -- the run ends
      pub holds_ended : (a : Ending) (fate : Fate) → fate ≡ (x.guest.retire s.guest t.hart t.due).fate → (standing x (suc n)).ending ≡ Some a → Holds (with_rest t.hart fate now c) (standing x (suc n))
      holds_ended a fate given e =
          let j : Delayed G = jump k d in
          let ends_as : standing x (suc n) ≡ record (leave x t.hart j) { ending = Some a } = is ∙ retire_ended x t.hart j a jump_goes (ap (λ (o : Delayed G). o.ending) (sym is) ∙ e) in
          let same : (retirement x t.hart j).fate ≡ fate = ap (λ (r : Retirement G). r.fate) retires ∙ sym given in
          subst (λ (f : Fate). Holds (with_rest t.hart f now c) (standing x (suc n))) same
          (subst (Holds (with_rest t.hart (retirement x t.hart j).fate now c)) (sym ends_as) (record { latest = stopped.latest; raised = stopped.raised; harts = stopped.harts }))

      -- the credits after a retirement from which the run goes on
      abbrev pub begun : (ℕ → ℕ) → Retirement G → Delays
      begun ticks r = with_raises ticks (filter (x.guest.is_selected r.guest) (started_harts t.hart r)) (with_starts (started_harts t.hart r) (with_credits r.others (with_rest t.hart r.fate now c)))

      begins : (ticks : ℕ → ℕ) → let r : Retirement G = retirement x t.hart (jump k d) in
          ((h : ℕ) → ticks h ≡ x.speedup * x.guest.cycles r.guest h) → Holds (begun ticks r) (begin x (started_harts t.hart r) (give_credit x t.hart (jump k d)))
      begins ticks are =
          let j : Delayed G = jump k d in
          let r : Retirement G = retirement x t.hart j in
          let all : total (account_of j.harts t.hart) ≡ j.delay = ap total (account_at t.hart j.harts) ∙ ready.has_all in
          let credits : Holds (with_credits r.others (with_rest t.hart r.fate now c)) (give_credit x t.hart j) = holds_credit x t.hart (with_rest t.hart r.fate now c) j all stopped in
          subst
          (λ (g : G). ((h : ℕ) → ticks h ≡ x.speedup * x.guest.cycles g h)
          → Holds (with_raises ticks (filter (x.guest.is_selected g) (started_harts t.hart r)) (with_starts (started_harts t.hart r) (with_credits r.others (with_rest t.hart r.fate now c)))) (begin x (started_harts t.hart r) (give_credit x t.hart j)))
          (credit_guest x t.hart j)
          (λ are. holds_begin x (started_harts t.hart r) ticks (with_credits r.others (with_rest t.hart r.fate now c)) (give_credit x t.hart j) are credits)
          are

      pub holds_goes : (ticks : ℕ → ℕ) (r : Retirement G) → r ≡ x.guest.retire s.guest t.hart t.due → ((h : ℕ) → ticks h ≡ x.speedup * x.guest.cycles r.guest h) → (standing x (suc n)).ending ≡ None
          → Holds (begun ticks r) (standing x (suc n))
      holds_goes ticks r given are none =
          let j : Delayed G = jump k d in
          let same : retirement x t.hart j ≡ r = retires ∙ sym given in
          let begun_is : standing x (suc n) ≡ begin x (started_harts t.hart (retirement x t.hart j)) (give_credit x t.hart j) = is ∙ retire_goes x t.hart j (ap (λ (o : Delayed G). o.ending) (sym is) ∙ none) in
          subst (Holds (begun ticks r)) (sym begun_is)
          (subst (λ (q : Retirement G). Holds (begun ticks q) (begin x (started_harts t.hart (retirement x t.hart j)) (give_credit x t.hart j))) same
          (begins ticks (λ h. are h ∙ ap (λ (q : Retirement G). x.speedup * x.guest.cycles q.guest h) (sym same))))

      -- the visit of the hart, if there is one
      pub visits_next : (standing x (suc n)).visits ≡ d.visits ++ visit_at x t.hart now c.raised s.guest
      unfolding visit_at
      visits_next =
          let j : Delayed G = jump k d in
          let p = jump_parts x k d in
          ap (λ (o : Delayed G). o.visits) is
          ∙ retire_visits x t.hart j
          ∙ ap (λ (vs : List Visit). vs ++ visit_of x t.hart j) p.4
          ∙ ap (λ (vs : List Visit). d.visits ++ vs) (visit_is j.now j.delay j.guest (p.0 ∙ sym now_is) (sym raised_is) both.guest)
        where
          visit_is : (m e : ℕ) (g : G) → m ≡ now → e ≡ c.raised → g ≡ s.guest → visit_at x t.hart m e g ≡ visit_at x t.hart now c.raised s.guest
          visit_is m e g is_now is_raised is_guest = rw (is_now, is_raised, is_guest) refl

      -- each selected hart that begins is a start
      pub starts_next : (r : Retirement G) → r ≡ x.guest.retire s.guest t.hart t.due → (standing x (suc n)).ending ≡ None
          → (standing x (suc n)).starts ≡ d.starts + length (filter (x.guest.is_selected r.guest) (started_harts t.hart r))
      starts_next r given none =
          let j : Delayed G = jump k d in
          let q : Retirement G = retirement x t.hart j in
          let same : q ≡ r = retires ∙ sym given in
          let begun_is : standing x (suc n) ≡ begin x (started_harts t.hart q) (give_credit x t.hart j) = is ∙ retire_goes x t.hart j (ap (λ (o : Delayed G). o.ending) (sym is) ∙ none) in
          ap (λ (o : Delayed G). o.starts) begun_is
          ∙ begin_starts x (started_harts t.hart q) (give_credit x t.hart j)
          ∙ ap₂ (λ (m : ℕ) (g : G). m + length (filter (x.guest.is_selected g) (started_harts t.hart q))) ((credit_starts x t.hart j).0 ∙ (jump_parts x k d).5) (credit_guest x t.hart j)
          ∙ ap (λ (o : Retirement G). d.starts + length (filter (x.guest.is_selected o.guest) (started_harts t.hart o))) same

    -- it sleeps, and wakes
    module _ (asleep : x.guest.is_sleeping s.guest t.hart ≡ true) where
      slept : x.guest.is_sleeping d.guest t.hart ≡ true
      slept = ap (λ g. x.guest.is_sleeping g t.hart) same_guest ∙ asleep

      abbrev unbegun_wake : Delayed G
      unbegun_wake = record (jump k d) { guest = x.guest.wake (jump k d).guest t.hart; wakes = (jump k d).wakes + 1 }

      is_begun : standing x (suc n) ≡ begin x (t.hart ∷ []) unbegun_wake
      unfolding wake
      is_begun = (steps.wakes slept).0

      pub passes_wake : Passes x d (standing x (suc n))
      passes_wake = (steps.wakes slept).1

      wake_guest : unbegun_wake.guest ≡ x.guest.wake s.guest t.hart
      wake_guest = ap (λ g. x.guest.wake g t.hart) both.guest

      frame : unchanged unbegun_wake (standing x (suc n)) ≡ unbegun_wake
      frame = ap (unchanged unbegun_wake) is_begun ∙ begin_frame x (t.hart ∷ []) unbegun_wake

      pub goes_wake : (standing x (suc n)).ending ≡ None
      goes_wake = ap (λ o. o.ending) frame ∙ jump_goes

      pub visits_wake : (standing x (suc n)).visits ≡ d.visits
      visits_wake = ap (λ o. o.visits) frame ∙ (jump_parts x k d).4

      pub starts_wake : (standing x (suc n)).starts ≡ d.starts + length (filter (x.guest.is_selected (x.guest.wake s.guest t.hart)) (t.hart ∷ []))
      starts_wake =
          ap (λ o. o.starts) is_begun ∙ begin_starts x (t.hart ∷ []) unbegun_wake
          ∙ ap₂ (λ (m : ℕ) (g : G). m + length (filter (x.guest.is_selected g) (t.hart ∷ []))) (jump_parts x k d).5 wake_guest

      pub holds_wake : (ticks : ℕ → ℕ) (g : G) → g ≡ x.guest.wake s.guest t.hart → ((h : ℕ) → ticks h ≡ x.speedup * x.guest.cycles g h)
          → Holds (with_wake ticks t.hart (filter (x.guest.is_selected g) (t.hart ∷ [])) (at now c)) (standing x (suc n))
      holds_wake ticks g given are =
          let same : unbegun_wake.guest ≡ g = wake_guest ∙ sym given in
          subst (Holds (with_wake ticks t.hart (filter (x.guest.is_selected g) (t.hart ∷ [])) (at now c))) (sym is_begun)
          (subst (λ (o : G). Holds (with_wake ticks t.hart (filter (x.guest.is_selected o) (t.hart ∷ [])) (at now c)) (begin x (t.hart ∷ []) unbegun_wake)) same
          (holds_begin x (t.hart ∷ []) ticks (at now c) unbegun_wake (λ h. are h ∙ ap (λ (o : G). x.speedup * x.guest.cycles o h) (sym same))
          (record { latest = held.latest; raised = held.raised; harts = held.harts })))
