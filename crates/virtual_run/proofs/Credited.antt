-- What the delayed machine does to a state, done to the credits that hold its accounts and pauses.
use Rattle.std.proofs.Common.{◌≡◌, ℕ, ◌+◌, ◌-◌, ◌*◌, Bool, true, false, cond, if◌then◌else◌, ◌==◌, List, [], ◌∷◌, map, get_or, filter, fold, refl, sym, ap, ap₂, ◌∙◌, subst, arith, eq-eqb, ne_eqb, ◌⊎◌, inl, inr}
use Rattle.std.proofs.lemmas.Bool.{cases_eq}
use Rattle.std.proofs.Math.ListN.{get_or-map}
use Rattle.machines.specs.Places.{change, change_each, change_from, with_places, is_among}
use Rattle.machines.specs.declared.Fate.{Fate}
use Rattle.machines.specs.declared.Fate.TheVariants.{Goes, Waits, Leaves, Sleeps, Ends}
use Rattle.machines.specs.Guest.{Experiment, cost, cut, is_sleeper}
use Rattle.machines.specs.Delayed.{Hart, Delayed, total, idle_hart, stop, rest, run, credit, raise_hart, account_of, raise, begin, retirement, leave, give_credit}
use Rattle.machines.specs.Steps.{sit_hart, jump}
use Rattle.machines.proofs.Maps.{change_same, change_other, change_all_at, with_places_at}
use Rattle.delay_credits.specs.Delays.{Delays, at}
use Rattle.delay_credits.specs.Ticks.{without_work}
use Rattle.delay_credits.proofs.TicksLemmas.{without_work-sit, without_work-run, without_work-stop, without_work-credit, without_work-raise, all_ticked}
use Rattle.virtual_run.specs.Credited.{AreHeld, Holds, with_credits, with_starts, with_one_raise, with_raises, with_rest}

-- maps of harts, and the same harts without their work
held_by : (h k : ℕ) (f f' : Hart → Hart) (held harts : List Hart) → ((hart : Hart) → without_work (f hart) ≡ f' (without_work hart)) → AreHeld held harts → (h ≡ k) ⊎ (h ≡ k → ⊥)
    → get_or (change idle_hart h f' held) k idle_hart ≡ without_work (get_or (change idle_hart h f harts) k idle_hart)
held_by h k f f' held harts same are (inl is) =
    subst (λ i. get_or (change idle_hart h f' held) i idle_hart ≡ without_work (get_or (change idle_hart h f harts) i idle_hart)) is
    (change_same idle_hart h f' held ∙ ap f' (are h) ∙ sym (same (get_or harts h idle_hart)) ∙ ap without_work (sym (change_same idle_hart h f harts)))
held_by h k f f' held harts same are (inr n) = change_other idle_hart h k f' held n ∙ are k ∙ ap without_work (sym (change_other idle_hart h k f harts n))

pub held_change : (h : ℕ) (f f' : Hart → Hart) (held harts : List Hart) → ((hart : Hart) → without_work (f hart) ≡ f' (without_work hart)) → AreHeld held harts → AreHeld (change idle_hart h f' held) (change idle_hart h f harts)
held_change h f f' held harts same are k = held_by h k f f' held harts same are (cases_eq h k)

pub held_each : (hs : List ℕ) (f f' : ℕ → Hart → Hart) (held harts : List Hart) → ((h : ℕ) (hart : Hart) → without_work (f h hart) ≡ f' h (without_work hart)) → AreHeld held harts
    → AreHeld (change_each idle_hart hs f' held) (change_each idle_hart hs f harts)
held_each [] f f' held harts same are = are
held_each (h ∷ hs) f f' held harts same are = held_each hs f f' (change idle_hart h (f' h) held) (change idle_hart h (f h) harts) same (held_change h (f h) (f' h) held harts (same h) are)

pub held_places : (hs : List ℕ) (held harts : List Hart) → AreHeld held harts → AreHeld held (with_places idle_hart hs harts)
held_places hs held harts are k = are k ∙ ap without_work (sym (with_places_at idle_hart hs k harts))

pub held_sit : (n : ℕ) (held harts : List Hart) → AreHeld held harts → AreHeld (map (sit_hart n) held) (map (sit_hart n) harts)
held_sit n held harts are k =
    get_or-map (sit_hart n) held k idle_hart ∙ ap (sit_hart n) (are k) ∙ sym (without_work-sit n (get_or harts k idle_hart)) ∙ ap without_work (sym (get_or-map (sit_hart n) harts k idle_hart))

pub held_raise : (ticks h : ℕ) (held harts : List Hart) → AreHeld held harts → AreHeld (change_from 0 (raise_hart ticks h) held) (change_from 0 (raise_hart ticks h) harts)
held_raise ticks h held harts are k =
    change_all_at idle_hart (raise_hart ticks h) (λ i. refl) k held
    ∙ ap (raise_hart ticks h k) (are k)
    ∙ sym (without_work-raise ticks h k (get_or harts k idle_hart))
    ∙ ap without_work (sym (change_all_at idle_hart (raise_hart ticks h) (λ i. refl) k harts))

-- the credits at a later moment
pub holds_jump : {G : Type 0} (n now : ℕ) (c : Delays) (d : Delayed G) → now ≡ d.now + n → Holds c d → Holds (at now c) (jump n d)
unfolding jump
holds_jump n now c d later h =
    let latest : c.latest ≡ d.now = h.latest in
    let ticks : n ≡ now - c.latest = omega arith in
    record {
      latest = later;
      raised = h.raised;
      harts = subst (λ (held : List Hart). AreHeld held (map (sit_hart n) d.harts)) (ap (λ m. map (sit_hart m) c.harts) ticks ∙ sym (all_ticked (now - c.latest) c.harts)) (held_sit n c.harts d.harts h.harts);
    }

pub among_more : (b c : Bool) → c ≡ true → (if b then true else c) ≡ true
among_more true c e = refl
among_more false c e = e

-- of a list's harts that pass a test
among_by : (b : Bool) (k h : ℕ) (hs : List ℕ) → is_among k (cond b (h ∷ hs) hs) ≡ true → ((k ≡ h) × (b ≡ true)) ⊎ (is_among k hs ≡ true)
among_by false k h hs e = inr e
among_by true k h hs e = go (cases_eq k h)
  where
    go : (k ≡ h) ⊎ (k ≡ h → ⊥) → ((k ≡ h) × (true ≡ true)) ⊎ (is_among k hs ≡ true)
    go (inl same) = inl (same, refl)
    go (inr n) = inr (rw (ne_eqb k h n) at e)

pub among_filter : (test : ℕ → Bool) (k : ℕ) (hs : List ℕ) → is_among k (filter test hs) ≡ true → (test k ≡ true) × (is_among k hs ≡ true)
among_filter test k [] e = absurd (let no : false ≡ true = e in cc)
among_filter test k (h ∷ hs) e = go (among_by (test h) k h (filter test hs) e) (λ i. among_filter test k hs i)
  where
    go : ((k ≡ h) × (test h ≡ true)) ⊎ (is_among k (filter test hs) ≡ true) → (is_among k (filter test hs) ≡ true → (test k ≡ true) × (is_among k hs ≡ true)) → (test k ≡ true) × (is_among k (h ∷ hs) ≡ true)
    go (inl s) below = (ap test s.0 ∙ s.1, rw (eq-eqb k h s.0) refl)
    go (inr i) below = let b = below i in (b.0, among_more (k == h) (is_among k hs) b.1)

-- what retiring to this fate makes of a hart, without its work
abbrev pub rest_of : Fate → Hart → Hart
rest_of fate = if is_sleeper fate then run 0 else stop

without_rest : (fate : Fate) (net : ℕ) (hart : Hart) → without_work (rest fate net hart) ≡ rest_of fate (without_work hart)
without_rest Goes net hart = without_work-stop hart
without_rest Waits net hart = without_work-stop hart
without_rest Leaves net hart = without_work-stop hart
without_rest (Sleeps moment) net hart = without_work-run (moment - net) hart
without_rest (Ends ending) net hart = without_work-stop hart

pub with_rest_is : (h : ℕ) (fate : Fate) (now : ℕ) (c : Delays) → with_rest h fate now c ≡ record (at now c) { harts = change idle_hart h (rest_of fate) (at now c).harts }
with_rest_is h Goes now c = refl
with_rest_is h Waits now c = refl
with_rest_is h Leaves now c = refl
with_rest_is h (Sleeps moment) now c = refl
with_rest_is h (Ends ending) now c = refl

module _ {G : Type 0} (x : Experiment G) where
  -- a hart retires
  pub holds_leave : (h now : ℕ) (c : Delays) (d : Delayed G) → Holds (at now c) d → Holds (with_rest h (retirement x h d).fate now c) (leave x h d)
  unfolding leave
  holds_leave h now c d holds =
      let fate : Fate = (retirement x h d).fate in
      let stopped : List Hart = change idle_hart h (rest_of fate) (at now c).harts in
      rw (with_rest_is h fate now c)
      (record {
        latest = holds.latest;
        raised = holds.raised;
        harts = held_places (retirement x h d).others stopped (change idle_hart h (rest fate (d.now - d.delay)) d.harts)
            (held_change h (rest fate (d.now - d.delay)) (rest_of fate) (at now c).harts d.harts (λ hart. without_rest fate (d.now - d.delay) hart) holds.harts);
      })

  -- those that it made or woke are credited
  pub holds_credit : (h : ℕ) (c : Delays) (d : Delayed G) → total (account_of d.harts h) ≡ d.delay → Holds c (leave x h d) → Holds (with_credits (retirement x h d).others c) (give_credit x h d)
  unfolding give_credit leave
  holds_credit h c d all holds =
      let goal : c.raised ≡ total (account_of d.harts h) = holds.raised ∙ sym all in
      record {
        latest = holds.latest;
        raised = holds.raised;
        harts = rw goal (held_each (retirement x h d).others (λ _. credit (total (account_of d.harts h))) (λ _. credit (total (account_of d.harts h))) c.harts (leave x h d).harts (λ _. without_work-credit (total (account_of d.harts h))) holds.harts);
      }

  holds_one : (h ticks : ℕ) (c : Delays) (d : Delayed G) → ticks ≡ cut x d.guest h → Holds c d → Holds (with_one_raise ticks h c) (raise x d h)
  unfolding raise
  holds_one h ticks c d is holds = record {
    latest = holds.latest;
    raised = ap₂ (λ m n. m + n) holds.raised is;
    harts = rw (← is) (held_raise ticks h c.harts d.harts holds.harts);
  }

  raise_guest : (h : ℕ) (d : Delayed G) → (raise x d h).guest ≡ d.guest
  unfolding raise
  raise_guest h d = refl

  -- harts raise the delay in turn
  pub holds_raises : (hs : List ℕ) (ticks : ℕ → ℕ) (c : Delays) (d : Delayed G) → ((h : ℕ) → is_among h hs ≡ true → ticks h ≡ cut x d.guest h) → Holds c d → Holds (with_raises ticks hs c) (fold (raise x) d hs)
  holds_raises [] ticks c d are holds = holds
  holds_raises (h ∷ hs) ticks c d are holds =
      holds_raises hs ticks (with_one_raise (ticks h) h c) (raise x d h)
      (λ k among. are k (among_more (k == h) (is_among k hs) among) ∙ ap (λ g. cut x g k) (sym (raise_guest h d)))
      (holds_one h (ticks h) c d (are h (rw (eq-eqb h h refl) refl)) holds)

  selected_cut : (g : G) (h : ℕ) → x.guest.is_selected g h ≡ true → x.speedup * x.guest.cycles g h ≡ cut x g h
  unfolding cut
  selected_cut g h e = rw e refl

  -- harts begin
  pub holds_begin : (hs : List ℕ) (ticks : ℕ → ℕ) (c : Delays) (d : Delayed G) → ((h : ℕ) → ticks h ≡ x.speedup * x.guest.cycles d.guest h) → Holds c d
      → Holds (with_raises ticks (filter (x.guest.is_selected d.guest) hs) (with_starts hs c)) (begin x hs d)
  unfolding begin
  holds_begin hs ticks c d are holds =
      let ready : Delayed G = record d { harts = change_each idle_hart hs (λ h. run (cost x d.guest h)) d.harts } in
      let starts : Holds (with_starts hs c) ready = record {
        latest = holds.latest;
        raised = holds.raised;
        harts = held_each hs (λ h. run (cost x d.guest h)) (λ _. run 0) c.harts d.harts (λ h. without_work-run (cost x d.guest h)) holds.harts;
      } in
      holds_raises (filter (x.guest.is_selected d.guest) hs) ticks (with_starts hs c) ready
      (λ h among. are h ∙ selected_cut d.guest h (among_filter (x.guest.is_selected d.guest) h hs among).0) starts
