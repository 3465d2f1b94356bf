-- A guest that follows another one begins what the other one begins, with each guest mapped.
use Rattle.std.proofs.Common.{◌≡◌, ℕ, zero, suc, ◌+◌, ◌-◌, ◌*◌, ◌++◌, ◌||◌, Bool, true, false, if◌then◌else◌, List, [], ◌∷◌, map, length, refl, sym, ap, ap₂, ◌∙◌, Option, Some, None, option_map, option_to_list}
use Rattle.std.proofs.lemmas.List.{map-append}
use Rattle.std.proofs.lemmas.List.Sums.{sum_by-cons}
use Rattle.coz_types.specs.declared.ending.Ending.{Ending}
use Rattle.machines.specs.Places.{first_place, change, with_places}
use Rattle.machines.specs.Guest.{Experiment, Retirement, IsLawful, cost, ending_after, started_harts}
use Rattle.machines.specs.Delayed.{Delayed, idle_hart, rest, is_ready, is_any, has_load_any, retirement, leave, give_credit, ending, tick, after, delayed}
use Rattle.machines.specs.Standing.{ticks_left, standing}
use Rattle.machines.specs.Lead.{ended_or, left, woken, turned, before_by, before_move, before}
use Rattle.machines.proofs.LeadForks.{before_guest}
use Rattle.machines.proofs.Standing.{reached}
use Rattle.machines.proofs.Stepping.{after_delayed}
use Rattle.timing_laws.specs.Following.{delayed_through, Follows}
use Rattle.timing_laws.proofs.Follows.{same_ending, always_good, ready_timed, delayed_fits, delayed_follows, standing_follows}
use Rattle.run_counts.specs.Beginnings.{Beginning, beginnings, begun, cost_among, cost_if}

-- an instruction that begins, with the guest mapped
abbrev pub beginning_through : {G H : Type 0} → (G → H) → Beginning G → Beginning H
beginning_through f b = record { guest = f b.guest; hart = b.hart }

-- how a run ends with the retirement r of a hart at the point p
abbrev ending_with : {G : Type 0} → Experiment G → Retirement G → Option ℕ → ℕ → Delayed G → Option Ending
ending_with x r p h d =
    ending_after x r (length (d.visits ++ option_to_list (option_map (λ p. record { point = p; hart = h; time = d.now; delay = d.delay }) p)))
    (is_any (started_harts h r) || has_load_any (with_places idle_hart r.others (change idle_hart h (rest r.fate (d.now - d.delay)) d.harts)))
    (d.retired + 1)

-- the harts that begin if the run doesn't end
abbrev unless : Option Ending → List ℕ → List ℕ
unless None harts = harts
unless (Some e) harts = []

module _ {G : Type 0} (x : Experiment G) where
  left_so : (h : ℕ) (d : Delayed G) → (left x h d).harts ≡ unless (ending_with x (retirement x h d) (x.guest.point d.guest h) h d) (started_harts h (retirement x h d))
  unfolding left ending leave
  left_so h d = go (ending_with x (retirement x h d) (x.guest.point d.guest h) h d)
    where
      go : (o : Option Ending) → (ended_or o (leave x h d) (record { state = give_credit x h d; harts = started_harts h (retirement x h d) })).harts ≡ unless o (started_harts h (retirement x h d))
      go None = refl
      go (Some e) = refl

module _ {G H : Type 0} (x : Experiment G) (y : Experiment H) (f : G → H) (Good Kept : G → Type 0) (follows : Follows x y f Good Kept) (law : IsLawful x Good) where
  abbrev image : Delayed G → Delayed H
  image d = delayed_through f d

  -- where the run has come to
  abbrev at : ℕ → Delayed G
  at n = delayed x n

  left_follows : (n h : ℕ) → (at n).ending ≡ None → x.guest.is_running (at n).guest h ≡ true → (left y h (image (at n))).harts ≡ (left x h (at n)).harts
  unfolding retirement
  left_follows n h goes runs =
      let d : Delayed G = at n in
      let good : Good d.guest = always_good x Good law n in
      let kept : Kept d.guest = (delayed_fits x y f Good Kept follows law n).1 goes in
      let v : ℕ = d.now - d.delay in
      let r : Retirement G = x.guest.retire d.guest h v in
      let p : Option ℕ = x.guest.point d.guest h in
      left_so y h (image d)
      ∙ ap₂ (λ (s : Retirement H) (q : Option ℕ). unless (ending_with y s q h (image d)) (started_harts h s)) (follows.retires d.guest h v good kept runs) ((follows.alike d.guest good kept).point h)
      ∙ ap (λ (o : Option Ending). unless o (started_harts h r))
      (same_ending x y f Good Kept follows r (length (d.visits ++ option_to_list (option_map (λ p. record { point = p; hart = h; time = d.now; delay = d.delay }) p)))
      (is_any (started_harts h r) || has_load_any (with_places idle_hart r.others (change idle_hart h (rest r.fate (d.now - d.delay)) d.harts))) (d.retired + 1))
      ∙ sym (left_so x h d)

  or_running : (a b : Bool) → (a || b) ≡ true → a ≡ false → b ≡ true
  or_running true b e g = absurd (let no : true ≡ false = g in cc)
  or_running false b e g = e

  turned_follows : (n h : ℕ) → (at n).ending ≡ None → first_place is_ready (at n).harts ≡ Some h → (turned y h (image (at n))).harts ≡ (turned x h (at n)).harts
  unfolding turned woken
  turned_follows n h goes ready =
      let d : Delayed G = at n in
      let good : Good d.guest = always_good x Good law n in
      let kept : Kept d.guest = (delayed_fits x y f Good Kept follows law n).1 goes in
      ap (λ (b : Bool). (if b then woken y h (image d) else left y h (image d)).harts) ((follows.alike d.guest good kept).is_sleeping h)
      ∙ go (x.guest.is_sleeping d.guest h) refl
    where
      go : (b : Bool) → x.guest.is_sleeping (at n).guest h ≡ b → (if b then woken y h (image (at n)) else left y h (image (at n))).harts ≡ (if b then woken x h (at n) else left x h (at n)).harts
      go true asleep = refl
      go false awake =
          left_follows n h goes (or_running (x.guest.is_sleeping (at n).guest h) (x.guest.is_running (at n).guest h) (ready_timed x Good law n goes h ready) awake)

  moved_follows : (n : ℕ) → (before_move y (image (at n))).harts ≡ (before_move x (at n)).harts
  unfolding before_move before_by tick
  moved_follows n = go (at n).ending (first_place is_ready (at n).harts) refl refl
    where
      go : (o : Option Ending) (ready : Option ℕ) → (at n).ending ≡ o → first_place is_ready (at n).harts ≡ ready → (before_by y o ready (image (at n))).harts ≡ (before_by x o ready (at n)).harts
      go (Some e) ready is r = refl
      go None (Some h) is r = turned_follows n h is r
      go None None is r = refl

  harts_follow : (n : ℕ) → (before y n).harts ≡ (before x n).harts
  unfolding before
  harts_follow zero = refl
  harts_follow (suc n) =
      let r = reached x n in
      let k : ℕ = ticks_left (standing x n).harts in
      ap (λ (d : Delayed H). (before_move y (after y (ticks_left d.harts) d)).harts) (standing_follows x y f Good Kept follows law n)
      ∙ ap (λ (d : Delayed G). (before_move y (after y k (image d))).harts) r.1
      ∙ ap (λ (d : Delayed H). (before_move y (after y k d)).harts) (sym (delayed_follows x y f Good Kept follows law r.0))
      ∙ ap (λ (d : Delayed H). (before_move y d).harts) (after_delayed y k r.0 ∙ delayed_follows x y f Good Kept follows law (k + r.0))
      ∙ moved_follows (k + r.0)
      ∙ ap (λ (d : Delayed G). (before_move x d).harts) (sym (after_delayed x k r.0) ∙ ap (after x k) (sym r.1))

  guest_follows : (n : ℕ) → (before y n).state.guest ≡ f (before x n).state.guest
  guest_follows n =
      sym (before_guest y n)
      ∙ ap (λ (d : Delayed H). d.guest) (standing_follows x y f Good Kept follows law n)
      ∙ ap f (before_guest x n)

  each_through : (g : G) (hs : List ℕ) → map (λ h. record { guest = f g; hart = h }) hs ≡ map (beginning_through f) (map (λ h. record { guest = g; hart = h }) hs)
  each_through g [] = refl
  each_through g (h ∷ hs) = ap (λ (bs : List (Beginning H)). record { guest = f g; hart = h } ∷ bs) (each_through g hs)

  beginnings_follow : (n : ℕ) → beginnings (before y n) ≡ map (beginning_through f) (beginnings (before x n))
  beginnings_follow n =
      ap₂ (λ (g : H) (hs : List ℕ). map (λ h. record { guest = g; hart = h }) hs) (guest_follows n) (harts_follow n)
      ∙ each_through (before x n).state.guest (before x n).harts

  -- y begins what x begins
  pub begun_follows : (n : ℕ) → begun y n ≡ map (beginning_through f) (begun x n)
  unfolding begun
  begun_follows zero = beginnings_follow 0
  begun_follows (suc n) =
      ap₂ (λ (bs cs : List (Beginning H)). bs ++ cs) (begun_follows n) (beginnings_follow (suc n))
      ∙ sym (map-append (beginning_through f) (begun x n) (beginnings (before x (suc n))))

module _ {G H : Type 0} (x : Experiment G) (y : Experiment H) (f : G → H) (same : (g : G) (h : ℕ) → y.guest.cycles (f g) h ≡ x.guest.cycles g h) where
  cost_same : (g : G) (h : ℕ) → cost y (f g) h ≡ cost x g h
  unfolding cost
  cost_same g h = ap (λ (n : ℕ). 100 * n) (same g h)

  -- at the same cycles what passes a test takes the same work
  pub cost_follows : (test : H → ℕ → Bool) (own : G → ℕ → Bool) → ((g : G) (h : ℕ) → test (f g) h ≡ own g h) → (bs : List (Beginning G))
      → cost_among y test (map (beginning_through f) bs) ≡ cost_among x own bs
  cost_follows test own alike [] = refl
  cost_follows test own alike (b ∷ bs) =
      sum_by-cons (cost_if y test) (beginning_through f b) (map (beginning_through f) bs)
      ∙ ap₂ (λ (m n : ℕ). m + n)
      (ap₂ (λ (t : Bool) (n : ℕ). if t then n else 0) (alike b.guest b.hart) (cost_same b.guest b.hart))
      (cost_follows test own alike bs)
      ∙ sym (sum_by-cons (cost_if x own) b bs)
