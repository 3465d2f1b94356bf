-- At speedup 0 a selected start changes nothing but its count.
use Rattle.std.proofs.Common.{◌≡◌, ℕ, zero, suc, ◌+◌, ◌*◌, Bool, true, false, ◌==◌, if◌then◌else◌, List, [], ◌∷◌, filter, fold, refl, sym, ap, ap₂, ◌∙◌, Option, Some, None, add-zero, unwrap_or}
use Rattle.std.proofs.Math.Nat.{zero-mul}
use Rattle.coz_types.specs.declared.ending.Ending.{Ending}
use Rattle.coz_types.specs.declared.ending.Ending.TheVariants.{Spent}
use Rattle.machines.specs.Places.{first_place, change_each, change_from}
use Rattle.machines.specs.Guest.{Experiment, cost, cut, ending_after, started_harts, enough}
use Rattle.machines.specs.Lead.{at_speedup}
use Rattle.machines.specs.Delayed.{Delayed, Hart, Load, Account, idle_hart, run, is_ready, over_or, raise, raise_hart, begin, retirement, leave, give_credit, ending, retire, wake, come, tick, move, move_by, unbegun, after, delayed}
use Rattle.machines.specs.Records.{record_of}
use Rattle.machines.specs.Standing.{ticks_left, next, standing, delayed_record}
use Rattle.machines.specs.Selecting.{selecting, uncounted, uncounted_record}

abbrev own_hart : Account → Option Load → ℕ → Hart
own_hart account load n = record { account = record account { own = n }; load = load }

abbrev paused_hart : Account → Load → ℕ → Hart
paused_hart account l n = record { account = account; load = Some (record l { pause = n }) }

-- a raise by nothing
loaded : (h k : ℕ) (account : Account) (load : Option Load) → raise_hart 0 h k (record { account = account; load = load }) ≡ record { account = account; load = load }
loaded h k account None = refl
loaded h k account (Some l) = go (k == h)
  where
    go : (b : Bool) → (if b then own_hart account (Some l) (account.own + 0) else paused_hart account l (l.pause + 0)) ≡ own_hart account (Some l) account.own
    go true = ap (own_hart account (Some l)) (add-zero account.own)
    go false = ap (paused_hart account l) (add-zero l.pause)

raised_by_none : (h k : ℕ) (harts : List Hart) → change_from k (raise_hart 0 h) harts ≡ harts
raised_by_none h k [] = refl
raised_by_none h k (hart ∷ harts) = ap₂ (λ x xs. x ∷ xs) (loaded h k hart.account hart.load) (raised_by_none h (suc k) harts)

module _ {G : Type 0} (x : Experiment G) (none : x.speedup ≡ 0) where
  cut_none : (g : G) (h : ℕ) → cut x g h ≡ 0
  unfolding cut
  cut_none g h = go (x.guest.is_selected g h)
    where
      go : (b : Bool) → (if b then x.speedup * x.guest.cycles g h else 0) ≡ 0
      go true = ap (λ n. n * x.guest.cycles g h) none ∙ zero-mul (x.guest.cycles g h)
      go false = refl

  raised_none : (d : Delayed G) (h : ℕ) → uncounted (raise x d h) ≡ uncounted d
  unfolding raise
  raised_none d h =
      ap (λ n. record d { delay = d.delay + n; harts = change_from 0 (raise_hart n h) d.harts; starts = 0 }) (cut_none d.guest h)
      ∙ ap₂ (λ n hs. record d { delay = n; harts = hs; starts = 0 }) (add-zero d.delay) (raised_by_none h 0 d.harts)

  all_raised : (hs : List ℕ) (d : Delayed G) → uncounted (fold (raise x) d hs) ≡ uncounted d
  all_raised [] d = refl
  all_raised (h ∷ hs) d = all_raised hs (raise x d h) ∙ raised_none d h

  -- what begins changes the loads alone
  begun_none : (hs : List ℕ) (d : Delayed G) → uncounted (begin x hs d) ≡ record d { harts = change_each idle_hart hs (λ h. run (cost x d.guest h)) d.harts; starts = 0 }
  unfolding begin
  begun_none hs d = all_raised (filter (x.guest.is_selected d.guest) hs) (record d { harts = change_each idle_hart hs (λ h. run (cost x d.guest h)) d.harts })

-- with this count of starts
abbrev counting : {G : Type 0} → ℕ → Delayed G → Delayed G
counting n d = record d { starts = n }

abbrev ended : {G : Type 0} → Ending → Delayed G → Delayed G
ended a d = record d { ending = Some a }

uncounted_over : {G : Type 0} (o : Option Ending) (d d' next next' : Delayed G) → uncounted d ≡ uncounted d' → uncounted next ≡ uncounted next' → uncounted (over_or o d next) ≡ uncounted (over_or o d' next')
uncounted_over None d d' next next' e f = f
uncounted_over (Some a) d d' next next' e f = ap (ended a) e

module _ {G : Type 0} (x : Experiment G) (p q : G → ℕ → Bool) where
  abbrev one : Experiment G
  one = at_speedup 0 (selecting p x)

  abbrev other : Experiment G
  other = at_speedup 0 (selecting q x)

  same_begin : (hs : List ℕ) (n : ℕ) (d : Delayed G) → uncounted (begin one hs d) ≡ uncounted (begin other hs (counting n d))
  unfolding cost
  same_begin hs n d = begun_none one refl hs d ∙ sym (begun_none other refl hs (counting n d))

  same_retire : (h n : ℕ) (d : Delayed G) → uncounted (retire one h d) ≡ uncounted (retire other h (counting n d))
  unfolding retire ending retirement leave give_credit ending_after
  same_retire h n d =
      uncounted_over (ending one h d) (leave one h d) (leave other h (counting n d)) (begin one (started_harts h (retirement one h d)) (give_credit one h d)) (begin other (started_harts h (retirement one h d)) (give_credit other h (counting n d)))
      refl (same_begin (started_harts h (retirement one h d)) n (give_credit one h d))

  same_come : (h n : ℕ) (d : Delayed G) (b : Bool) → uncounted (if b then wake one h d else retire one h d) ≡ uncounted (if b then wake other h (counting n d) else retire other h (counting n d))
  unfolding wake
  same_come h n d true = same_begin (h ∷ []) n (record d { guest = x.guest.wake d.guest h; wakes = d.wakes + 1 })
  same_come h n d false = same_retire h n d

  same_move_by : (o : Option Ending) (r : Option ℕ) (n : ℕ) (d : Delayed G) → uncounted (move_by one o r d) ≡ uncounted (move_by other o r (counting n d))
  unfolding move_by tick come
  same_move_by (Some e) r n d = refl
  same_move_by None (Some h) n d = same_come h n d (x.guest.is_sleeping d.guest h)
  same_move_by None None n d = refl

  same_move : (n : ℕ) (d : Delayed G) → uncounted (move one d) ≡ uncounted (move other (counting n d))
  unfolding move
  same_move n d = same_move_by d.ending (first_place is_ready d.harts) n d

  -- at speedup 0 what is selected changes the count of starts alone
  pub unselected : (n : ℕ) → uncounted (delayed (at_speedup 0 (selecting p x)) n) ≡ uncounted (delayed (at_speedup 0 (selecting q x)) n)
  unfolding delayed after unbegun
  unselected zero = same_begin (0 ∷ []) 0 (unbegun one)
  unselected (suc n) =
      let before : Delayed G = delayed other n in
      same_move before.starts (delayed one n)
      ∙ ap (λ d. uncounted (move other (counting before.starts d))) (unselected n)

  same_after : (k n : ℕ) (d : Delayed G) → uncounted (after one n d) ≡ uncounted (after other n (counting k d))
  unfolding after
  same_after k zero d = refl
  same_after k (suc n) d =
      let before : Delayed G = after other n (counting k d) in
      same_move before.starts (after one n d)
      ∙ ap (λ d. uncounted (move other (counting before.starts d))) (same_after k n d)

  -- the same of the states after n retirements and wakes
  pub unselected_standing : (n : ℕ) → uncounted (standing (at_speedup 0 (selecting p x)) n) ≡ uncounted (standing (at_speedup 0 (selecting q x)) n)
  unfolding standing next
  unselected_standing zero = unselected 0
  unselected_standing (suc n) =
      let before : Delayed G = standing other n in
      let d : Delayed G = standing one n in
      same_after before.starts (suc (ticks_left d.harts)) d
      ∙ ap (λ d. uncounted (after other (suc (ticks_left d.harts)) (counting before.starts d))) (unselected_standing n)

  -- and of the records that the runs end with
  pub unselected_record : uncounted_record (delayed_record (at_speedup 0 (selecting p x))) ≡ uncounted_record (delayed_record (at_speedup 0 (selecting q x)))
  unfolding delayed_record
  unselected_record = ap (λ d. uncounted_record (record_of one d (unwrap_or d.ending Spent))) (unselected_standing (enough x))
