-- At speedup 0 the delayed machine delays nothing.
use Rattle.std.proofs.Common.{◌≡◌, ℕ, zero, suc, ◌+◌, ◌-◌, ◌*◌, ◌≤◌, Bool, true, false, if◌then◌else◌, List, [], ◌∷◌, filter, fold, map, replicate, length, get_or, refl, sym, ap, ap₂, ◌∙◌, subst, Option, Some, None, add-zero, arith, option_map, option_to_list}
use Rattle.std.specs.List.{All}
use Rattle.std.proofs.Math.Nat.{zero-mul}
use Rattle.std.proofs.lemmas.List.Elements.{All-nil, All-cons, All-append}
use Rattle.coz_types.specs.declared.ending.Ending.{Ending}
use Rattle.machines.specs.Places.{first_place, change_each}
use Rattle.machines.specs.Guest.{Experiment, IsLawful, cost, cut, enough, started_harts}
use Rattle.machines.specs.Delayed.{Account, Delayed, Hart, Load, Visit, idle_hart, is_ready, over_or, run, raise, begin, retirement, leave, give_credit, ending, retire, wake, come, tick, move_by, move, unbegun, after, delayed}
use Rattle.machines.specs.Records.{Record, IsDelayed, net, net_visit, outcome, record_of, shortened_record}
use Rattle.machines.specs.Agreement.{LoadAgrees}
use Rattle.machines.specs.Standing.{standing, delayed_record}
use Rattle.machines.proofs.Standing.{agrees, delayed_is, net_is}
use Rattle.run_counts.proofs.Undelayed.{undelayed}
use Rattle.plain_run.specs.Laws.{no_account, undelayed_visit, undelayed_record}

abbrev pub IsStillVisit : Visit → Type 0
IsStillVisit v = v.delay ≡ 0

one_still : (o : Option ℕ) (h now delay : ℕ) → delay ≡ 0 → All IsStillVisit (option_to_list (option_map (λ p. record { point = p; hart = h; time = now; delay = delay }) o))
one_still None h now delay is = All-nil IsStillVisit
one_still (Some p) h now delay is = All-cons IsStillVisit (record { point = p; hart = h; time = now; delay = delay }) [] is (All-nil IsStillVisit)

module _ {G : Type 0} (x : Experiment G) (none : x.speedup ≡ 0) where
  pub record IsStill (d : Delayed G) : Type 0 where
    pub delay : d.delay ≡ 0
    pub visits : All IsStillVisit d.visits

  cut_none : (g : G) (h : ℕ) → cut x g h ≡ 0
  unfolding cut
  cut_none g h = go (x.guest.is_selected g h)
    where
      go : (b : Bool) → (if b then x.speedup * x.guest.cycles g h else 0) ≡ 0
      go true = ap (λ n. n * x.guest.cycles g h) none ∙ zero-mul (x.guest.cycles g h)
      go false = refl

  raise_still : (d : Delayed G) (h : ℕ) → IsStill d → IsStill (raise x d h)
  unfolding raise
  raise_still d h s = record { delay = ap (λ n. d.delay + n) (cut_none d.guest h) ∙ add-zero d.delay ∙ s.delay; visits = s.visits }

  raises_still : (hs : List ℕ) (d : Delayed G) → IsStill d → IsStill (fold (raise x) d hs)
  raises_still [] d s = s
  raises_still (h ∷ hs) d s = raises_still hs (raise x d h) (raise_still d h s)

  begin_still : (hs : List ℕ) (d : Delayed G) → IsStill d → IsStill (begin x hs d)
  unfolding begin
  begin_still hs d s =
      raises_still (filter (x.guest.is_selected d.guest) hs) (record d { harts = change_each idle_hart hs (λ h. run (cost x d.guest h)) d.harts })
      (record { delay = s.delay; visits = s.visits })

  leave_still : (h : ℕ) (d : Delayed G) → IsStill d → IsStill (leave x h d)
  unfolding leave
  leave_still h d s = record {
    delay = s.delay;
    visits = All-append IsStillVisit d.visits _ s.visits (one_still (x.guest.point d.guest h) h d.now d.delay s.delay);
  }

  credit_still : (h : ℕ) (d : Delayed G) → IsStill d → IsStill (give_credit x h d)
  unfolding give_credit
  credit_still h d s = let l = leave_still h d s in record { delay = l.delay; visits = l.visits }

  retire_still : (h : ℕ) (d : Delayed G) → IsStill d → IsStill (retire x h d)
  unfolding retire
  retire_still h d s = go (ending x h d)
    where
      go : (o : Option Ending) → IsStill (over_or o (leave x h d) (begin x (started_harts h (retirement x h d)) (give_credit x h d)))
      go None = begin_still (started_harts h (retirement x h d)) (give_credit x h d) (credit_still h d s)
      go (Some e) = let l = leave_still h d s in record { delay = l.delay; visits = l.visits }

  wake_still : (h : ℕ) (d : Delayed G) → IsStill d → IsStill (wake x h d)
  unfolding wake
  wake_still h d s = begin_still (h ∷ []) (record d { guest = x.guest.wake d.guest h; wakes = d.wakes + 1 }) (record { delay = s.delay; visits = s.visits })

  come_still : (h : ℕ) (d : Delayed G) → IsStill d → IsStill (come x h d)
  unfolding come
  come_still h d s = go (x.guest.is_sleeping d.guest h)
    where
      go : (b : Bool) → IsStill (if b then wake x h d else retire x h d)
      go true = wake_still h d s
      go false = retire_still h d s

  tick_still : (d : Delayed G) → IsStill d → IsStill (tick x d)
  unfolding tick
  tick_still d s = record { delay = s.delay; visits = s.visits }

  move_still : (d : Delayed G) → IsStill d → IsStill (move x d)
  unfolding move move_by
  move_still d s = go d.ending (first_place is_ready d.harts)
    where
      go : (o : Option Ending) (r : Option ℕ) → IsStill (move_by x o r d)
      go (Some e) r = s
      go None (Some h) = come_still h d s
      go None None = tick_still d s

  after_still : (n : ℕ) (d : Delayed G) → IsStill d → IsStill (after x n d)
  unfolding after
  after_still zero d s = s
  after_still (suc n) d s = move_still (after x n d) (after_still n d s)

  unbegun_still : IsStill (unbegun x)
  unfolding unbegun
  unbegun_still = record { delay = refl; visits = All-nil IsStillVisit }

  pub delayed_still : (n : ℕ) → IsStill (delayed x n)
  unfolding delayed
  delayed_still n = after_still n (begin x (0 ∷ []) (unbegun x)) (begin_still (0 ∷ []) (unbegun x) unbegun_still)

  record_of_some : (d : Delayed G) (r : Record) → IsStill d → outcome x d ≡ Some r → (r.delay ≡ 0) × All IsStillVisit r.visits
  record_of_some d r s is = by d.ending is
    where
      by : (o : Option Ending) → option_map (λ (e : Ending). record_of x d e) o ≡ Some r → (r.delay ≡ 0) × All IsStillVisit r.visits
      by None is = absurd (let e : ◌≡◌ {A = Option Record} None (Some r) = is in cc)
      by (Some e) same =
          let one : record_of x d e ≡ r = cc in
          (ap (λ (o : Record). o.delay) (sym one) ∙ s.delay, subst (λ (o : Record). All IsStillVisit o.visits) one s.visits)

  -- the record of a run has no delays
  pub still_record : (r : Record) → IsDelayed x r → (r.delay ≡ 0) × All IsStillVisit r.visits
  still_record r ends = record_of_some (delayed x ends.0) r (delayed_still ends.0) ends.1

-- ---- the whole record

abbrev total_in : Account → ℕ
total_in a = a.own + a.paused + a.credited

no_rest : (own paused credited : ℕ) → own + paused + credited ≤ 0 → (own ≡ 0) × (paused ≡ 0) × (credited ≡ 0)
no_rest own paused credited small = (omega arith, omega arith, omega arith)

account_is : (own paused credited : ℕ) → own ≡ 0 → paused ≡ 0 → credited ≡ 0
    → (let a : Account = record { own = own; paused = paused; credited = credited } in a) ≡ no_account
account_is own paused credited a b c = cc

none_in : (a : Account) → total_in a ≤ 0 → a ≡ no_account
none_in a small = let parts = no_rest a.own a.paused a.credited small in account_is a.own a.paused a.credited parts.0 parts.1 parts.2

agreed : (now delay : ℕ) (a : Account) (o : Option Load) (due : Option ℕ) → delay ≡ 0 → LoadAgrees now delay a o due → total_in a ≤ 0
agreed now delay a None None is h = omega arith
agreed now delay a (Some l) (Some due) is h = let all = h.0 in omega (arith, all, is)
agreed now delay a (Some l) None is h = absurd h
agreed now delay a None (Some due) is h = absurd h

all_none : (accounts : List Account) → ((k : ℕ) → get_or accounts k no_account ≡ no_account) → accounts ≡ replicate (length accounts) no_account
all_none [] none = refl
all_none (a ∷ accounts) none = ap₂ (λ (b : Account) (bs : List Account). b ∷ bs) (none 0) (all_none accounts (λ k. none (suc k)))

still_visit : (v : Visit) → v.delay ≡ 0 → v ≡ undelayed_visit (net_visit v)
still_visit v is = by v.point v.hart v.time v.delay is
  where
    by : (point hart time delay : ℕ) → delay ≡ 0 → (let v : Visit = record { point = point; hart = hart; time = time; delay = delay } in v) ≡ record { point = point; hart = hart; time = time - delay; delay = 0 }
    by point hart time delay is = let all : time ≡ time - delay = omega arith in cc

still_visits : (visits : List Visit) → All IsStillVisit visits → visits ≡ map undelayed_visit (map net_visit visits)
still_visits [] still = refl
still_visits (v ∷ visits) still =
    ap₂ (λ (w : Visit) (ws : List Visit). w ∷ ws) (still_visit v (still 0 v (omega arith))) (still_visits visits (λ i d below. still (suc i) d (omega arith)))

same_record : (r : Record) (n : ℕ) → r.delay ≡ 0 → All IsStillVisit r.visits → r.accounts ≡ replicate n no_account → r ≡ undelayed_record n (net r)
same_record r n is still none = by r.ending r.time r.delay r.retired r.starts r.output r.visits r.accounts is (still_visits r.visits still) none
  where
    by : (e : Ending) (time delay retired starts : ℕ) (output : List ℕ) (visits : List Visit) (accounts : List Account) → delay ≡ 0 → visits ≡ map undelayed_visit (map net_visit visits) → accounts ≡ replicate n no_account
        → (let r : Record = record { ending = e; time = time; delay = delay; retired = retired; starts = starts; output = output; visits = visits; accounts = accounts } in r)
        ≡ record { ending = e; time = time - delay; delay = 0; retired = retired; starts = starts; output = output; visits = map undelayed_visit (map net_visit visits); accounts = replicate n no_account }
    by e time delay retired starts output visits accounts is same none =
        let all : time ≡ time - delay = omega arith in
        ap₂ (λ (vs : List Visit) (xs : List Account). let r : Record = record { ending = e; time = time; delay = delay; retired = retired; starts = starts; output = output; visits = vs; accounts = xs } in r) same none
        ∙ ap₂ (λ (t d : ℕ). let r : Record = record { ending = e; time = t; delay = d; retired = retired; starts = starts; output = output; visits = map undelayed_visit (map net_visit visits); accounts = replicate n no_account } in r) all is

account_at : (harts : List Hart) (k : ℕ) → get_or (map (λ hart. hart.account) harts) k no_account ≡ (get_or harts k idle_hart).account
account_at [] k = refl
account_at (hart ∷ harts) zero = refl
account_at (hart ∷ harts) (suc k) = account_at harts k

module _ {G : Type 0} (x : Experiment G) (Good : G → Type 0) (law : IsLawful x Good) (some_budget : 1 ≤ x.budget) (none : x.speedup ≡ 0) where
  abbrev d : Delayed G
  d = standing x (enough x)

  accounts_none : (k : ℕ) → get_or (map (λ hart. hart.account) d.harts) k no_account ≡ no_account
  accounts_none k =
      account_at d.harts k
      ∙ none_in (get_or d.harts k idle_hart).account
      (agreed d.now d.delay (get_or d.harts k idle_hart).account (get_or d.harts k idle_hart).load _ (undelayed x none (enough x)) ((agrees x Good law (enough x)).harts k))

  accounts_are : (delayed_record x).accounts ≡ replicate (length (delayed_record x).accounts) no_account
  unfolding delayed_record
  accounts_are = all_none (map (λ hart. hart.account) d.harts) accounts_none

  -- the record of a run at speedup 0
  pub undelayed_is : delayed_record x ≡ undelayed_record (length (delayed_record x).accounts) (shortened_record x)
  undelayed_is =
      let still = still_record x none (delayed_record x) (delayed_is x Good law some_budget) in
      same_record (delayed_record x) (length (delayed_record x).accounts) still.0 still.1 accounts_are
      ∙ ap (undelayed_record (length (delayed_record x).accounts)) (net_is x Good law some_budget)
