-- Each account of a delayed state is of a hart that was made.
use Rattle.std.proofs.Common.{◌≡◌, ℕ, zero, suc, ◌+◌, ◌-◌, ◌≤◌, ◌<◌, max, Bool, true, false, if◌then◌else◌, ◌==◌, List, [], ◌∷◌, length, filter, fold, refl, sym, ap, ◌∙◌, subst, arith, eq-eqb, ne_eqb, Option, Some, None, ◌⊎◌, inl, inr}
use Rattle.std.proofs.lemmas.Bool.{cases_eq}
use Rattle.std.proofs.lemmas.List.{length-map}
use Rattle.coz_types.specs.declared.ending.Ending.{Ending}
use Rattle.machines.specs.Places.{change, change_each, change_from, is_among}
use Rattle.machines.specs.Guest.{Experiment, IsLawful, goes_on, cost, cut, started_harts}
use Rattle.machines.specs.Delayed.{Hart, Delayed, total, idle_hart, rest, run, credit, raise_hart, account_of, over_or, raise, begin, retirement, leave, give_credit, ending, retire, wake, unbegun, after, delayed}
use Rattle.machines.specs.Shortened.{Shortened, shortened}
use Rattle.machines.specs.Steps.{sit_hart, jump}
use Rattle.machines.specs.Standing.{ticks_left, standing}
use Rattle.machines.proofs.Retire.{turn}
use Rattle.machines.proofs.Short.{Lives, turn_runs}
use Rattle.machines.proofs.Ends.{goes_on_at}
use Rattle.machines.proofs.Stepping.{begin_frame, wake_frame}
use Rattle.machines.proofs.Standing.{Comes, agrees}
use Rattle.virtual_run.proofs.CreditedBounds.{standing_zero, turned, next_by}

-- how many places there are once each of these numbers has one
abbrev pub places : List ℕ → ℕ → ℕ
places [] n = n
places (h ∷ hs) n = places hs (max n (suc h))

pub places_kept : (hs : List ℕ) (n : ℕ) → ((k : ℕ) → is_among k hs ≡ true → k < n) → places hs n ≡ n
places_kept [] n below = refl
places_kept (h ∷ hs) n below =
    let first : h < n = below h (rw (eq-eqb h h refl) refl) in
    let same : max n (suc h) ≡ n = omega arith in
    ap (places hs) same ∙ places_kept hs n (λ k among. below k (more (k == h) (is_among k hs) among))
  where
    more : (b c : Bool) → c ≡ true → (if b then true else c) ≡ true
    more true c e = refl
    more false c e = e

places_from : (hs : List ℕ) (n : ℕ) → n ≤ places hs n
places_from [] n = omega arith
places_from (h ∷ hs) n = let rest : max n (suc h) ≤ places hs (max n (suc h)) = places_from hs (max n (suc h)) in omega arith

pub places_above : (hs : List ℕ) (n k : ℕ) → is_among k hs ≡ true → k < places hs n
places_above [] n k e = absurd (let no : false ≡ true = e in cc)
places_above (h ∷ hs) n k e = go (cases_eq k h) (λ more. places_above hs (max n (suc h)) k more)
  where
    go : (k ≡ h) ⊎ (k ≡ h → ⊥) → (is_among k hs ≡ true → k < places hs (max n (suc h))) → k < places (h ∷ hs) n
    go (inl same) rest = let up : max n (suc h) ≤ places hs (max n (suc h)) = places_from hs (max n (suc h)) in omega arith
    go (inr other) rest = rest (rw (ne_eqb k h other) at e)

change_places : (h : ℕ) (f : Hart → Hart) (harts : List Hart) → length (change idle_hart h f harts) ≡ max (length harts) (suc h)
change_places zero f [] = refl
change_places zero f (hart ∷ harts) = let e : suc (length harts) ≡ max (suc (length harts)) 1 = omega arith in e
change_places (suc h) f [] = let below : length (change idle_hart h f []) ≡ max 0 (suc h) = change_places h f [] in let e : suc (length (change idle_hart h f [])) ≡ max 0 (suc (suc h)) = omega arith in e
change_places (suc h) f (hart ∷ harts) =
    let below : length (change idle_hart h f harts) ≡ max (length harts) (suc h) = change_places h f harts in
    let e : suc (length (change idle_hart h f harts)) ≡ max (suc (length harts)) (suc (suc h)) = omega arith in
    e

each_places : (hs : List ℕ) (f : ℕ → Hart → Hart) (harts : List Hart) → length (change_each idle_hart hs f harts) ≡ places hs (length harts)
each_places [] f harts = refl
each_places (h ∷ hs) f harts = each_places hs f (change idle_hart h (f h) harts) ∙ ap (places hs) (change_places h (f h) harts)

from_length : (f : ℕ → Hart → Hart) (i : ℕ) (harts : List Hart) → length (change_from i f harts) ≡ length harts
from_length f i [] = refl
from_length f i (hart ∷ harts) = ap suc (from_length f (suc i) harts)

started_by : (k h : ℕ) (goes : Bool) (others : List ℕ) → is_among k (if goes then h ∷ others else others) ≡ true → (k ≡ h) ⊎ (is_among k others ≡ true)
started_by k h false others e = inr e
started_by k h true others e = go (cases_eq k h)
  where
    go : (k ≡ h) ⊎ (k ≡ h → ⊥) → (k ≡ h) ⊎ (is_among k others ≡ true)
    go (inl same) = inl same
    go (inr n) = inr (rw (ne_eqb k h n) at e)

module _ {G : Type 0} (x : Experiment G) where
  raises_places : (hs : List ℕ) (d : Delayed G) → length (fold (raise x) d hs).harts ≡ length d.harts
  unfolding raise
  raises_places [] d = refl
  raises_places (h ∷ hs) d = raises_places hs (raise x d h) ∙ from_length (raise_hart (cut x d.guest h) h) 0 d.harts

  begin_places : (hs : List ℕ) (d : Delayed G) → length (begin x hs d).harts ≡ places hs (length d.harts)
  unfolding begin
  begin_places hs d =
      raises_places (filter (x.guest.is_selected d.guest) hs) (record d { harts = change_each idle_hart hs (λ h. run (cost x d.guest h)) d.harts })
      ∙ each_places hs (λ h. run (cost x d.guest h)) d.harts

  leave_places : (h : ℕ) (d : Delayed G) → h < length d.harts → length (leave x h d).harts ≡ places (retirement x h d).others (length d.harts)
  unfolding leave
  leave_places h d below =
      let same : max (length d.harts) (suc h) ≡ length d.harts = omega arith in
      each_places (retirement x h d).others (λ _ o. o) (change idle_hart h (rest (retirement x h d).fate (d.now - d.delay)) d.harts) ∙ ap (places (retirement x h d).others) (change_places h (rest (retirement x h d).fate (d.now - d.delay)) d.harts ∙ same)

  credit_places : (h : ℕ) (d : Delayed G) → length (give_credit x h d).harts ≡ places (retirement x h d).others (length (leave x h d).harts)
  unfolding give_credit
  credit_places h d = each_places (retirement x h d).others (λ _. credit (total (account_of d.harts h))) (leave x h d).harts

  guest_is : (h : ℕ) (d : Delayed G) → ((leave x h d).guest ≡ (retirement x h d).guest) × ((give_credit x h d).guest ≡ (retirement x h d).guest)
  unfolding give_credit leave
  guest_is h d = (refl, refl)

  jump_places : (k : ℕ) (d : Delayed G) → (length (jump k d).harts ≡ length d.harts) × ((jump k d).guest ≡ d.guest)
  unfolding jump
  jump_places k d = (length-map d.harts (sit_hart k), refl)

-- a guest counts the harts that were made: hart 0 at first, and then those that retirements make
pub record IsCounted {G : Type 0} (x : Experiment G) (Good : G → Type 0) (count : G → ℕ) : Type 0 where
  pub first : count x.first ≡ 1
  pub made : (g : G) (h : ℕ) → Good g → x.guest.is_running g h ≡ true → h < count g
  pub grows : (g : G) (h v : ℕ) → Good g → x.guest.is_running g h ≡ true → count (x.guest.retire g h v).guest ≡ places (x.guest.retire g h v).others (count g)
  pub woken : (g : G) (h : ℕ) → Good g → x.guest.is_sleeping g h ≡ true → (h < count g) × (count (x.guest.wake g h) ≡ count g)

module _ {G : Type 0} (x : Experiment G) (Good : G → Type 0) (law : IsLawful x Good) (count : G → ℕ) (counted : IsCounted x Good count) where
  -- as many accounts as harts that were made
  abbrev pub HasEach : Delayed G → Type 0
  HasEach d = length d.harts ≡ count d.guest

  over_has : (o : Option Ending) (d next : Delayed G) → HasEach d → HasEach next → HasEach (over_or o d next)
  over_has None d next a b = b
  over_has (Some e) d next a b = a

  begin_guest : (hs : List ℕ) (d : Delayed G) → (begin x hs d).guest ≡ d.guest
  begin_guest hs d = ap (λ o. o.guest) (begin_frame x hs d)

  -- what holds as hart h retires
  pub record Retiring (h : ℕ) (d : Delayed G) : Type 0 where
    pub each : HasEach d
    pub made : h < count d.guest
    pub grows : count (retirement x h d).guest ≡ places (retirement x h d).others (count d.guest)

  leave_has : (h : ℕ) (d : Delayed G) → Retiring h d → HasEach (leave x h d)
  leave_has h d r =
      let below : h < length d.harts = rw r.each r.made in
      leave_places x h d below ∙ ap (places (retirement x h d).others) r.each ∙ sym r.grows ∙ sym (ap count (guest_is x h d).0)

  begin_has : (h : ℕ) (d : Delayed G) → Retiring h d → HasEach (begin x (started_harts h (retirement x h d)) (give_credit x h d))
  begin_has h d r =
      let others : List ℕ = (retirement x h d).others in
      let n : ℕ = length (leave x h d).harts in
      let below : h < length d.harts = rw r.each r.made in
      let left : n ≡ places others (length d.harts) = leave_places x h d below in
      let up : length d.harts ≤ places others (length d.harts) = places_from others (length d.harts) in
      let each : (k : ℕ) → is_among k others ≡ true → k < n = λ k among. subst (λ m. k < m) (sym left) (places_above others (length d.harts) k among) in
      let credited : length (give_credit x h d).harts ≡ n = credit_places x h d ∙ places_kept others n each in
      let all : (k : ℕ) → is_among k (started_harts h (retirement x h d)) ≡ true → k < length (give_credit x h d).harts =
      λ k among. subst (λ m. k < m) (sym credited) (below_by k n (started_by k h (goes_on (retirement x h d).fate) others among) each (omega arith)) in
      begin_places x (started_harts h (retirement x h d)) (give_credit x h d)
      ∙ places_kept (started_harts h (retirement x h d)) (length (give_credit x h d).harts) all
      ∙ credited ∙ leave_has h d r ∙ ap count ((guest_is x h d).0 ∙ sym (guest_is x h d).1 ∙ sym (begin_guest (started_harts h (retirement x h d)) (give_credit x h d)))
    where
      below_by : (k n : ℕ) → (k ≡ h) ⊎ (is_among k (retirement x h d).others ≡ true) → ((i : ℕ) → is_among i (retirement x h d).others ≡ true → i < n) → h < n → k < n
      below_by k n (inl same) each own = rw same own
      below_by k n (inr among) each own = each k among

  retire_has : (h : ℕ) (d : Delayed G) → Retiring h d → HasEach (retire x h d)
  unfolding retire
  retire_has h d r = over_has (ending x h d) (leave x h d) (begin x (started_harts h (retirement x h d)) (give_credit x h d)) (leave_has h d r) (begin_has h d r)

  just : (k h n : ℕ) → is_among k (h ∷ []) ≡ true → h < n → k < n
  just k h n among below = go (cases_eq k h) among
    where
      go : (k ≡ h) ⊎ (k ≡ h → ⊥) → (if k == h then true else false) ≡ true → k < n
      go (inl same) e = rw same below
      go (inr n) e = absurd (let no : false ≡ true = rw (ne_eqb k h n) at e in cc)

  -- a wake makes no hart
  wake_has : (h : ℕ) (d : Delayed G) → HasEach d → (h < count d.guest) × (count (x.guest.wake d.guest h) ≡ count d.guest) → HasEach (wake x h d)
  unfolding wake
  wake_has h d each made =
      let woken : Delayed G = record d { guest = x.guest.wake d.guest h; wakes = d.wakes + 1 } in
      let below : h < length d.harts = rw each made.0 in
      begin_places x (h ∷ []) woken ∙ places_kept (h ∷ []) (length d.harts) (λ k among. just k h (length d.harts) among below)
      ∙ each ∙ sym made.1 ∙ sym (ap count (begin_guest (h ∷ []) woken))

  unfold_retirement : (h : ℕ) (d : Delayed G) → retirement x h d ≡ x.guest.retire d.guest h (d.now - d.delay)
  unfolding retirement
  unfold_retirement h d = refl

  first_has : HasEach (delayed x 0)
  unfolding delayed after unbegun
  first_has = begin_places x (0 ∷ []) (unbegun x) ∙ sym counted.first ∙ sym (ap count (begin_guest (0 ∷ []) (unbegun x)))

  lives_at : (n : ℕ) → (standing x n).ending ≡ None → Lives x Good (shortened x n)
  lives_at n none = (goes_on_at x Good law n (sym (agrees x Good law n).ending ∙ none)).lives

  turned_guest : (n : ℕ) → (turned x Good law n).guest ≡ (shortened x n).guest
  turned_guest n = (jump_places x (ticks_left (standing x n).harts) (standing x n)).1 ∙ (agrees x Good law n).guest

  turned_has : (n : ℕ) → HasEach (standing x n) → HasEach (turned x Good law n)
  turned_has n has = let p = jump_places x (ticks_left (standing x n).harts) (standing x n) in p.0 ∙ has ∙ sym (ap count p.1)

  waking : (n h : ℕ) → (standing x n).ending ≡ None → x.guest.is_sleeping (turned x Good law n).guest h ≡ true → HasEach (standing x n) → HasEach (wake x h (turned x Good law n))
  waking n h none asleep has =
      let j : Delayed G = turned x Good law n in
      wake_has h j (turned_has n has) (counted.woken j.guest h (subst Good (sym (turned_guest n)) (lives_at n none).good) asleep)

  retiring : (n h : ℕ) → (standing x n).ending ≡ None → Comes x Good law (standing x n) (shortened x n) h → x.guest.is_sleeping (turned x Good law n).guest h ≡ false → HasEach (standing x n)
      → Retiring h (turned x Good law n)
  retiring n h none r awake has =
      let s : Shortened G = shortened x n in
      let j : Delayed G = turned x Good law n in
      let runs : x.guest.is_running j.guest h ≡ true =
      ap (λ (g : G). x.guest.is_running g h) (turned_guest n) ∙ turn_runs x Good law s (turn x h j) (lives_at n none) r.turn (ap (λ (g : G). x.guest.is_sleeping g h) (sym (turned_guest n)) ∙ awake) in
      let good : Good j.guest = subst Good (sym (turned_guest n)) (lives_at n none).good in
      record {
        each = turned_has n has;
        made = counted.made j.guest h good runs;
        grows = rw (unfold_retirement h j) (counted.grows j.guest h (j.now - j.delay) good runs);
      }

  pub standing_has : (n : ℕ) → HasEach (standing x n)
  standing_has zero = subst HasEach (sym (standing_zero x)) first_has
  standing_has (suc n) =
      next_by x Good law HasEach n (standing_has n) (λ h none r asleep. waking n h none asleep (standing_has n)) (λ h none r awake. retire_has h (turned x Good law n) (retiring n h none r awake (standing_has n)))

over_guest : {G : Type 0} (o : Option Ending) (d next : Delayed G) (g : G) → d.guest ≡ g → next.guest ≡ g → (over_or o d next).guest ≡ g
over_guest None d next g a b = b
over_guest (Some e) d next g a b = a

module _ {G : Type 0} (x : Experiment G) (Good : G → Type 0) (law : IsLawful x Good) where
  retire_guest : (h : ℕ) (d : Delayed G) → (retire x h d).guest ≡ (retirement x h d).guest
  unfolding retire
  retire_guest h d =
      let hs : List ℕ = started_harts h (retirement x h d) in
      over_guest (ending x h d) (leave x h d) (begin x hs (give_credit x h d)) (retirement x h d).guest (guest_is x h d).0 (ap (λ o. o.guest) (begin_frame x hs (give_credit x h d)) ∙ (guest_is x h d).1)

  made_by : (h : ℕ) (d : Delayed G) → (retirement x h d).guest ≡ (x.guest.retire d.guest h (d.now - d.delay)).guest
  unfolding retirement
  made_by h d = refl

  first_guest : (delayed x 0).guest ≡ x.first
  unfolding delayed after unbegun
  first_guest = ap (λ o. o.guest) (begin_frame x (0 ∷ []) (unbegun x))

  turned_good : (n : ℕ) → (standing x n).ending ≡ None → Good (turned x Good law n).guest
  turned_good n none =
      let same : (turned x Good law n).guest ≡ (shortened x n).guest = (jump_places x (ticks_left (standing x n).harts) (standing x n)).1 ∙ (agrees x Good law n).guest in
      subst Good (sym same) (goes_on_at x Good law n (sym (agrees x Good law n).ending ∙ none)).lives.good

  woken_good : (n h : ℕ) → (standing x n).ending ≡ None → x.guest.is_sleeping (turned x Good law n).guest h ≡ true → Good (wake x h (turned x Good law n)).guest
  woken_good n h none asleep =
      let j : Delayed G = turned x Good law n in
      subst Good (sym (ap (λ o. o.guest) (wake_frame x h j))) (law.wakes_good j.guest h (turned_good n none) asleep)

  still_good : (n h : ℕ) → (standing x n).ending ≡ None → Comes x Good law (standing x n) (shortened x n) h → x.guest.is_sleeping (turned x Good law n).guest h ≡ false → Good (retire x h (turned x Good law n)).guest
  still_good n h none r awake =
      let s : Shortened G = shortened x n in
      let j : Delayed G = turned x Good law n in
      let same : j.guest ≡ s.guest = (jump_places x (ticks_left (standing x n).harts) (standing x n)).1 ∙ (agrees x Good law n).guest in
      let lives = (goes_on_at x Good law n (sym (agrees x Good law n).ending ∙ none)).lives in
      let runs : x.guest.is_running j.guest h ≡ true = ap (λ (g : G). x.guest.is_running g h) same ∙ turn_runs x Good law s (turn x h j) lives r.turn (ap (λ (g : G). x.guest.is_sleeping g h) (sym same) ∙ awake) in
      subst Good (sym (retire_guest h j ∙ made_by h j)) (law.stays_good j.guest h (j.now - j.delay) (turned_good n none) runs)

  -- the guest is always Good, also once the run has ended
  pub standing_good : (n : ℕ) → Good (standing x n).guest
  standing_good zero = subst Good (sym (ap (λ (d : Delayed G). d.guest) (standing_zero x) ∙ first_guest)) law.first_good
  standing_good (suc n) = next_by x Good law (λ d. Good d.guest) n (standing_good n) (λ h none r asleep. woken_good n h none asleep) (λ h none r awake. still_good n h none r awake)
