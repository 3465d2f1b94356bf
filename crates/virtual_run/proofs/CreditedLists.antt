-- Lists of harts that are credited, started or raise the delay one after another.
use Rattle.std.proofs.Common.{◌≡◌, ℕ, zero, suc, ◌+◌, ◌-◌, ◌*◌, ◌^◌, ◌≤◌, ◌<◌, Bool, true, false, if◌then◌else◌, ◌==◌, List, [], ◌∷◌, map, drop, length, get_or, refl, sym, ap, ap₂, ◌∙◌, subst, arith, eq-eqb, ne_eqb, Option, Some, None, is_some, ◌⊎◌, inl, inr, add-one, add-mul, mul_comm}
use Rattle.std.proofs.lemmas.Bool.{cases_eq}
use Rattle.std.proofs.lemmas.List.{drop_all}
use Rattle.std.proofs.Math.Seq.{drop-cons}
use Rattle.coz_types.specs.declared.HartId.{HartId}
use Rattle.machines.specs.Places.{change, change_each, change_from, is_among}
use Rattle.machines.specs.Delayed.{Account, Load, Hart, total, idle_hart, has_load, run, credit, raise_hart}
use Rattle.delay_credits.specs.Ticks.{hart_after_ticks}
use Rattle.machines.proofs.Maps.{change_same, change_other, change_all_at}
use Rattle.delay_credits.specs.Delays.{Delays, hart_at, at, with_start, with_raise, with_credit}
use Rattle.virtual_run.specs.Credited.{with_credits, with_starts, with_one_raise, with_raises, Runs, Rests, AllRun, AllRest, AllBelow}
use Rattle.virtual_run.proofs.Credited.{among_more}

-- the numbers of harts
abbrev pub numbers : List HartId → List ℕ
numbers harts = map (λ hart. hart.0) harts

-- the next of the harts that are left, and the rest
pub next_number : (harts : List HartId) (i : ℕ) → i < length harts → numbers (drop i harts) ≡ (get_or harts i (record { 0 = 0 })).0 ∷ numbers (drop (i + 1) harts)
next_number harts i below = ap (map (λ hart. hart.0)) (drop-cons harts i (record { 0 = 0 }) below) ∙ rw add-one refl

pub no_numbers : (harts : List HartId) (i : ℕ) → length harts ≤ i → numbers (drop i harts) ≡ []
no_numbers harts i past = ap (map (λ hart. hart.0)) (drop_all i harts past)

-- the first of a list is among it, and so are the others
pub among_first : (h : ℕ) (hs : List ℕ) → is_among h (h ∷ hs) ≡ true
among_first h hs = rw (eq-eqb h h refl) refl

pub among_rest : (h k : ℕ) (hs : List ℕ) → is_among k hs ≡ true → is_among k (h ∷ hs) ≡ true
among_rest h k hs e = among_more (k == h) (is_among k hs) e

pub among_at : (harts : List HartId) (i : ℕ) → i < length harts → is_among (get_or harts i (record { 0 = 0 })).0 (numbers harts) ≡ true
among_at [] i below = absurd (omega arith)
among_at (hart ∷ harts) zero below = among_first hart.0 (numbers harts)
among_at (hart ∷ harts) (suc i) below = let less : i < length harts = omega arith in among_rest hart.0 (get_or harts i (record { 0 = 0 })).0 (numbers harts) (among_at harts i less)

pub change_length : (h : ℕ) (f : Hart → Hart) (harts : List Hart) → h < length harts → length (change idle_hart h f harts) ≡ length harts
change_length h f [] below = absurd (omega arith)
change_length zero f (hart ∷ harts) below = refl
change_length (suc h) f (hart ∷ harts) below = let less : h < length harts = omega arith in ap suc (change_length h f harts less)

-- a change after which each hart runs as before
still_by : (h k : ℕ) (f : Hart → Hart) (harts : List Hart) → ((hart : Hart) → has_load (f hart) ≡ has_load hart) → (h ≡ k) ⊎ (h ≡ k → ⊥) → has_load (get_or (change idle_hart h f harts) k idle_hart) ≡ has_load (get_or harts k idle_hart)
still_by h k f harts same (inl is) = subst (λ i. has_load (get_or (change idle_hart h f harts) i idle_hart) ≡ has_load (get_or harts i idle_hart)) is (ap has_load (change_same idle_hart h f harts) ∙ same (get_or harts h idle_hart))
still_by h k f harts same (inr n) = ap has_load (change_other idle_hart h k f harts n)

still : (h k : ℕ) (f : Hart → Hart) (harts : List Hart) → ((hart : Hart) → has_load (f hart) ≡ has_load hart) → has_load (get_or (change idle_hart h f harts) k idle_hart) ≡ has_load (get_or harts k idle_hart)
still h k f harts same = still_by h k f harts same (cases_eq h k)

-- no ticks at once
none_ticked : (harts : List Hart) → map (hart_after_ticks 0) harts ≡ harts
none_ticked [] = refl
none_ticked (hart ∷ harts) = ap (λ (rest : List Hart). hart ∷ rest) (none_ticked harts)

-- at the latest moment nothing changes
pub at_latest : (c : Delays) (now : ℕ) → c.latest ≡ now → at now c ≡ c
at_latest c now is =
    let none : now - c.latest ≡ 0 = omega arith in
    ap₂ (λ m (hs : List Hart). record { latest = m; raised = c.raised; harts = hs }) (sym is) (ap (λ n. map (hart_after_ticks n) c.harts) none ∙ none_ticked c.harts)

-- crediting
pub record IsCrediting (waker : ℕ) (goal : Delays) (hs : List ℕ) (c : Delays) : Type 0 where
  pub rest : AllRest c hs
  pub waker_below : waker < length c.harts
  pub whole : total (hart_at c waker).account ≡ c.raised
  pub reaches : with_credits hs c ≡ goal

whole_by : (h waker : ℕ) (c : Delays) → total (hart_at c waker).account ≡ c.raised → (h ≡ waker) ⊎ (h ≡ waker → ⊥) → total (hart_at (with_credit h waker c) waker).account ≡ c.raised
whole_by h waker c whole (inl same) =
    let hart : Hart = hart_at c waker in
    subst (λ i. total (get_or (change idle_hart i (credit (total hart.account)) c.harts) waker idle_hart).account ≡ c.raised) (sym same)
    (ap (λ (o : Hart). total o.account) (change_same idle_hart waker (credit (total hart.account)) c.harts) ∙ all hart.account whole)
  where
    all : (a : Account) → total a ≡ c.raised → total (record a { credited = a.credited + (total a - total a) }) ≡ c.raised
    all a e = omega arith
whole_by h waker c whole (inr n) =
    let hart : Hart = hart_at c waker in
    ap (λ (o : Hart). total o.account) (change_other idle_hart h waker (credit (total hart.account)) c.harts n) ∙ whole

pub credited_one : (waker h : ℕ) (goal : Delays) (hs : List ℕ) (c : Delays) → IsCrediting waker goal (h ∷ hs) c → IsCrediting waker goal hs (with_credit h waker c)
credited_one waker h goal hs c b =
    let most : ℕ = total (hart_at c waker).account in
    let below : h < length c.harts = (b.rest h (among_first h hs)).below in
    let many : length (change idle_hart h (credit most) c.harts) ≡ length c.harts = change_length h (credit most) c.harts below in
    record {
      rest = λ k among. let r : Rests c k = b.rest k (among_rest h k hs among) in record { below = rw many r.below; rests = still h k (credit most) c.harts (λ o. refl) ∙ r.rests };
      waker_below = rw many b.waker_below;
      whole = whole_by h waker c b.whole (cases_eq h waker);
      reaches = ap (λ n. record c { harts = change_each idle_hart hs (λ _. credit c.raised) (change idle_hart h (credit n) c.harts) }) b.whole ∙ b.reaches;
    }

-- starting
pub record IsStarting (moment : ℕ) (goal : Delays) (hs : List ℕ) (c : Delays) : Type 0 where
  pub below : AllBelow c hs
  pub now : c.latest ≡ moment
  pub reaches : with_starts hs c ≡ goal

pub start_is : (h now : ℕ) (c : Delays) → c.latest ≡ now → with_start h now c ≡ record c { harts = change idle_hart h (run 0) c.harts }
start_is h now c is = ap (λ (o : Delays). record o { harts = change idle_hart h (run 0) o.harts }) (at_latest c now is)

pub started_one : (h now : ℕ) (goal : Delays) (hs : List ℕ) (c : Delays) → IsStarting now goal (h ∷ hs) c → IsStarting now goal hs (with_start h now c)
started_one h now goal hs c b =
    subst (IsStarting now goal hs) (sym (start_is h now c b.now))
    (record {
      below = λ k among. rw (change_length h (run 0) c.harts (b.below h (among_first h hs))) (b.below k (among_rest h k hs among));
      now = b.now;
      reaches = b.reaches;
    })

-- raising
pub record IsRaising (most : ℕ) (ticks : ℕ → ℕ) (moment : ℕ) (goal : Delays) (hs : List ℕ) (c : Delays) : Type 0 where
  pub run : AllRun c hs
  pub now : c.latest ≡ moment
  pub few : c.raised + most * length hs ≤ 10 ^ 17
  pub reaches : with_raises ticks hs c ≡ goal

raise_is : (h ticks now : ℕ) (c : Delays) → c.latest ≡ now → with_raise h ticks now c ≡ with_one_raise ticks h c
raise_is h ticks now c is = ap (λ (o : Delays). record o { raised = c.raised + ticks; harts = change_from 0 (raise_hart ticks h) o.harts }) (at_latest c now is)

from_length : (f : ℕ → Hart → Hart) (i : ℕ) (harts : List Hart) → length (change_from i f harts) ≡ length harts
from_length f i [] = refl
from_length f i (hart ∷ harts) = ap suc (from_length f (suc i) harts)

runs_raised : (ticks h k : ℕ) (hart : Hart) → has_load (raise_hart ticks h k hart) ≡ has_load hart
runs_raised ticks h k hart = go hart.account hart.load
  where
    by : (a : Account) (l : Load) (b : Bool) → has_load (if b then record { account = record a { own = a.own + ticks }; load = Some l } else record { account = a; load = Some (record l { pause = l.pause + ticks }) }) ≡ true
    by a l true = refl
    by a l false = refl

    go : (a : Account) (o : Option Load) → has_load (raise_hart ticks h k (record { account = a; load = o })) ≡ is_some o
    go a None = refl
    go a (Some l) = by a l (k == h)

one_more : (most n : ℕ) → most * suc n ≡ most * n + most
one_more most n =
    let parts : (n + 1) * most ≡ n * most + 1 * most = add-mul n 1 most in
    let left : most * suc n ≡ suc n * most = mul_comm most (suc n) in
    let right : most * n ≡ n * most = mul_comm most n in
    let same : suc n * most ≡ (n + 1) * most = ap (λ (k : ℕ). k * most) (let next : suc n ≡ n + 1 = omega arith in next) in
    omega (arith, parts, left, right, same)

pub raised_one : (most : ℕ) (ticks : ℕ → ℕ) (h now : ℕ) (goal : Delays) (hs : List ℕ) (c : Delays) → ticks h ≤ most → IsRaising most ticks now goal (h ∷ hs) c → IsRaising most ticks now goal hs (with_raise h (ticks h) now c)
raised_one most ticks h now goal hs c small b =
    subst (IsRaising most ticks now goal hs) (sym (raise_is h (ticks h) now c b.now))
    (record {
      run = λ k among.
          let r : Runs c k = b.run k (among_rest h k hs among) in
          record {
            below = rw (from_length (raise_hart (ticks h) h) 0 c.harts) r.below;
            runs = ap has_load (change_all_at idle_hart (raise_hart (ticks h) h) (λ i. refl) k c.harts) ∙ runs_raised (ticks h) h k (hart_at c k) ∙ r.runs;
          };
      now = b.now;
      few = let f : c.raised + most * suc (length hs) ≤ 10 ^ 17 = b.few in let more = one_more most (length hs) in omega (arith, f, more, small);
      reaches = b.reaches;
    })

-- what the lists leave as it is
pub credits_length : (hs : List ℕ) (f : ℕ → Hart → Hart) (harts : List Hart) → ((k : ℕ) → is_among k hs ≡ true → k < length harts) → length (change_each idle_hart hs f harts) ≡ length harts
credits_length [] f harts below = refl
credits_length (h ∷ hs) f harts below =
    let same : length (change idle_hart h (f h) harts) ≡ length harts = change_length h (f h) harts (below h (among_first h hs)) in
    credits_length hs f (change idle_hart h (f h) harts) (λ k among. rw same (below k (among_rest h k hs among))) ∙ same

pub raises_length : (ticks : ℕ → ℕ) (hs : List ℕ) (c : Delays) → length (with_raises ticks hs c).harts ≡ length c.harts
raises_length ticks [] c = refl
raises_length ticks (h ∷ hs) c = raises_length ticks hs (with_one_raise (ticks h) h c) ∙ from_length (raise_hart (ticks h) h) 0 c.harts

pub raises_latest : (ticks : ℕ → ℕ) (hs : List ℕ) (c : Delays) → (with_raises ticks hs c).latest ≡ c.latest
raises_latest ticks [] c = refl
raises_latest ticks (h ∷ hs) c = raises_latest ticks hs (with_one_raise (ticks h) h c)

-- harts that were started run
runs_each : (hs : List ℕ) (k : ℕ) (harts : List Hart) → (is_among k hs ≡ true) ⊎ (has_load (get_or harts k idle_hart) ≡ true) → has_load (get_or (change_each idle_hart hs (λ _. run 0) harts) k idle_hart) ≡ true
runs_each [] k harts (inl e) = absurd (let no : false ≡ true = e in cc)
runs_each [] k harts (inr e) = e
runs_each (h ∷ hs) k harts given = runs_each hs k (change idle_hart h (run 0) harts) (go (cases_eq h k) given)
  where
    go : (h ≡ k) ⊎ (h ≡ k → ⊥) → (is_among k (h ∷ hs) ≡ true) ⊎ (has_load (get_or harts k idle_hart) ≡ true) → (is_among k hs ≡ true) ⊎ (has_load (get_or (change idle_hart h (run 0) harts) k idle_hart) ≡ true)
    go (inl same) given = inr (subst (λ i. has_load (get_or (change idle_hart h (run 0) harts) i idle_hart) ≡ true) same (ap has_load (change_same idle_hart h (run 0) harts)))
    go (inr n) (inl e) = inl (rw (ne_eqb k h (λ s. n (sym s))) at e)
    go (inr n) (inr e) = inr (ap has_load (change_other idle_hart h k (run 0) harts n) ∙ e)

pub starts_run : (hs : List ℕ) (c : Delays) → AllBelow c hs → AllRun (with_starts hs c) hs
starts_run hs c below k among = record { below = rw (credits_length hs (λ _. run 0) c.harts below) (below k among); runs = runs_each hs k c.harts (inl among) }
