-- Keys that are lowered by the cuts of the selected harts that began last.
use Rattle.std.proofs.Common.{◌≡◌, ℕ, ◌-◌, ◌<◌, Bool, true, false, cond, if◌then◌else◌, ◌==◌, List, [], ◌∷◌, length, filter, refl, sym, ap, ◌∙◌, arith, eq-eqb, ne_eqb, Option, Some, None, option_map, ◌⊎◌, inl, inr}
use Rattle.std.proofs.lemmas.Bool.{cases_eq}
use Rattle.std.proofs.lemmas.List.{length-set}
use Rattle.hart_schedule.specs.Keys.{Keys, key_of, with_key, without_key}
use Rattle.machines.specs.Places.{is_among, AllApart}
use Rattle.run_engine.specs.Begin.{many}
use Rattle.virtual_run.specs.Lead.{sooner_by, with_sooner}
use Rattle.run_engine.proofs.Keys.{has_place, with_key_at, without_key_at}
use Rattle.run_engine.proofs.Many.{many_with, many_without}

-- n ticks sooner, if it is due
abbrev pub less : ℕ → Option ℕ → Option ℕ
less ticks o = option_map (λ u. u - ticks) o

without_length : (h : ℕ) (keys : Keys) → length (without_key h keys) ≡ length keys
without_length h keys = length-set keys h None

-- one hart
one_set : (keys : Keys) (h u v k : ℕ) → key_of keys h ≡ Some u → (k ≡ h) ⊎ (k ≡ h → ⊥) → key_of (with_key h v (without_key h keys)) k ≡ (if k == h then Some v else key_of keys k)
one_set keys h u v k has c =
    let below : h < length (without_key h keys) = rw (without_length h keys) (has_place keys h u has) in
    with_key_at (without_key h keys) h v k below ∙ go c
  where
    go : (k ≡ h) ⊎ (k ≡ h → ⊥) → (if k == h then Some v else key_of (without_key h keys) k) ≡ (if k == h then Some v else key_of keys k)
    go (inl same) = rw (eq-eqb k h same) refl
    go (inr n) = rw (ne_eqb k h n) (without_key_at keys h k ∙ rw (ne_eqb k h n) refl)

sooner_at : (keys : Keys) (h ticks k : ℕ) (o : Option ℕ) → key_of keys h ≡ o → key_of (sooner_by o ticks h keys) k ≡ (if k == h then less ticks (key_of keys k) else key_of keys k)
sooner_at keys h ticks k None has = go (cases_eq k h)
  where
    go : (k ≡ h) ⊎ (k ≡ h → ⊥) → key_of keys k ≡ (if k == h then less ticks (key_of keys k) else key_of keys k)
    go (inl same) = rw (eq-eqb k h same) (let none : key_of keys k ≡ None = ap (key_of keys) same ∙ has in none ∙ ap (less ticks) (sym none))
    go (inr n) = rw (ne_eqb k h n) refl
sooner_at keys h ticks k (Some u) has = one_set keys h u (u - ticks) k has (cases_eq k h) ∙ go (cases_eq k h)
  where
    go : (k ≡ h) ⊎ (k ≡ h → ⊥) → (if k == h then Some (u - ticks) else key_of keys k) ≡ (if k == h then less ticks (key_of keys k) else key_of keys k)
    go (inl same) = rw (eq-eqb k h same) (ap (less ticks) (sym (ap (key_of keys) same ∙ has)))
    go (inr n) = rw (ne_eqb k h n) refl

one_length : (keys : Keys) (h ticks : ℕ) (o : Option ℕ) → length (sooner_by o ticks h keys) ≡ length keys
one_length keys h ticks None = refl
one_length keys h ticks (Some u) = length-set (without_key h keys) h (Some (u - ticks)) ∙ without_length h keys

none_there : (keys : Keys) (h : ℕ) → key_of (without_key h keys) h ≡ None
none_there keys h = without_key_at keys h h ∙ rw (eq-eqb h h refl) refl

one_many : (keys : Keys) (h ticks : ℕ) (o : Option ℕ) → key_of keys h ≡ o → many (sooner_by o ticks h keys) ≡ many keys
one_many keys h ticks None has = refl
one_many keys h ticks (Some u) has =
    let below : h < length (without_key h keys) = rw (without_length h keys) (has_place keys h u has) in
    many_with (without_key h keys) h (u - ticks) below (none_there keys h) ∙ sym (many_without keys h u has)

-- each of these
pub sooner_length : (ticks : ℕ → ℕ) (hs : List ℕ) (keys : Keys) → length (with_sooner ticks hs keys) ≡ length keys
sooner_length ticks [] keys = refl
sooner_length ticks (h ∷ hs) keys = sooner_length ticks hs (sooner_by (key_of keys h) (ticks h) h keys) ∙ one_length keys h (ticks h) (key_of keys h)

pub sooner_many : (ticks : ℕ → ℕ) (hs : List ℕ) (keys : Keys) → many (with_sooner ticks hs keys) ≡ many keys
sooner_many ticks [] keys = refl
sooner_many ticks (h ∷ hs) keys = sooner_many ticks hs (sooner_by (key_of keys h) (ticks h) h keys) ∙ one_many keys h (ticks h) (key_of keys h) refl

none_less : (o : Option ℕ) → o ≡ less 0 o
none_less None = refl
none_less (Some u) = let same : u ≡ u - 0 = omega arith in ap Some same

-- the first of the list, and then the others
first_less : (ticks : ℕ → ℕ) (h k : ℕ) (hs : List ℕ) (o : Option ℕ) → is_among h hs ≡ false → (k ≡ h) ⊎ (k ≡ h → ⊥)
    → less (if is_among k hs then ticks k else 0) (if k == h then less (ticks h) o else o) ≡ less (if (if k == h then true else is_among k hs) then ticks k else 0) o
first_less ticks h k hs o out (inl same) =
    let gone : is_among k hs ≡ false = ap (λ i. is_among i hs) same ∙ out in
    rw (eq-eqb k h same, gone) (sym (none_less (less (ticks h) o)) ∙ ap (λ i. less (ticks i) o) (sym same))
first_less ticks h k hs o out (inr n) = rw (ne_eqb k h n) refl

pub sooner_key : (ticks : ℕ → ℕ) (hs : List ℕ) (keys : Keys) (k : ℕ) → AllApart hs → key_of (with_sooner ticks hs keys) k ≡ less (if is_among k hs then ticks k else 0) (key_of keys k)
sooner_key ticks [] keys k apart = none_less (key_of keys k)
sooner_key ticks (h ∷ hs) keys k apart =
    sooner_key ticks hs (sooner_by (key_of keys h) (ticks h) h keys) k apart.1
    ∙ ap (less (if is_among k hs then ticks k else 0)) (sooner_at keys h (ticks h) k (key_of keys h) refl)
    ∙ first_less ticks h k hs (key_of keys k) apart.0 (cases_eq k h)

-- one that passes a test is among those that do
among_by : (k h : ℕ) (b : Bool) (test : ℕ → Bool) (hs : List ℕ) → test h ≡ b → is_among k (filter test hs) ≡ (if is_among k hs then test k else false) → (k ≡ h) ⊎ (k ≡ h → ⊥)
    → is_among k (cond b (h ∷ filter test hs) (filter test hs)) ≡ (if (if k == h then true else is_among k hs) then test k else false)
among_by k h true test hs is below (inl same) = rw (eq-eqb k h same) (sym (ap test same ∙ is))
among_by k h true test hs is below (inr n) = rw (ne_eqb k h n) below
among_by k h false test hs is below (inr n) = rw (ne_eqb k h n) below
among_by k h false test hs is below (inl same) =
    let out : test k ≡ false = ap test same ∙ is in
    rw (eq-eqb k h same) (below ∙ ap (λ b. if is_among k hs then b else false) out ∙ both (is_among k hs) ∙ sym out)
  where
    both : (b : Bool) → (if b then false else false) ≡ false
    both true = refl
    both false = refl

pub among_filtered : (test : ℕ → Bool) (k : ℕ) (hs : List ℕ) → is_among k (filter test hs) ≡ (if is_among k hs then test k else false)
among_filtered test k [] = refl
among_filtered test k (h ∷ hs) = among_by k h (test h) test hs refl (among_filtered test k hs) (cases_eq k h)

-- by its ticks if it is among them and passes the test
pub ticks_by : (b c : Bool) (ticks cut : ℕ) → (c ≡ true → ticks ≡ cut) → (if (if b then c else false) then ticks else 0) ≡ (if b then (if c then cut else 0) else 0)
ticks_by true true ticks cut same = same refl
ticks_by true false ticks cut same = refl
ticks_by false c ticks cut same = refl
