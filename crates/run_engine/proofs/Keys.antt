-- The keys of a schedule, beside the moments of the shortened machine.
use Rattle.std.proofs.Common.{◌≡◌, ℕ, zero, suc, ◌<◌, ◌≤◌, Bool, true, false, if◌then◌else◌, ◌==◌, List, [], ◌∷◌, get_or, length, set, replicate, refl, sym, ap, subst, ◌∙◌, arith, eq-eqb, ne_eqb, Option, Some, None, is_some, MatchOption, ◌⊎◌, inl, inr}
use Rattle.std.proofs.lemmas.Bool.{cases_eq}
use Rattle.std.proofs.lemmas.List.{length-set, get_or-set_same, get_or-set_other}
use Rattle.coz_types.specs.declared.HartId.{HartId}
use Rattle.hart_schedule.specs.Keys.{Keys, key_of, with_key, without_key, IsEmpty, IsLeast}
use Rattle.machines.specs.Places.{change}
use Rattle.machines.specs.declared.Fate.{Fate}
use Rattle.machines.specs.declared.Fate.TheVariants.{Goes, Waits, Leaves, Sleeps, Ends}
use Rattle.machines.specs.Shortened.{next_turn, has_due_any, rest}
use Rattle.machines.proofs.Maps.{change_same, change_other}
use Rattle.machines.proofs.Turns.{IsNext, turn_is}
use Rattle.run_engine.specs.Begin.{keys_at_rest}
use Rattle.run_engine.specs.Engine.{AreDues}

-- a number with a key has a place
pub has_place : (keys : Keys) (h v : ℕ) → key_of keys h ≡ Some v → h < length keys
has_place [] h v has = absurd (let no : ◌≡◌ {A = Option ℕ} None (Some v) = has in cc)
has_place (key ∷ keys) zero v has = omega arith
has_place (key ∷ keys) (suc h) v has = let below : h < length keys = has_place keys h v has in omega arith

with_by : (keys : Keys) (h v k : ℕ) → h < length keys → (k ≡ h) ⊎ (k ≡ h → ⊥) → key_of (with_key h v keys) k ≡ (if k == h then Some v else key_of keys k)
with_by keys h v k below (inl same) = rw (same, eq-eqb h h refl) (get_or-set_same keys h (Some v) None below)
with_by keys h v k below (inr n) = rw (ne_eqb k h n) (get_or-set_other keys h k (Some v) None n)

pub with_key_at : (keys : Keys) (h v k : ℕ) → h < length keys → key_of (with_key h v keys) k ≡ (if k == h then Some v else key_of keys k)
with_key_at keys h v k below = with_by keys h v k below (cases_eq k h)

-- nothing is written past the end
none_set : (keys : Keys) (h : ℕ) → get_or (set keys h None) h None ≡ None
none_set [] h = refl
none_set (key ∷ keys) zero = refl
none_set (key ∷ keys) (suc h) = none_set keys h

without_by : (keys : Keys) (h k : ℕ) → (k ≡ h) ⊎ (k ≡ h → ⊥) → key_of (without_key h keys) k ≡ (if k == h then None else key_of keys k)
without_by keys h k (inl same) = rw (same, eq-eqb h h refl) (none_set keys h)
without_by keys h k (inr n) = rw (ne_eqb k h n) (get_or-set_other keys h k None None n)

pub without_key_at : (keys : Keys) (h k : ℕ) → key_of (without_key h keys) k ≡ (if k == h then None else key_of keys k)
without_key_at keys h k = without_by keys h k (cases_eq k h)

pub no_keys : (n k : ℕ) → key_of (replicate n None) k ≡ None
no_keys zero k = refl
no_keys (suc n) zero = refl
no_keys (suc n) (suc k) = no_keys n k

-- a key in the place of one
over_by : (keys : Keys) (h v k : ℕ) → h < length keys → (k ≡ h) ⊎ (k ≡ h → ⊥) → key_of (with_key h v (without_key h keys)) k ≡ (if k == h then Some v else key_of keys k)
over_by keys h v k below (inl same) = with_key_at (without_key h keys) h v k (rw (length-set keys h None) below) ∙ rw (eq-eqb k h same) refl
over_by keys h v k below (inr n) = with_key_at (without_key h keys) h v k (rw (length-set keys h None) below) ∙ rw (ne_eqb k h n) (without_key_at keys h k ∙ rw (ne_eqb k h n) refl)

pub over_key_at : (keys : Keys) (h v k : ℕ) → h < length keys → key_of (with_key h v (without_key h keys)) k ≡ (if k == h then Some v else key_of keys k)
over_key_at keys h v k below = over_by keys h v k below (cases_eq k h)

-- the keys after a retirement
pub rested_at : (fate : Fate) (keys : Keys) (h k : ℕ) → h < length keys → key_of (keys_at_rest h fate keys) k ≡ (if k == h then rest fate else key_of keys k)
rested_at Goes keys h k below = without_key_at keys h k
rested_at Waits keys h k below = without_key_at keys h k
rested_at Leaves keys h k below = without_key_at keys h k
rested_at (Sleeps moment) keys h k below = over_key_at keys h moment k below
rested_at (Ends ending) keys h k below = without_key_at keys h k

pub rested_length : (fate : Fate) (keys : Keys) (h : ℕ) → length (keys_at_rest h fate keys) ≡ length keys
rested_length Goes keys h = length-set keys h None
rested_length Waits keys h = length-set keys h None
rested_length Leaves keys h = length-set keys h None
rested_length (Sleeps moment) keys h = length-set (without_key h keys) h (Some moment) ∙ length-set keys h None
rested_length (Ends ending) keys h = length-set keys h None

change_by : (dues : List (Option ℕ)) (o : Option ℕ) (h k : ℕ) → (k ≡ h) ⊎ (k ≡ h → ⊥) → get_or (change None h (λ _. o) dues) k None ≡ (if k == h then o else get_or dues k None)
change_by dues o h k (inl same) = rw (same, eq-eqb h h refl) (change_same None h (λ _. o) dues)
change_by dues o h k (inr n) = rw (ne_eqb k h n) (change_other None h k (λ _. o) dues (λ e. n (sym e)))

-- a hart is taken out of both, or put to the moment of its wake
pub dues_rested : (fate : Fate) (keys : Keys) (dues : List (Option ℕ)) (h : ℕ) → h < length keys → AreDues keys dues → AreDues (keys_at_rest h fate keys) (change None h (λ _. rest fate) dues)
dues_rested fate keys dues h below are k =
    rested_at fate keys h k below
    ∙ ap (λ (o : Option ℕ). if k == h then rest fate else o) (are k)
    ∙ sym (change_by dues (rest fate) h k (cases_eq k h))

same_key : (keys : Keys) (h v : ℕ) (first : IsLeast keys h) → key_of keys h ≡ Some v → first.key ≡ v
same_key keys h v first due = let same : Some first.key ≡ Some v = sym first.has ∙ due in cc

-- the hart with the least key has the next turn
pub next_is : (keys : Keys) (dues : List (Option ℕ)) (h v : ℕ) → AreDues keys dues → key_of keys h ≡ Some v → IsLeast keys h → next_turn dues ≡ Some (record { hart = h; due = v })
next_is keys dues h v are due first =
    let key_is : first.key ≡ v = same_key keys h v first due in
    let Before : ℕ → Type 0 = λ n. (k u : ℕ) → get_or dues k None ≡ Some u → (n < u) ⊎ ((n ≡ u) × (h ≤ k)) in
    let least : Before first.key = λ k u has. first.least k u (are k ∙ has) in
    let next : IsNext dues h v = record { has = sym (are h) ∙ due; least = subst Before key_is least } in
    turn_is dues h v next

-- some hart runs
pub runs_some : (dues : List (Option ℕ)) (k v : ℕ) → get_or dues k None ≡ Some v → has_due_any dues ≡ true
runs_some [] k v has = absurd (let no : ◌≡◌ {A = Option ℕ} None (Some v) = has in cc)
runs_some (Some u ∷ dues) k v has = refl
runs_some (None ∷ dues) zero v has = absurd (let no : ◌≡◌ {A = Option ℕ} None (Some v) = has in cc)
runs_some (None ∷ dues) (suc k) v has = runs_some dues k v has

pub runs_none : (dues : List (Option ℕ)) → ((k : ℕ) → get_or dues k None ≡ None) → has_due_any dues ≡ false
runs_none [] none = refl
runs_none (Some u ∷ dues) none = absurd (let no : ◌≡◌ {A = Option ℕ} (Some u) None = none 0 in cc)
runs_none (None ∷ dues) none = runs_none dues (λ k. none (suc k))

runs_by : (b c : Bool) → (b ≡ true → c ≡ true) → (c ≡ true → b ≡ true) → b ≡ c
runs_by true c up down = sym (up refl)
runs_by false true up down = down refl
runs_by false false up down = refl

pub some_runs : (dues : List (Option ℕ)) → has_due_any dues ≡ true → (k : ℕ) × (u : ℕ) × (get_or dues k None ≡ Some u)
some_runs [] e = absurd (let no : false ≡ true = e in cc)
some_runs (None ∷ dues) e = let r = some_runs dues e in (suc r.0, r.1, r.2)
some_runs (Some u ∷ dues) e = (0, u, refl)

-- some hart runs in both or in none
pub same_runs : (keys : Keys) (dues : List (Option ℕ)) → AreDues keys dues → has_due_any keys ≡ has_due_any dues
same_runs keys dues are =
    runs_by (has_due_any keys) (has_due_any dues)
    (λ e. let r = some_runs keys e in runs_some dues r.0 r.1 (sym (are r.0) ∙ r.2))
    (λ e. let r = some_runs dues e in runs_some keys r.0 r.1 (are r.0 ∙ r.2))

-- a hart is found exactly if some hart runs
pub runs_least : (keys : Keys) (found : Option HartId) → MatchOption found (IsEmpty keys) (λ hart. IsLeast keys hart.0) → is_some found ≡ has_due_any keys
runs_least keys None empty = sym (runs_none keys empty)
runs_least keys (Some hart) first = sym (runs_some keys hart.0 first.key first.has)

same_least : (h k m n : ℕ) → (m < n) ⊎ ((m ≡ n) × (h ≤ k)) → (n < m) ⊎ ((n ≡ m) × (k ≤ h)) → h ≡ k
same_least h k m n (inl less) (inl more) = absurd (omega arith)
same_least h k m n (inl less) (inr same) = absurd (omega arith)
same_least h k m n (inr same) (inl more) = absurd (omega arith)
same_least h k m n (inr one) (inr other) = omega arith

-- one hart alone is due first
pub least_one : (keys : Keys) (h k : ℕ) → IsLeast keys h → IsLeast keys k → h ≡ k
least_one keys h k one other = same_least h k one.key other.key (one.least k other.key other.has) (other.least h one.key one.has)
