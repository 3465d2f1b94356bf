-- The causes as the code keeps them, by hart.
use Rattle.std.proofs.Common.{◌≡◌, ℕ, zero, suc, replicate, ◌+◌, ◌<◌, ◌==◌, ◌∙◌, if◌then◌else◌, Bool, true, false, List, [], ◌∷◌, length, get_or, set, map, drop, drop-cons, add-one, refl, sym, ap, ◌⊎◌, inl, inr, eq-eqb, ne_eqb}
use Rattle.std.proofs.lemmas.Bool.{cases_eq}
use Rattle.std.proofs.lemmas.List.{get_or-set_same, get_or-set_other}
use Rattle.coz_types.specs.declared.HartId.{HartId}
use Rattle.machines.specs.declared.Fate.{Fate}
use Rattle.machines.specs.declared.Fate.TheVariants.{Goes, Waits, Leaves, Sleeps, Ends}
use Rattle.machines.specs.Places.{is_among}
use Rattle.run_engine.specs.Begin.{started_by}
use Rattle.path_causes.specs.declared.cause.Cause.{Cause}
use Rattle.path_causes.specs.Causes.{no_cause, cause_at, after_own, at_rest, started_with, turned}

set_by : (causes : List Cause) (h k : ℕ) (v : Cause) → h < length causes → (k ≡ h) ⊎ (k ≡ h → ⊥) → cause_at (set causes h v) k ≡ (if k == h then v else cause_at causes k)
set_by causes h k v below (inl same) = rw (same, eq-eqb h h refl) (get_or-set_same causes h v no_cause below)
set_by causes h k v below (inr n) = rw (ne_eqb k h n) (get_or-set_other causes h k v no_cause n)

-- one cause is written
pub set_at : (causes : List Cause) (h k : ℕ) (v : Cause) → h < length causes → cause_at (set causes h v) k ≡ (if k == h then v else cause_at causes k)
set_at causes h k v below = set_by causes h k v below (cases_eq k h)

module _ (ticks : ℕ → ℕ) (e : ℕ) where
  abbrev begun : ℕ → Cause → Cause
  begun k c = started_with (ticks k) e c

  begun_by : (b : Bool) (k : ℕ) (c d : Cause) → d ≡ begun k c → (if b then begun k c else c) ≡ (if b then begun k c else c)
  begun_by b k c d is = refl

  step_by : (h : ℕ) (rest : List ℕ) (cur next : ℕ → Cause) (k : ℕ) → next k ≡ (if k == h then begun h (cur h) else cur k) → (k ≡ h) ⊎ (k ≡ h → ⊥)
      → (if (if k == h then true else is_among k rest) then begun k (cur k) else cur k) ≡ (if is_among k rest then begun k (next k) else next k)
  step_by h rest cur next k is (inl same) =
      let here : next k ≡ begun k (cur k) = is ∙ rw (eq-eqb k h same) (ap (λ (n : ℕ). begun n (cur n)) (sym same)) in
      rw (eq-eqb k h same) (go (is_among k rest) (next k) here)
    where
      go : (b : Bool) (d : Cause) → d ≡ begun k (cur k) → begun k (cur k) ≡ (if b then begun k d else d)
      go true d here = sym (ap (begun k) here)
      go false d here = sym here
  step_by h rest cur next k is (inr n) =
      let here : next k ≡ cur k = is ∙ rw (ne_eqb k h n) refl in
      rw (ne_eqb k h n) (ap (λ (d : Cause). if is_among k rest then begun k d else d) (sym here))

  -- one of the started harts is begun, and then the rest of them
  pub begun_step : (h : ℕ) (rest : List ℕ) (cur next : ℕ → Cause) (k : ℕ) → next k ≡ (if k == h then begun h (cur h) else cur k)
      → (if is_among k (h ∷ rest) then begun k (cur k) else cur k) ≡ (if is_among k rest then begun k (next k) else next k)
  begun_step h rest cur next k is = step_by h rest cur next k is (cases_eq k h)

  goes_by : (b a : Bool) (k : ℕ) (own : Cause)
      → (if a then begun k (if (if b then true else false) then begun k own else own) else (if (if b then true else false) then begun k own else own)) ≡ (if (if b then true else a) then begun k own else own)
  goes_by true true k own = refl
  goes_by true false k own = refl
  goes_by false true k own = refl
  goes_by false false k own = refl

  -- the hart itself, and then those that it made or woke
  pub both_begun : (h : ℕ) (fate : Fate) (others : List ℕ) (k : ℕ) (own : Cause)
      → (if is_among k others then begun k (if is_among k (started_by h fate []) then begun k own else own) else (if is_among k (started_by h fate []) then begun k own else own))
      ≡ (if is_among k (started_by h fate others) then begun k own else own)
  both_begun h Goes others k own = goes_by (k == h) (is_among k others) k own
  both_begun h Waits others k own = refl
  both_begun h Leaves others k own = refl
  both_begun h (Sleeps moment) others k own = refl
  both_begun h (Ends ending) others k own = refl

pub same_turned_by : (among own : Bool) (fate : Fate) (due e f : ℕ) (m n : ℕ) (c d : Cause) (rested : ℕ → Cause → Cause) → (among ≡ true → m ≡ n) → e ≡ f → c ≡ d
    → (if among then started_with m e (if own then rested e c else c) else (if own then rested e c else c)) ≡ (if among then started_with n f (if own then rested f d else d) else (if own then rested f d else d))
same_turned_by true own fate due e f m n c d rested ticks event cause = rw (ticks refl, event, cause)
same_turned_by false own fate due e f m n c d rested ticks event cause = rw (event, cause)

-- a retirement's two steps
pub all_turned : (ticks : ℕ → ℕ) (h : ℕ) (fate : Fate) (due e : ℕ) (others : List ℕ) (k : ℕ) (c d three : Cause)
    → d ≡ turned h fate due e (started_by h fate []) ticks k c
    → three ≡ (if is_among k others then started_with (ticks k) e d else d)
    → three ≡ turned h fate due e (started_by h fate others) ticks k c
all_turned ticks h fate due e others k c d three own each =
    each
    ∙ ap (λ (b : Cause). if is_among k others then started_with (ticks k) e b else b) own
    ∙ both_begun ticks e h fate others k (if k == h then at_rest fate due e (after_own e c) else c)

among_rest : (b a : Bool) → a ≡ true → (if b then true else a) ≡ true
among_rest true a is = refl
among_rest false a is = is

among_first : (b a : Bool) → (if b then true else false) ≡ true → (if b then true else a) ≡ true
among_first true a is = refl
among_first false a is = let no : false ≡ true = is in absurd cc

-- one of the rest is one of them
pub still_among : (h : ℕ) (rest : List ℕ) (k : ℕ) → is_among k rest ≡ true → is_among k (h ∷ rest) ≡ true
still_among h rest k is = among_rest (k == h) (is_among k rest) is

-- one that was made or woken was started, and so was the hart itself if it goes on
pub other_started : (h : ℕ) (fate : Fate) (others : List ℕ) (k : ℕ) → is_among k others ≡ true → is_among k (started_by h fate others) ≡ true
other_started h Goes others k is = among_rest (k == h) (is_among k others) is
other_started h Waits others k is = is
other_started h Leaves others k is = is
other_started h (Sleeps moment) others k is = is
other_started h (Ends ending) others k is = is

pub self_started : (h : ℕ) (fate : Fate) (others : List ℕ) (k : ℕ) → is_among k (started_by h fate []) ≡ true → is_among k (started_by h fate others) ≡ true
self_started h Goes others k is = among_first (k == h) (is_among k others) is
self_started h Waits others k is = let no : false ≡ true = is in absurd cc
self_started h Leaves others k is = let no : false ≡ true = is in absurd cc
self_started h (Sleeps moment) others k is = let no : false ≡ true = is in absurd cc
self_started h (Ends ending) others k is = let no : false ≡ true = is in absurd cc

pub self_among : (h : ℕ) (rest : List ℕ) → is_among h (h ∷ rest) ≡ true
self_among h rest = rw (eq-eqb h h refl) refl

-- the numbers from one place on
pub numbers_from : (harts : List HartId) (i : ℕ) → i < length harts → map (λ (hart : HartId). hart.0) (drop i harts) ≡ (get_or harts i (record { 0 = 0 })).0 ∷ map (λ (hart : HartId). hart.0) (drop (i + 1) harts)
numbers_from harts i below =
    ap (map (λ (hart : HartId). hart.0)) (drop-cons harts i (record { 0 = 0 }) below ∙ ap (λ (j : ℕ). get_or harts i (record { 0 = 0 }) ∷ drop j harts) (sym (add-one i)))

pub none_at : (n k : ℕ) → cause_at (replicate n no_cause) k ≡ no_cause
none_at zero k = refl
none_at (suc n) zero = refl
none_at (suc n) (suc k) = none_at n k
