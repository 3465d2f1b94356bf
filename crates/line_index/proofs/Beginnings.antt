-- Where a line begins.
use Rattle.std.proofs.Common.{◌≡◌, ℕ, zero, suc, ◌+◌, ◌≤◌, ◌<◌, ◌⊎◌, inl, inr, ⊎_elim, Bool, true, false, not, ◌&&◌, List, [], ◌∷◌, ◌++◌, Option, None, nat_lt, cond, slice_index, refl, sym, ap, ◌∙◌, subst, arith}
use Rattle.std.specs.List.Sorted.{IsStrictlyIncreasing}
use Rattle.std.proofs.lemmas.Bool.{cases_lt, cases_eq}
use Rattle.std.proofs.lemmas.Bool.Decides.{nat_tests}
use Rattle.line_index.specs.declared.changes.Change.{Change}
use Rattle.line_index.specs.Changes.{value_at, IsRising}
use Rattle.line_index.specs.Keys.{is_at, starts}
use Rattle.line_index.specs.Turns.{Rises}
use Rattle.line_index.proofs.Pieces.{Among, head_value}
use Rattle.line_index.proofs.Turning.{rises_step}

rises_by_place : (low : ℕ) (xs : List ℕ) → Rises low xs → IsStrictlyIncreasing xs
rises_by_place low [] up k lt = absurd (omega arith)
rises_by_place low (x ∷ []) up k lt = absurd (omega arith)
rises_by_place low (x ∷ y ∷ ys) up zero lt = omega (arith, up.1.0)
rises_by_place low (x ∷ y ∷ ys) up (suc k) lt =
    let e : suc k + 1 ≡ suc (k + 1) = omega arith in
    let less : slice_index (y ∷ ys) k < slice_index (y ∷ ys) (k + 1) = rises_by_place (suc x) (y ∷ ys) up.1 k (omega arith) in
    subst (λ n. slice_index (y ∷ ys) k < slice_index (x ∷ y ∷ ys) n) (sym e) less

starts_rise : (k low : ℕ) (x : Option ℕ) (cs : List Change) → IsRising low cs → Rises low (starts k x cs)
starts_rise k low x [] up = tt
starts_rise k low x (c ∷ cs) up = rises_step (is_at k c.position && not (is_at k x)) low c.address (starts k c.position cs) up.0 (starts_rise k (suc c.address) c.position cs up.1)

pub starts_increase : (k : ℕ) (cs : List Change) → IsRising 0 cs → IsStrictlyIncreasing (starts k None cs)
starts_increase k cs up = rises_by_place 0 (starts k None cs) (starts_rise k 0 None cs up)

-- what stands right before an address
abbrev pub right_before : ℕ → Option ℕ → List Change → Option ℕ
right_before zero x cs = x
right_before (suc b) x cs = value_at b x cs

-- the line stands at an address and not right before it
abbrev pub StartsAt : ℕ → ℕ → Option ℕ → List Change → Type 0
StartsAt k a x cs = (is_at k (value_at a x cs) ≡ true) × (is_at k (right_before a x cs) ≡ false)

pub both_parts : (p q : Bool) → (p && not q) ≡ true → (p ≡ true) × (q ≡ false)
both_parts true false e = (refl, refl)
both_parts true true e = let no : ⊥ = cc in absurd no
both_parts false q e = let no : ⊥ = cc in absurd no

pub parts_both : (p q : Bool) → p ≡ true → q ≡ false → (p && not q) ≡ true
parts_both true false e f = refl
parts_both true true e f = let no : ⊥ = cc in absurd no
parts_both false q e f = let no : ⊥ = cc in absurd no

value_before : (a : ℕ) (x : Option ℕ) (c : Change) (cs : List Change) → a < c.address → value_at a x (c ∷ cs) ≡ x
value_before a x c cs lt = let t : nat_lt a c.address ≡ true = grind (arith, nat_tests) in rw t refl

value_behind : (a : ℕ) (x : Option ℕ) (c : Change) (cs : List Change) → c.address ≤ a → value_at a x (c ∷ cs) ≡ value_at a c.position cs
value_behind a x c cs le = let t : nat_lt a c.address ≡ false = grind (arith, nat_tests) in rw t refl

before_before : (a : ℕ) (x : Option ℕ) (c : Change) (cs : List Change) → a ≤ c.address → right_before a x (c ∷ cs) ≡ x
before_before zero x c cs le = refl
before_before (suc b) x c cs le = value_before b x c cs (omega arith)

before_behind : (a : ℕ) (x : Option ℕ) (c : Change) (cs : List Change) → c.address < a → right_before a x (c ∷ cs) ≡ right_before a c.position cs
before_behind zero x c cs lt = absurd (omega arith)
before_behind (suc b) x c cs lt = value_behind b x c cs (omega arith)

low_among : (low a : ℕ) (xs : List ℕ) → Rises low xs → Among a xs → low ≤ a
low_among low a [] up h = absurd h
low_among low a (x ∷ xs) up (inl e) = omega (arith, up.0)
low_among low a (x ∷ xs) up (inr h) = omega (arith, up.0, low_among (suc x) a xs up.1 h)

among_split : (t : Bool) (a b : ℕ) (xs : List ℕ) → Among a (cond t (b ∷ []) [] ++ xs) → ((t ≡ true) × (b ≡ a)) ⊎ Among a xs
among_split true a b xs (inl e) = inl (refl, e)
among_split true a b xs (inr h) = inr h
among_split false a b xs h = inr h

among_front : (t : Bool) (a b : ℕ) (xs : List ℕ) → t ≡ true → b ≡ a → Among a (cond t (b ∷ []) [] ++ xs)
among_front true a b xs e same = inl same
among_front false a b xs e same = let no : ⊥ = cc in absurd no

among_rest : (t : Bool) (a b : ℕ) (xs : List ℕ) → Among a xs → Among a (cond t (b ∷ []) [] ++ xs)
among_rest true a b xs h = inr h
among_rest false a b xs h = h

starts_later : (k a : ℕ) (x : Option ℕ) (c : Change) (cs : List Change) → c.address < a → StartsAt k a c.position cs → StartsAt k a x (c ∷ cs)
starts_later k a x c cs lt h = (ap (is_at k) (value_behind a x c cs (omega arith)) ∙ h.0, ap (is_at k) (before_behind a x c cs lt) ∙ h.1)

starts_head : (k a : ℕ) (x : Option ℕ) (c : Change) (cs : List Change) → IsRising (suc c.address) cs → c.address ≡ a → (is_at k c.position ≡ true) × (is_at k x ≡ false) → StartsAt k a x (c ∷ cs)
starts_head k a x c cs up e h =
    let at : value_at a x (c ∷ cs) ≡ c.position = subst (λ b. value_at b x (c ∷ cs) ≡ c.position) e (head_value c cs x up) in
    (ap (is_at k) at ∙ h.0, ap (is_at k) (before_before a x c cs (omega arith)) ∙ h.1)

pub starts_are : (k low a : ℕ) (x : Option ℕ) (cs : List Change) → IsRising low cs → Among a (starts k x cs) → StartsAt k a x cs
starts_are k low a x [] up h = absurd h
starts_are k low a x (c ∷ cs) up h =
    ⊎_elim
    (λ here. starts_head k a x c cs up.1 here.1 (both_parts (is_at k c.position) (is_at k x) here.0))
    (λ rest. starts_later k a x c cs (low_among (suc c.address) a (starts k c.position cs) (starts_rise k (suc c.address) c.position cs up.1) rest) (starts_are k (suc c.address) a c.position cs up.1 rest))
    (among_split (is_at k c.position && not (is_at k x)) a c.address (starts k c.position cs) h)

nothing_changes : (k : ℕ) (v : Option ℕ) → (is_at k v ≡ true) × (is_at k v ≡ false) → ⊥
nothing_changes k v h = let no : ⊥ = cc in no

nothing_at : (k a : ℕ) (x : Option ℕ) → StartsAt k a x [] → ⊥
nothing_at k zero x h = nothing_changes k x h
nothing_at k (suc b) x h = nothing_changes k x h

above : (m n : ℕ) → m ≤ n → (m ≡ n → ⊥) → m < n
above m n le differs = ⊎_elim (λ lt. lt) (λ ge. let e : m ≡ n = omega arith in absurd (differs e)) (cases_lt m n)

not_before : (k a : ℕ) (x : Option ℕ) (c : Change) (cs : List Change) → a < c.address → StartsAt k a x (c ∷ cs) → ⊥
not_before k a x c cs lt h = nothing_changes k x (ap (is_at k) (sym (value_before a x c cs lt)) ∙ h.0, ap (is_at k) (sym (before_before a x c cs (omega arith))) ∙ h.1)

pub are_starts : (k low a : ℕ) (x : Option ℕ) (cs : List Change) → IsRising low cs → StartsAt k a x cs → Among a (starts k x cs)
are_starts k low a x [] up h = absurd (nothing_at k a x h)
are_starts k low a x (c ∷ cs) up h =
    ⊎_elim
    (λ before. absurd (not_before k a x c cs before h))
    (λ behind. ⊎_elim
    (λ same. among_front (is_at k c.position && not (is_at k x)) a c.address (starts k c.position cs) (parts_both (is_at k c.position) (is_at k x) (ap (is_at k) (sym (head_value c cs x up.1) ∙ ap (λ b. value_at b x (c ∷ cs)) same) ∙ h.0) (ap (is_at k) (sym (before_before a x c cs (omega arith))) ∙ h.1)) same)
    (λ differs. let lt : c.address < a = above c.address a behind differs in among_rest (is_at k c.position && not (is_at k x)) a c.address (starts k c.position cs) (are_starts k (suc c.address) a c.position cs up.1 (ap (is_at k) (sym (value_behind a x c cs (omega arith))) ∙ h.0, ap (is_at k) (sym (before_behind a x c cs lt)) ∙ h.1)))
    (cases_eq c.address a))
    (cases_lt a c.address)
