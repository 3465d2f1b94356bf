-- Loops over a path and a label.
use Rattle.std.proofs.Common.{rules, ◌≡◌, ℕ, zero, suc, ◌+◌, ◌<◌, ◌≤◌, Bool, true, false, ◌==◌, [], ◌∷◌, length, take, drop, get_or, Option, Some, None, refl, sym, ap, ◌∙◌, arith, add-one, if◌then◌else◌}
use Rattle.coz_types.specs.Labels.{Text, parts_of}

-- ---- the scan of a path

pub nothing_left : (text : Text) (i : ℕ) → length text ≤ i → drop i text ≡ []
nothing_left [] zero le = refl
nothing_left [] (suc i) le = refl
nothing_left (b ∷ rest) zero le = absurd (omega arith)
nothing_left (b ∷ rest) (suc i) le = nothing_left rest i (omega arith)

-- ---- the last colon

pub parts_at : (i : ℕ) (label : Text) → i < length label → get_or label i 0 ≡ 58 → parts_of (drop (suc i) label) ≡ None → parts_of label ≡ Some (take i label, drop (suc i) label)
parts_at i [] lt is none = absurd (omega arith)
parts_at zero (b ∷ rest) lt is none = by (parts_of rest) none
  where
    by : (p : Option (Text × Text)) → p ≡ None → elim p as (λ _. Option (Text × Text)) [ Some p ↦ Some (b ∷ p.0, p.1) | None ↦ if b == 58 then Some ([], rest) else None ] ≡ Some ([], rest)
    by None e = rw is refl
    by (Some p) e = absurd cc
parts_at (suc i) (b ∷ rest) lt is none = ap (λ (p : Option (Text × Text)). elim p as (λ _. Option (Text × Text)) [ Some p ↦ Some (b ∷ p.0, p.1) | None ↦ if b == 58 then Some ([], rest) else None ]) (parts_at i rest (omega arith) is none)

pub no_parts : (i : ℕ) (label : Text) → i < length label → (get_or label i 0 ≡ 58 → ⊥) → parts_of (drop (suc i) label) ≡ None → parts_of (drop i label) ≡ None
no_parts i [] lt is none = absurd (omega arith)
no_parts zero (b ∷ rest) lt is none = by (parts_of rest) (b == 58) refl none
  where
    by : (p : Option (Text × Text)) (c : Bool) → (b == 58) ≡ c → p ≡ None → elim p as (λ _. Option (Text × Text)) [ Some p ↦ Some (b ∷ p.0, p.1) | None ↦ if c then Some ([], rest) else None ] ≡ None
    by p true d e = absurd (is (search (rules, d)))
    by None false d e = refl
    by (Some p) false d e = absurd cc
no_parts (suc i) (b ∷ rest) lt is none = no_parts i rest (omega arith) is none

pub last_at : (j i : ℕ) (label : Text) → i ≡ j + 1 → j < length label → get_or label j 0 ≡ 58 → parts_of (drop i label) ≡ None → (j < length label) × (parts_of label ≡ Some (take j label, drop (j + 1) label))
last_at j i label e lt is none =
    let same : i ≡ suc j = omega arith in
    (lt, parts_at j label lt is (ap (λ (n : ℕ). parts_of (drop n label)) (sym same) ∙ none) ∙ ap (λ (n : ℕ). let p : Option (Text × Text) = Some (take j label, drop n label) in p) (sym (add-one j)))
