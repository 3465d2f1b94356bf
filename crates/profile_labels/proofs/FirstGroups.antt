-- The first group of a list that is cut where its elements change.
use Rattle.std.proofs.Common.{◌≡◌, ℕ, zero, suc, ◌-◌, ◌<◌, ◌≤◌, Bool, true, false, List, [], ◌∷◌, length, take, drop, get_or, refl, sym, ap, ◌∙◌, arith}
use Rattle.profile_labels.specs.Groups.{groups_by, goes_with, join}

module _ {A : Type 0} (same : A → A → Bool) where
  -- from the second to before this place each is the same as the one before it
  abbrev pub IsRun : ℕ → List A → Type 0
  IsRun n xs = (k : ℕ) (d : A) → suc k < n → same (get_or xs k d) (get_or xs (suc k) d) ≡ true

  -- the last of these isn't the same as what follows, if anything does
  abbrev Ends : ℕ → List A → Type 0
  Ends n xs = (m : ℕ) (d : A) → suc m ≡ n → n < length xs → same (get_or xs m d) (get_or xs n d) ≡ false

  pub joined : (x : A) (group : List A) (rest : List (List A)) → goes_with same x group ≡ true → join same x (group ∷ rest) ≡ (x ∷ group) ∷ rest
  joined x group rest e = ap (λ (b : Bool). elim b [ true ↦ (x ∷ group) ∷ rest | false ↦ (x ∷ []) ∷ group ∷ rest ]) e

  pub apart : (x : A) (group : List A) (rest : List (List A)) → goes_with same x group ≡ false → join same x (group ∷ rest) ≡ (x ∷ []) ∷ group ∷ rest
  apart x group rest e = ap (λ (b : Bool). elim b [ true ↦ (x ∷ group) ∷ rest | false ↦ (x ∷ []) ∷ group ∷ rest ]) e

  -- the first group begins with the first element
  begins : (y : A) (rest : List A) → (group : List A) × (others : List (List A)) × (groups_by same (y ∷ rest) ≡ (y ∷ group) ∷ others)
  unfolding groups_by
  begins y rest = by (groups_by same rest)
    where
      by : (gs : List (List A)) → (group : List A) × (others : List (List A)) × (join same y gs ≡ (y ∷ group) ∷ others)
      by [] = ([], [], refl)
      by (g ∷ gs) = or (goes_with same y g) refl
        where
          or : (c : Bool) → goes_with same y g ≡ c → (group : List A) × (others : List (List A)) × (join same y (g ∷ gs) ≡ (y ∷ group) ∷ others)
          or true e = (g, gs, joined y g gs e)
          or false e = ([], g ∷ gs, apart y g gs e)

  -- n elements after the first are its group
  first_group : (n : ℕ) (x : A) (rest : List A) → n ≤ length rest → IsRun (suc n) (x ∷ rest) → Ends (suc n) (x ∷ rest) → groups_by same (x ∷ rest) ≡ (x ∷ take n rest) ∷ groups_by same (drop n rest)
  unfolding groups_by
  first_group zero x [] le run ends = refl
  first_group zero x (y ∷ rest) le run ends =
      let b = begins y rest in
      let e : same x y ≡ false = ends 0 x refl (omega arith) in
      ap (join same x) b.2 ∙ apart x (y ∷ b.0) b.1 e ∙ ap (λ (gs : List (List A)). (x ∷ []) ∷ gs) (sym b.2)
  first_group (suc n) x [] le run ends = absurd (omega arith)
  first_group (suc n) x (y ∷ rest) le run ends =
      let h = first_group n y rest (omega arith) (λ k d lt. run (suc k) d (omega arith)) (λ m d e lt. ends (suc m) d (ap suc e) (omega arith)) in
      let e : same x y ≡ true = run 0 x (omega arith) in
      ap (join same x) h ∙ joined x (y ∷ take n rest) (groups_by same (drop n rest)) e

  pub group_at : (n : ℕ) (xs : List A) → 0 < n → n ≤ length xs → IsRun n xs → ((d : A) → n < length xs → same (get_or xs (n - 1) d) (get_or xs n d) ≡ false) → groups_by same xs ≡ take n xs ∷ groups_by same (drop n xs)
  group_at zero xs some le run other = absurd (omega (arith, some))
  group_at (suc n) [] some le run other = absurd (omega (arith, le))
  group_at (suc n) (x ∷ rest) some le run other = first_group n x rest (omega arith) run (λ m d e lt.
      let at : m ≡ suc n - 1 = omega (arith, e) in
      ap (λ (j : ℕ). same (get_or (x ∷ rest) j d) (get_or (x ∷ rest) (suc n) d)) at ∙ other d lt)

-- the element at a place, whatever the others are
pub at_place : {A : Type 0} (xs : List A) (k : ℕ) (d x : A) → k < length xs → get_or xs k x ≡ x → get_or xs k d ≡ x
at_place [] k d x lt is = absurd (omega (arith, lt))
at_place (y ∷ xs) zero d x lt is = is
at_place (y ∷ xs) (suc k) d x lt is = at_place xs k d x (omega (arith, lt)) is
