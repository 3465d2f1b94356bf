-- The segments of a path tile its time.
use Rattle.std.proofs.Common.{◌≡◌, ℕ, zero, suc, ◌-◌, ◌≤◌, ◌<◌, ◌==◌, Bool, true, false, if◌then◌else◌, List, [], ◌∷◌, ◌++◌, length, reverse, append_assoc, refl, sym, ap, ◌∙◌, subst, arith, ◌⊎◌, inl, inr, ne_eqb}
use Rattle.std.proofs.lemmas.Bool.{cases_eq, eq-eqb}
use Rattle.std.proofs.lemmas.List.{reverse-append}
use Rattle.hart_handovers.specs.declared.handover.Handover.{Handover}
use Rattle.hart_handovers.specs.declared.path.Segment.{Segment}
use Rattle.hart_handovers.specs.Path.{ArePast, IsBegun, Rooted, Tile, back, handover_at, segment}

tile_snoc : (u : ℕ) (xs : List Segment) (s : Segment) → s.from ≤ s.to → Tile u s.from xs → Tile u s.to (xs ++ s ∷ [])
tile_snoc u [] s later first = (sym first, (later, refl))
tile_snoc u (x ∷ xs) s later first = (first.0, (first.1.0, tile_snoc x.to xs s later first.1.1))

-- if the latest one isn't to the hart, an earlier one is
begun_before : (list : List Handover) (hart n : ℕ) → IsBegun list hart (suc n) → ((handover_at list n).hart.0 == hart) ≡ false → IsBegun list hart n
begun_before list hart n b other = (b.0, (below (cases_eq b.0 n), b.1.1))
  where
    not_same : b.0 ≡ n → ⊥
    not_same same =
        let here : (handover_at list n).hart.0 ≡ hart = subst (λ i. (handover_at list i).hart.0 ≡ hart) same b.1.1 in
        let no : true ≡ false = sym (eq-eqb (handover_at list n).hart.0 hart here) ∙ other in
        absurd cc

    below : (b.0 ≡ n) ⊎ (b.0 ≡ n → ⊥) → b.0 < n
    below (inl same) = absurd (not_same same)
    below (inr apart) = let less : b.0 < suc n = b.1.0 in omega (arith, less, apart)

past_before : (list : List Handover) (to n : ℕ) → ArePast list to (suc n) → ArePast list to n
past_before list to n past i below = past i (omega (arith, below))

module _ (list : List Handover) (rooted : Rooted list) where
  abbrev Tiles : ℕ → Type 0
  Tiles n = (hart to : ℕ) → IsBegun list hart n → ArePast list to n → Tile 0 to (back list hart to n)

  -- the path up to a hand-over
  ahead : (n : ℕ) → n < length list → Tiles n → Tile 0 (handover_at list n).moment (back list (handover_at list n).by.0 (handover_at list n).moment n)
  ahead zero few rest = sym rooted.first
  ahead (suc m) few rest = rest (handover_at list (suc m)).by.0 (handover_at list (suc m)).moment (rooted.begun (suc m) (omega arith) few) (rooted.rising (suc m) few)

  pub tiles : (n : ℕ) → n ≤ length list → Tiles n
  tiles zero few hart to begun past = absurd (let no : begun.0 < 0 = begun.1.0 in omega (arith, no))
  tiles (suc n) few hart to begun past = by ((handover_at list n).hart.0 == hart) refl (tiles n (omega (arith, few)))
    where
      by : (b : Bool) → ((handover_at list n).hart.0 == hart) ≡ b → Tiles n
          → Tile 0 to (if b then back list (handover_at list n).by.0 (handover_at list n).moment n ++ segment (handover_at list n) to ∷ [] else back list hart to n)
      by true is rest =
          tile_snoc 0 (back list (handover_at list n).by.0 (handover_at list n).moment n) (segment (handover_at list n) to) (past n (omega arith)) (ahead n (omega (arith, few)) rest)
      by false is rest = rest hart to (begun_before list hart n begun is) (past_before list to n past)

-- ---- going back

-- the next hand-over begins a segment, or does not
pub goes_back : (list : List Handover) (hart to n : ℕ) (path : List Segment) → (handover_at list n).hart.0 ≡ hart
    → back list hart to (suc n) ++ reverse path ≡ back list (handover_at list n).by.0 (handover_at list n).moment n ++ reverse (path ++ segment (handover_at list n) to ∷ [])
goes_back list hart to n path is =
    let earlier : List Segment = back list (handover_at list n).by.0 (handover_at list n).moment n in
    ap (λ (b : Bool). (if b then earlier ++ segment (handover_at list n) to ∷ [] else back list hart to n) ++ reverse path) (eq-eqb (handover_at list n).hart.0 hart is)
    ∙ append_assoc earlier (segment (handover_at list n) to ∷ []) (reverse path)
    ∙ ap (λ (ss : List Segment). earlier ++ ss) (sym (reverse-append path (segment (handover_at list n) to ∷ [])))

pub passes_by : (list : List Handover) (hart to n : ℕ) → ((handover_at list n).hart.0 ≡ hart → ⊥) → back list hart to (suc n) ≡ back list hart to n
passes_by list hart to n other = ap (λ (b : Bool). if b then back list (handover_at list n).by.0 (handover_at list n).moment n ++ segment (handover_at list n) to ∷ [] else back list hart to n) (ne_eqb (handover_at list n).hart.0 hart other)

less_one : (left : ℕ) → 0 < left → suc (left - 1) ≡ left
less_one left some = omega (arith, some)

pub step_taken : (list : List Handover) (hart to left : ℕ) (path new : List Segment) → 0 < left → (handover_at list (left - 1)).hart.0 ≡ hart → new ≡ path ++ segment (handover_at list (left - 1)) to ∷ []
    → back list hart to left ++ reverse path ≡ back list (handover_at list (left - 1)).by.0 (handover_at list (left - 1)).moment (left - 1) ++ reverse new
step_taken list hart to left path new some is pushed =
    ap (λ (n : ℕ). back list hart to n ++ reverse path) (sym (less_one left some))
    ∙ goes_back list hart to (left - 1) path is
    ∙ ap (λ (ss : List Segment). back list (handover_at list (left - 1)).by.0 (handover_at list (left - 1)).moment (left - 1) ++ reverse ss) (sym pushed)

pub step_passed : (list : List Handover) (hart to left : ℕ) → 0 < left → ((handover_at list (left - 1)).hart.0 ≡ hart → ⊥) → back list hart to left ≡ back list hart to (left - 1)
step_passed list hart to left some other = ap (back list hart to) (sym (less_one left some)) ∙ passes_by list hart to (left - 1) other
