-- The harts that start have low numbers.
use Rattle.std.proofs.Common.{◌≡◌, ◌==◌, ℕ, zero, suc, ◌<◌, ◌∙◌, Bool, true, false, if◌then◌else◌, List, [], ◌∷◌, map, length, get_or, refl, sym, ap, arith, eq-eqb}
use Rattle.std.specs.List.{All}
use Rattle.coz_types.specs.declared.TheConstants.{HARTS}
use Rattle.coz_types.specs.declared.HartId.{HartId}
use Rattle.machines.specs.Places.{is_among}

abbrev numbers : List HartId → List ℕ
numbers harts = map (λ hart. hart.0) harts

or_among : (b : Bool) (k : ℕ) (hs : List ℕ) → is_among k hs ≡ true → (if b then true else is_among k hs) ≡ true
or_among true k hs is = refl
or_among false k hs is = is

among_at : (harts : List HartId) (i : ℕ) (d : HartId) → i < length harts → is_among (get_or harts i d).0 (numbers harts) ≡ true
among_at [] i d below = absurd (omega arith)
among_at (h ∷ harts) zero d below = rw (eq-eqb h.0 h.0 refl) refl
among_at (h ∷ harts) (suc i) d below = or_among ((get_or harts i d).0 == h.0) (get_or harts i d).0 (numbers harts) (among_at harts i d (omega arith))

pub all_low : (harts : List HartId) (started : List ℕ) → map (λ hart. hart.0) harts ≡ started → ((k : ℕ) → is_among k started ≡ true → k < HARTS) → All (λ hart. hart.0 < HARTS) harts
all_low harts started is low = λ i d below.
    low (get_or harts i d).0 (ap (is_among (get_or harts i d).0) (sym is) ∙ among_at harts i d below)
