-- The one stable sort of a list.
use Rattle.std.specs.Prelude.{Bool, true, false, List, [], ◌∷◌}

-- an element among others, before the first that is not less than it
abbrev pub put_by : {X : Type 0} → (X → X → Bool) → X → List X → List X
put_by lt x [] = x ∷ []
put_by lt x (y ∷ ys) = elim (lt y x) [ true ↦ y ∷ put_by lt x ys | false ↦ x ∷ y ∷ ys ]

-- the elements in order, those that tie as they stood
unfoldable pub sorted_by : {X : Type 0} → (X → X → Bool) → List X → List X
sorted_by lt [] = []
sorted_by lt (x ∷ xs) = put_by lt x (sorted_by lt xs)
