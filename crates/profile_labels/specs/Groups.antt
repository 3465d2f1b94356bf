-- A list that is cut where its elements change.
use Rattle.std.specs.Prelude.{Bool, true, false, List, [], ◌∷◌}
use Rattle.std.specs.Str.{bytes_eq}
use Rattle.coz_types.specs.declared.record.Summary.{Summary}

-- the element goes with the first of these
abbrev pub goes_with : {A : Type 0} → (A → A → Bool) → A → List A → Bool
goes_with same x [] = false
goes_with same x (y ∷ group) = same x y

abbrev pub join : {A : Type 0} → (A → A → Bool) → A → List (List A) → List (List A)
join same x [] = (x ∷ []) ∷ []
join same x (group ∷ groups) = elim (goes_with same x group) [
  | true ↦ (x ∷ group) ∷ groups
  | false ↦ (x ∷ []) ∷ group ∷ groups
]

-- the elements, cut before each that isn't the same as the one before it
unfoldable pub groups_by : {A : Type 0} → (A → A → Bool) → List A → List (List A)
groups_by same [] = []
groups_by same (x ∷ rest) = join same x (groups_by same rest)

-- ---- blocks

abbrev pub have_one_label : Summary → Summary → Bool
have_one_label s t = bytes_eq s.selected t.selected

-- the blocks, cut where the label changes
abbrev pub groups : List Summary → List (List Summary)
groups summaries = groups_by have_one_label summaries
