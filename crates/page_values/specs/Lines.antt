-- Where the elements of each line stand in a list of blocks or of curves.
use Rattle.std.specs.Prelude.{◌≡◌, ℕ, ◌+◌, ◌<◌, List, [], ◌∷◌, map, drop, length, get_or, Option, Some, None, if◌then◌else◌}
use Rattle.std.specs.BTreeMap.{get_by}
use Rattle.std.specs.Cmp.Lexicographic.{slice_cmp}
use Rattle.std.specs.Ordering.{nat_cmp}
use Rattle.std.specs.Str.{bytes_eq}
use denote.Ref.{Bor}
use Rattle.coz_types.specs.Labels.{Text}
use Rattle.coz_types.specs.declared.record.Summary.{Summary}
use Rattle.causal_curves.specs.declared.curve.Curve.{Curve}
use Rattle.page_values.specs.declared.lines.LinePlaces.{LinePlaces}

-- ---- labels

abbrev pub texts : List (Bor Text) → List Text
texts labels = map (λ (label : Bor Text). label.now) labels

abbrev pub block_labels : List Summary → List Text
block_labels summaries = map (λ (s : Summary). s.selected) summaries

abbrev pub curve_labels : List Curve → List Text
curve_labels curves = map (λ (c : Curve). c.selected) curves

-- ---- places

-- the first place of the label in the rest of a list, which begins at this place
abbrev pub place_in : Text → ℕ → List Text → Option ℕ
place_in label place [] = None
place_in label place (l ∷ rest) = if bytes_eq l label then Some place else place_in label (place + 1) rest

-- the first place of the label from this place on
abbrev pub place_from : List Text → Text → ℕ → Option ℕ
place_from labels label place = place_in label place (drop place labels)

abbrev pub first_of : LinePlaces → Text → Option ℕ
first_of p label = get_by (λ k. slice_cmp nat_cmp label k.now) p.first

abbrev pub after_of : LinePlaces → ℕ → Option ℕ
after_of p place = get_or p.after.items place None

-- the first place of each label, and for each place the next one with its label
pub record ArePlaces (labels : List Text) (p : LinePlaces) : Type 0 where
  pub first : (label : Text) → first_of p label ≡ place_from labels label 0
  pub after : (place : ℕ) → place < length labels →
      after_of p place ≡ place_from labels (get_or labels place []) (place + 1)
