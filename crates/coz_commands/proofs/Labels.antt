-- The labels of points, one after the other.
use Rattle.std.proofs.Common.{◌≡◌, ℕ, ◌+◌, ◌<◌, List, [], ◌∷◌, ◌++◌, map, take, sym, ap, subst, ◌∙◌}
use Rattle.std.specs.Prelude.{Some, get_or, slice_get}
use Rattle.std.specs.List.{All}
use Rattle.std.proofs.lemmas.List.{map-append, take_more}
use Rattle.std.proofs.lemmas.Option.{slice_get_within, get_or_from_slice_get}
use Rattle.line_index.specs.Lines.{Line, label, label_at}

-- each of the numbers is below
pub one_below : (most k n : ℕ) (ns : List ℕ) → All (λ n. n < most) ns → slice_get ns k ≡ Some n → n < most
one_below most k n ns all is = subst (λ m. m < most) (get_or_from_slice_get ns k n n is) (all k n (slice_get_within ns k n is))

-- one label more
pub one_label : (lines : List Line) (points : List ℕ) (k line : ℕ) (labels new : List (List ℕ)) (text : List ℕ) → slice_get points k ≡ Some line
    → labels ≡ map (label_at lines) (take k points) → slice_get (map label lines) line ≡ Some text → new ≡ labels ++ text ∷ []
    → new ≡ map (label_at lines) (take (k + 1) points)
one_label lines points k line labels new text is are labelled more =
    more
    ∙ ap (λ (ls : List (List ℕ)). ls ++ text ∷ []) are
    ∙ ap (λ (t : List ℕ). map (label_at lines) (take k points) ++ t ∷ []) (sym (get_or_from_slice_get (map label lines) line text [] labelled) ∙ ap (label_at lines) (sym (get_or_from_slice_get points k line line is)))
    ∙ sym (ap (map (label_at lines)) (take_more points k line (slice_get_within points k line is)) ∙ map-append (label_at lines) (take k points) (get_or points k line ∷ []))
