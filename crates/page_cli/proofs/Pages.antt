-- The parts of a page, one group of curves after the other.
use Rattle.std.proofs.Common.{rules, ◌≡◌, ℕ, true, ◌==◌, List, [], ◌∷◌, ◌++◌, length, take, drop, Option, refl, sym, ap, ◌∙◌, arith, append_assoc}
use Rattle.std.specs.List.{flat_map}
use Rattle.std.proofs.lemmas.List.{append-nil}
use Rattle.coz_types.specs.Labels.{Text}
use Rattle.coz_files.specs.Gathered.{Rest, Gathers}
use Rattle.coz_files.proofs.GatheredLemmas.{gathers_nothing, gathers_then}
use Rattle.profile_book.proofs.Gathering.{gathers_as}
use Rattle.causal_curves.specs.declared.curve.Curve.{Curve}
use Rattle.profile_labels.specs.Groups.{groups_by}
use Rattle.page_cli.specs.Page.{by_point}

-- the text of one group
abbrev pub Part : Type 0
Part = List Curve → Text

abbrev pub parts : Part → List Curve → Text
parts part curves = flat_map part (by_point curves)

-- what is put so far, with the parts of the rest after it, is all the parts
pub record SoFar {S : Type 0} (holds : S → Option Text) (faults : S → ℕ) (old new : S) (before left : Rest) (part : Part) (curves rest : List Curve) : Type 0 where
  pub text : Text
  pub gathers : Gathers holds faults old new before left text
  pub whole : text ++ parts part rest ≡ parts part curves

pub nothing_yet : {S : Type 0} {holds : S → Option Text} {faults : S → ℕ} (sink : S) (rest : Rest) (part : Part) (curves : List Curve) → SoFar holds faults sink sink rest rest part curves curves
nothing_yet sink rest part curves = record { text = []; gathers = gathers_nothing sink rest; whole = refl }

pub one_more : {S : Type 0} {holds : S → Option Text} {faults : S → ℕ} {old mid new : S} {before between left : Rest} (part : Part) (curves rest : List Curve) (n : ℕ) (group behind : List Curve)
    → by_point rest ≡ take n rest ∷ by_point (drop n rest) → group ≡ take n rest → behind ≡ drop n rest
    → SoFar holds faults old mid before between part curves rest → Gathers holds faults mid new between left (part group) → SoFar holds faults old new before left part curves behind
one_more part curves rest n group behind cut front back so_far more = record {
  text = so_far.text ++ part group;
  gathers = gathers_then so_far.gathers more;
  whole =
      append_assoc so_far.text (part group) (parts part behind)
      ∙ ap (λ (g : List Curve). so_far.text ++ (part g ++ parts part behind)) front
      ∙ ap (λ (b : List Curve). so_far.text ++ (part (take n rest) ++ parts part b)) back
      ∙ ap (λ (gs : List (List Curve)). so_far.text ++ flat_map part gs) (sym cut)
      ∙ so_far.whole;
}

pub no_more : {S : Type 0} {holds : S → Option Text} {faults : S → ℕ} {old new : S} {before left : Rest} (part : Part) (curves rest : List Curve) → (length rest == 0) ≡ true
    → SoFar holds faults old new before left part curves rest → Gathers holds faults old new before left (parts part curves)
unfolding groups_by
no_more part curves [] empty so_far = gathers_as (sym (append-nil so_far.text) ∙ so_far.whole) so_far.gathers
no_more part curves (c ∷ rest) empty so_far = let e : length (c ∷ rest) ≡ 0 = search (rules, empty) in absurd (omega (arith, e))
