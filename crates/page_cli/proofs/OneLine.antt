-- The pictures of one line at all points, and the curves of the line that they depend on.
use Rattle.std.proofs.Common.{◌≡◌, ℕ, ◌+◌, ◌<◌, Bool, true, false, ◌&&◌, ◌||◌, List, [], ◌∷◌, ◌++◌, length, drop, get_or, Option, Some, None, refl, sym, ap, subst, ◌∙◌, append_assoc, if◌then◌else◌}
use Rattle.std.specs.List.{flat_map, list_any}
use Rattle.std.specs.Option.{option_cmp}
use Rattle.std.specs.Ordering.{is_lt, nat_cmp, int_cmp, ordering_then}
use Rattle.std.proofs.lemmas.List.{append-nil, at_drop_more}
use Rattle.coz_types.specs.Labels.{Text}
use Rattle.coz_files.specs.Gathered.{Rest, Gathers}
use Rattle.coz_files.proofs.GatheredLemmas.{gathers_nothing, gathers_then}
use Rattle.profile_book.proofs.Gathering.{gathers_as}
use Rattle.causal_curves.specs.declared.curve.Curve.{Curve}
use Rattle.page_charts.specs.Charts.{is_notable}
use Rattle.page_values.specs.Lines.{ArePlaces, after_of, curve_labels, first_of}
use Rattle.page_values.specs.declared.lines.LinePlaces.{LinePlaces}
use Rattle.page_values.proofs.Along.{IsNext, SkipsOthers, at_first, at_next, fewer, here, no_more, places_left}
use Rattle.page_cli.specs.Page.{figure_text, is_behind, is_notable_of, side_at}

abbrev pub curve_label : Curve → Text
curve_label c = c.selected

pub skips_behind : (c : Curve) → SkipsOthers curve_label c.selected (list_any (is_behind c))
skips_behind c x xs other =
    ap (λ (b : Bool). (b && is_lt (ordering_then (option_cmp int_cmp c.gain x.gain) (nat_cmp x.point c.point))) || list_any (is_behind c) xs) other

pub skips_notable : (top : ℕ) (label : Text) → SkipsOthers curve_label label (list_any (is_notable_of top label))
skips_notable top label x xs other = ap (λ (b : Bool). (b && is_notable top x) || list_any (is_notable_of top label) xs) other

pub skips_sides : (top : ℕ) (points : List Text) (label : Text) → SkipsOthers curve_label label (flat_map (side_at top points label))
skips_sides top points label x xs other =
    ap (λ (b : Bool). (if b then figure_text top (get_or points x.point []) x else []) ++ flat_map (side_at top points label) xs) other

-- what a search that finds nothing here goes on to
pub passes : (p : Curve → Bool) (x : Curve) (xs : List Curve) → p x ≡ false → list_any p (x ∷ xs) ≡ list_any p xs
passes p x xs none = ap (λ (b : Bool). b || list_any p xs) none

-- what a search that ends here has found
pub ends : (p : Curve → Bool) (x : Curve) (xs : List Curve) → p x ≡ true → list_any p (x ∷ xs) ≡ true
ends p x xs one = ap (λ (b : Bool). b || list_any p xs) one

-- ---- the pictures so far

module _ (part : Curve → Text) (label : Text) (all : List Curve) where
  abbrev pub parts : List Curve → Text
  parts curves = flat_map part curves

  -- what is put so far, with the pictures from here on after it, is all the pictures
  pub record ArePut {S : Type 0} (holds : S → Option Text) (faults : S → ℕ) (old new : S) (before left : Rest) (at : Option ℕ) : Type 0 where
    pub text : Text
    pub passed : ℕ
    pub gathers : Gathers holds faults old new before left text
    pub next : IsNext curve_label label parts all passed at
    pub whole : text ++ parts (drop passed all) ≡ parts all

  module _ (skips : SkipsOthers curve_label label parts) where
    pub is_within : {S : Type 0} {holds : S → Option Text} {faults : S → ℕ} {old new : S} {before left : Rest} (place : ℕ) (now : Option ℕ) → now ≡ Some place → ArePut holds faults old new before left now → place < length all
    is_within {holds = holds} {faults = faults} {old = old} {new = new} {before = before} {left = left} place now is put =
        let so_far = subst (λ (o : Option ℕ). ArePut holds faults old new before left o) is put in
        (here curve_label label parts all skips so_far.passed place so_far.next).within

    pub all_put : {S : Type 0} {holds : S → Option Text} {faults : S → ℕ} {old new : S} {before left : Rest} (now : Option ℕ) → now ≡ None → ArePut holds faults old new before left now → Gathers holds faults old new before left (parts all)
    all_put {holds = holds} {faults = faults} {old = old} {new = new} {before = before} {left = left} now is put =
        let so_far = subst (λ (o : Option ℕ). ArePut holds faults old new before left o) is put in
        gathers_as
        (sym (append-nil so_far.text) ∙ ap (λ (t : Text). so_far.text ++ t) (sym (no_more curve_label label parts all skips so_far.passed so_far.next)) ∙ so_far.whole)
        so_far.gathers

    module _ (p : LinePlaces) (are : ArePlaces (curve_labels all) p) where
      pub none_put : {S : Type 0} {holds : S → Option Text} {faults : S → ℕ} (sink : S) (rest : Rest) (at : Option ℕ) → at ≡ first_of p label → ArePut holds faults sink sink rest rest at
      none_put sink rest at is = record { text = []; passed = 0; gathers = gathers_nothing sink rest; next = at_first curve_label label parts all p are at is; whole = refl }

      pub fewer_left : {S : Type 0} {holds : S → Option Text} {faults : S → ℕ} {old new : S} {before left : Rest} (place : ℕ) (now at : Option ℕ) (d : Curve) → now ≡ Some place → at ≡ after_of p place → ArePut holds faults old new before left now
          → places_left (length all) at < places_left (length all) now
      fewer_left {holds = holds} {faults = faults} {old = old} {new = new} {before = before} {left = left} place now at d is after put =
          let so_far = subst (λ (o : Option ℕ). ArePut holds faults old new before left o) is put in
          subst (λ (o : Option ℕ). places_left (length all) at < places_left (length all) o) (sym is)
          (fewer curve_label label parts all p are skips so_far.passed place at d (here curve_label label parts all skips so_far.passed place so_far.next) after)

      pub one_put : {S : Type 0} {holds : S → Option Text} {faults : S → ℕ} {old mid new : S} {before between left : Rest} (place : ℕ) (now : Option ℕ) (x : Curve) (at : Option ℕ) → now ≡ Some place → x ≡ get_or all place x → at ≡ after_of p place
          → ArePut holds faults old mid before between now → Gathers holds faults mid new between left (part x) → ArePut holds faults old new before left at
      one_put {holds = holds} {faults = faults} {old = old} {mid = mid} {before = before} {between = between} place now x at where_now is after put more =
          let so_far = subst (λ (o : Option ℕ). ArePut holds faults old mid before between o) where_now put in
          let there = here curve_label label parts all skips so_far.passed place so_far.next in
          record {
            text = so_far.text ++ part x;
            passed = place + 1;
            gathers = gathers_then so_far.gathers more;
            next = at_next curve_label label parts all p are so_far.passed place at x there after;
            whole =
                append_assoc so_far.text (part x) (parts (drop (place + 1) all))
                ∙ ap (λ (y : Curve). so_far.text ++ (part y ++ parts (drop (place + 1) all))) is
                ∙ ap (λ (t : Text). so_far.text ++ t) (sym (at_drop_more parts all place x there.within))
                ∙ ap (λ (t : Text). so_far.text ++ t) (sym there.same)
                ∙ so_far.whole;
          }
