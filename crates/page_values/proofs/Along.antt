-- A search, or a text, that goes along the elements of one line in a list.
use Rattle.std.proofs.Common.{◌≡◌, ℕ, suc, ◌+◌, ◌-◌, ◌<◌, ◌≤◌, Bool, true, false, cond, List, [], ◌∷◌, length, map, drop, get_or, Option, Some, None, refl, sym, ap, subst, ◌∙◌, arith}
use Rattle.std.specs.Str.{bytes_eq}
use Rattle.std.specs.Cmp.Lexicographic.{bytes_decides}
use Rattle.std.proofs.lemmas.List.{at_drop_more, drop-drop, drop-map, get_or-drop, get_or-map, length-drop, length-map}
use Rattle.coz_types.specs.Labels.{Text}
use Rattle.page_values.specs.Lines.{ArePlaces, after_of, first_of, place_in, place_from}
use Rattle.page_values.specs.declared.lines.LinePlaces.{LinePlaces}

-- how far it is to the end: less with each place that is passed
abbrev pub places_left : ℕ → Option ℕ → ℕ
places_left n None = 0
places_left n (Some place) = 1 + (n - place)

-- what F gives does not depend on elements of other lines
abbrev pub SkipsOthers : {X R : Type 0} → (X → Text) → Text → (List X → R) → Type 0
SkipsOthers {X} {R} label_of q F = (x : X) (xs : List X) → bytes_eq (label_of x) q ≡ false → F (x ∷ xs) ≡ F xs

module _ {X : Type 0} {R : Type 0} (label_of : X → Text) (q : Text) (F : List X → R) where
  -- ---- from one element of the line to the next

  -- the element so many further on has the label, and those before it do not count
  record IsFurther (xs : List X) (place next : ℕ) : Type 0 where
    pub steps : ℕ
    pub is : next ≡ place + steps
    pub within : steps < length xs
    pub same : F xs ≡ F (drop steps xs)
    pub own : (d : X) → bytes_eq (label_of (get_or xs steps d)) q ≡ true

  further : SkipsOthers label_of q F → (xs : List X) (place next : ℕ) → place_in q place (map label_of xs) ≡ Some next → IsFurther xs place next
  further skips [] place next e = absurd cc
  further skips (x ∷ xs) place next e = by (bytes_eq (label_of x) q) refl e (further skips xs (place + 1) next)
    where
      by : (b : Bool) → bytes_eq (label_of x) q ≡ b → cond b (Some place) (place_in q (place + 1) (map label_of xs)) ≡ Some next
          → (place_in q (place + 1) (map label_of xs) ≡ Some next → IsFurther xs (place + 1) next) → IsFurther (x ∷ xs) place next
      by true has found behind = let here : place ≡ next = cc in record { steps = 0; is = omega (arith, here); within = omega arith; same = refl; own = λ d. has }
      by false has found behind =
          let rest = behind found in
          record { steps = suc rest.steps; is = omega (arith, rest.is); within = omega (arith, rest.within); same = skips x xs has ∙ rest.same; own = rest.own }

  nowhere : SkipsOthers label_of q F → (xs : List X) (place : ℕ) → place_in q place (map label_of xs) ≡ None → F xs ≡ F []
  nowhere skips [] place e = refl
  nowhere skips (x ∷ xs) place e = by (bytes_eq (label_of x) q) refl e (nowhere skips xs (place + 1))
    where
      by : (b : Bool) → bytes_eq (label_of x) q ≡ b → cond b (Some place) (place_in q (place + 1) (map label_of xs)) ≡ None
          → (place_in q (place + 1) (map label_of xs) ≡ None → F xs ≡ F []) → F (x ∷ xs) ≡ F []
      by true has found behind = absurd cc
      by false has found behind = skips x xs has ∙ behind found

  -- ---- in the whole list

  module _ (all : List X) where
    -- the next place of the line after those that are passed
    abbrev pub IsNext : ℕ → Option ℕ → Type 0
    IsNext passed at = at ≡ place_from (map label_of all) q passed

    -- the next place of the line, and nothing that counts before it
    pub record IsHere (passed place : ℕ) : Type 0 where
      pub later : passed ≤ place
      pub within : place < length all
      pub same : F (drop passed all) ≡ F (drop place all)
      pub own : (d : X) → bytes_eq (label_of (get_or all place d)) q ≡ true

    -- a search: all that counts is at this place and after it
    pub record IsAlong (at : Option ℕ) : Type 0 where
      pub passed : ℕ
      pub next : IsNext passed at
      pub same : F (drop passed all) ≡ F all

    in_rest : (passed : ℕ) (at : Option ℕ) → IsNext passed at → place_in q passed (map label_of (drop passed all)) ≡ at
    in_rest passed at is = ap (place_in q passed) (sym (drop-map label_of passed all)) ∙ sym is

    pub here : SkipsOthers label_of q F → (passed place : ℕ) → IsNext passed (Some place) → IsHere passed place
    here skips passed place is =
        let rest = further skips (drop passed all) passed place (in_rest passed (Some place) is) in
        let sum : passed + rest.steps ≡ place = omega (arith, rest.is) in
        record {
          later = omega (arith, rest.is);
          within = omega (arith, rest.is, rest.within, length-drop passed all);
          same = rest.same ∙ ap F (drop-drop rest.steps passed all) ∙ ap (λ (k : ℕ). F (drop k all)) sum;
          own = λ d. subst (λ (x : X). bytes_eq (label_of x) q ≡ true) (get_or-drop passed all rest.steps d ∙ ap (λ (k : ℕ). get_or all k d) sum) (rest.own d);
        }

    pub no_more : SkipsOthers label_of q F → (passed : ℕ) → IsNext passed None → F (drop passed all) ≡ F []
    no_more skips passed is = nowhere skips (drop passed all) passed (in_rest passed None is)

    pub inside : SkipsOthers label_of q F → (place : ℕ) (now : Option ℕ) → now ≡ Some place → IsAlong now → place < length all
    inside skips place now is along = let l = subst IsAlong is along in (here skips l.passed place l.next).within

    pub found : SkipsOthers label_of q F → (place : ℕ) (now : Option ℕ) (x : X) → now ≡ Some place → x ≡ get_or all place x → IsAlong now → F all ≡ F (x ∷ drop (place + 1) all)
    found skips place now x is at along =
        let l = subst IsAlong is along in
        let there = here skips l.passed place l.next in
        sym l.same ∙ there.same ∙ at_drop_more F all place x there.within ∙ ap (λ (y : X). F (y ∷ drop (place + 1) all)) (sym at)

    pub found_none : SkipsOthers label_of q F → (now : Option ℕ) → now ≡ None → IsAlong now → F all ≡ F []
    found_none skips now is along = let l = subst IsAlong is along in sym l.same ∙ no_more skips l.passed l.next

    module _ (p : LinePlaces) (are : ArePlaces (map label_of all) p) where
      pub at_first : (at : Option ℕ) → at ≡ first_of p q → IsNext 0 at
      at_first at is = is ∙ are.first q

      pub at_next : (passed place : ℕ) (at : Option ℕ) (d : X) → IsHere passed place → at ≡ after_of p place → IsNext (place + 1) at
      at_next passed place at d is after =
          let label : get_or (map label_of all) place [] ≡ q = get_or-map label_of all place d [] is.within ∙ (bytes_decides (label_of (get_or all place d)) q).0 (is.own d) in
          after ∙ are.after place (omega (arith, is.within, length-map all label_of)) ∙ ap (λ (l : Text). place_from (map label_of all) l (place + 1)) label

      pub fewer : SkipsOthers label_of q F → (passed place : ℕ) (at : Option ℕ) (d : X) → IsHere passed place → at ≡ after_of p place → places_left (length all) at < places_left (length all) (Some place)
      fewer skips passed place None d is after = omega (arith, is.within)
      fewer skips passed place (Some next) d is after =
          let there = here skips (place + 1) next (at_next passed place (Some next) d is after) in
          omega (arith, is.within, there.later, there.within)

      pub begun : (at : Option ℕ) → at ≡ first_of p q → IsAlong at
      begun at is = record { passed = 0; next = at_first at is; same = refl }

      pub moved : SkipsOthers label_of q F → (place : ℕ) (now : Option ℕ) (x : X) (at : Option ℕ) → now ≡ Some place → x ≡ get_or all place x → F (x ∷ drop (place + 1) all) ≡ F (drop (place + 1) all) → at ≡ after_of p place → IsAlong now → IsAlong at
      moved skips place now x at is here_x passes after along =
          let l = subst IsAlong is along in
          record {
            passed = place + 1;
            next = at_next l.passed place at x (here skips l.passed place l.next) after;
            same = sym passes ∙ sym (found skips place now x is here_x along);
          }

      pub shorter : SkipsOthers label_of q F → (place : ℕ) (now at : Option ℕ) (d : X) → now ≡ Some place → at ≡ after_of p place → IsAlong now → places_left (length all) at < places_left (length all) now
      shorter skips place now at d is after along =
          let l = subst IsAlong is along in
          subst (λ (o : Option ℕ). places_left (length all) at < places_left (length all) o) (sym is) (fewer skips l.passed place at d (here skips l.passed place l.next) after)
