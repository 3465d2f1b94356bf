-- A list has one stable sort.
use Rattle.std.proofs.Common.{◌≡◌, ℕ, suc, ◌<◌, ◌≤◌, Bool, true, false, not, ◌&&◌, cond, List, [], ◌∷◌, length, get_or, refl, sym, ap, ap₂, subst, ◌∙◌, arith}
use Rattle.std.specs.Cmp.{IsStrictWeakOrder}
use Rattle.std.specs.List.{filter}
use Rattle.std.specs.List.Sorted.{IsSortedBy, IsStableBy, ties}
use Rattle.std.proofs.lemmas.Bool.{and_parts}
use Rattle.std.proofs.lemmas.List.Sorted.{sorted_far}
use Rattle.profile_labels.specs.Sorted.{put_by, sorted_by}

not_true : (b : Bool) → not b ≡ true → b ≡ false
not_true false e = refl
not_true true e = absurd cc

module _ {X : Type 0} (lt : X → X → Bool) (o : IsStrictWeakOrder lt) where
  -- ---- lists in order

  -- none of these comes before x
  abbrev pub IsFirst : X → List X → Type 0
  IsFirst x [] = Unit {0}
  IsFirst x (y ∷ ys) = (lt y x ≡ false) × IsFirst x ys

  abbrev pub Rises : List X → Type 0
  Rises [] = Unit {0}
  Rises (x ∷ xs) = IsFirst x xs × Rises xs

  first_by_place : (x : X) (ys : List X) → ((j : ℕ) (d : X) → j < length ys → lt (get_or ys j d) x ≡ false) → IsFirst x ys
  first_by_place x [] all = tt
  first_by_place x (y ∷ ys) all = (all 0 x (omega arith), first_by_place x ys (λ j d b. all (suc j) d (omega (arith, b))))

  pub rises_by_place : (xs : List X) → ((i j : ℕ) (d : X) → i ≤ j → j < length xs → lt (get_or xs j d) (get_or xs i d) ≡ false) → Rises xs
  rises_by_place [] far = tt
  rises_by_place (x ∷ xs) far = (
    first_by_place x xs (λ j d b. far 0 (suc j) d (omega arith) (omega (arith, b))),
    rises_by_place xs (λ i j d le b. far (suc i) (suc j) d (omega (arith, le)) (omega (arith, b))),
  )

  -- ---- ties

  pub self : (x : X) → lt x x ≡ false
  self x = by (lt x x) refl
    where
      by : (b : Bool) → lt x x ≡ b → lt x x ≡ false
      by true e = o.one_way x x e
      by false e = e

  pub tied : (x y : X) → lt x y ≡ false → lt y x ≡ false → ties lt x y ≡ true
  tied x y a b = ap₂ (λ (p q : Bool). not p && not q) a b

  tied_self : (x : X) → ties lt x x ≡ true
  tied_self x = tied x x (self x) (self x)

  -- two that tie with one tie
  apart : (x y z : X) → lt y x ≡ true → ties lt z y ≡ true → ties lt z x ≡ false
  apart x y z before tie = by (ties lt z x) refl
    where
      by : (b : Bool) → ties lt z x ≡ b → ties lt z x ≡ false
      by false e = e
      by true e =
          let above = not_true (lt y z) (and_parts (not (lt z y)) (not (lt y z)) tie).1 in
          let below = not_true (lt z x) (and_parts (not (lt z x)) (not (lt x z)) e).0 in
          absurd (let bad : true ≡ false = sym before ∙ o.chain y z x above below in cc)

  kept : (p : X → Bool) (x : X) (xs : List X) → p x ≡ true → filter p (x ∷ xs) ≡ x ∷ filter p xs
  kept p x xs e = ap (λ (b : Bool). cond b (x ∷ filter p xs) (filter p xs)) e

  left_out : (p : X → Bool) (x : X) (xs : List X) → p x ≡ false → filter p (x ∷ xs) ≡ filter p xs
  left_out p x xs e = ap (λ (b : Bool). cond b (x ∷ filter p xs) (filter p xs)) e

  -- ---- two lists in order with the same ties are one

  -- what is kept of a list is an element of it
  front_is_behind : (x : X) (p : X → Bool) (zs : List X) (y : X) (rest : List X) → IsFirst x zs → filter p zs ≡ y ∷ rest → lt y x ≡ false
  front_is_behind x p [] y rest all e = absurd cc
  front_is_behind x p (z ∷ zs) y rest all e = by (p z) refl (front_is_behind x p zs y rest all.1)
    where
      by : (b : Bool) → p z ≡ b → (filter p zs ≡ y ∷ rest → lt y x ≡ false) → lt y x ≡ false
      by true d more =
          let is : z ∷ filter p zs ≡ y ∷ rest = sym (kept p z zs d) ∙ e in
          let same : z ≡ y = cc in
          subst (λ (w : X). lt w x ≡ false) same all.0
      by false d more = more (sym (left_out p z zs d) ∙ e)

  pub one : (xs ys : List X) → Rises xs → Rises ys → ((z : X) → filter (ties lt z) xs ≡ filter (ties lt z) ys) → xs ≡ ys
  one [] [] up_x up_y same = refl
  one [] (y ∷ ys) up_x up_y same = absurd (let bad : [] ≡ y ∷ filter (ties lt y) ys = same y ∙ kept (ties lt y) y ys (tied_self y) in cc)
  one (x ∷ xs) [] up_x up_y same = absurd (let bad : x ∷ filter (ties lt x) xs ≡ [] = sym (kept (ties lt x) x xs (tied_self x)) ∙ same x in cc)
  one (x ∷ xs) (y ∷ ys) up_x up_y same = ap₂ (λ (z : X) (zs : List X). z ∷ zs) first (one xs ys up_x.1 up_y.1 rest)
    where
      y_is_in : filter (ties lt y) (x ∷ xs) ≡ y ∷ filter (ties lt y) ys
      y_is_in = same y ∙ kept (ties lt y) y ys (tied_self y)

      x_is_in : filter (ties lt x) (y ∷ ys) ≡ x ∷ filter (ties lt x) xs
      x_is_in = sym (same x) ∙ kept (ties lt x) x xs (tied_self x)

      x_low : lt y x ≡ false
      x_low = front_is_behind x (ties lt y) (x ∷ xs) y (filter (ties lt y) ys) (self x, up_x.0) y_is_in

      y_low : lt x y ≡ false
      y_low = front_is_behind y (ties lt x) (y ∷ ys) x (filter (ties lt x) xs) (self y, up_y.0) x_is_in

      first : x ≡ y
      first = let is : x ∷ filter (ties lt y) xs ≡ y ∷ filter (ties lt y) ys = sym (kept (ties lt y) x xs (tied y x x_low y_low)) ∙ y_is_in in cc

      rest : (z : X) → filter (ties lt z) xs ≡ filter (ties lt z) ys
      rest z = by (ties lt z x) refl
        where
          by : (b : Bool) → ties lt z x ≡ b → filter (ties lt z) xs ≡ filter (ties lt z) ys
          by true d =
              let is : x ∷ filter (ties lt z) xs ≡ y ∷ filter (ties lt z) ys =
              sym (kept (ties lt z) x xs d) ∙ same z ∙ kept (ties lt z) y ys (subst (λ (w : X). ties lt z w ≡ true) first d)
              in cc
          by false d = sym (left_out (ties lt z) x xs d) ∙ same z ∙ left_out (ties lt z) y ys (subst (λ (w : X). ties lt z w ≡ false) first d)

  -- ---- elements put in order

  put_behind : (x y : X) (ys : List X) → lt y x ≡ true → put_by lt x (y ∷ ys) ≡ y ∷ put_by lt x ys
  put_behind x y ys e = rw (put_by, e) refl

  put_before : (x y : X) (ys : List X) → lt y x ≡ false → put_by lt x (y ∷ ys) ≡ x ∷ y ∷ ys
  put_before x y ys e = rw (put_by, e) refl

  put_first : (a x : X) (ys : List X) → lt x a ≡ false → IsFirst a ys → IsFirst a (put_by lt x ys)
  put_first a x [] low all = (low, tt)
  put_first a x (y ∷ ys) low all = by (lt y x) refl (put_first a x ys low all.1)
    where
      by : (b : Bool) → lt y x ≡ b → IsFirst a (put_by lt x ys) → IsFirst a (put_by lt x (y ∷ ys))
      by true e more = subst (IsFirst a) (sym (put_behind x y ys e)) (all.0, more)
      by false e more = subst (IsFirst a) (sym (put_before x y ys e)) (low, all)

  first_before : (x y : X) (ys : List X) → lt y x ≡ false → IsFirst y ys → IsFirst x ys
  first_before x y [] e all = tt
  first_before x y (z ∷ zs) e all = (o.chain z y x all.0 e, first_before x y zs e all.1)

  put_rises : (x : X) (ys : List X) → Rises ys → Rises (put_by lt x ys)
  put_rises x [] up = (tt, tt)
  put_rises x (y ∷ ys) up = by (lt y x) refl (put_rises x ys up.1)
    where
      by : (b : Bool) → lt y x ≡ b → Rises (put_by lt x ys) → Rises (put_by lt x (y ∷ ys))
      by true e more = subst Rises (sym (put_behind x y ys e)) (put_first y x ys (o.one_way y x e) up.0, more)
      by false e more = subst Rises (sym (put_before x y ys e)) ((e, first_before x y ys e up.0), up)

  exchanged : (b c : Bool) (x y : X) (front back : List X) → front ≡ cond c (x ∷ back) back → (b ≡ true → c ≡ false) → cond b (y ∷ front) front ≡ cond c (x ∷ cond b (y ∷ back) back) (cond b (y ∷ back) back)
  exchanged true true x y front back is never = absurd (let bad : true ≡ false = never refl in cc)
  exchanged true false x y front back is never = ap (λ (l : List X). y ∷ l) is
  exchanged false c x y front back is never = is

  put_keeps : (z x : X) (ys : List X) → filter (ties lt z) (put_by lt x ys) ≡ filter (ties lt z) (x ∷ ys)
  put_keeps z x [] = refl
  put_keeps z x (y ∷ ys) = by (lt y x) refl (put_keeps z x ys)
    where
      by : (b : Bool) → lt y x ≡ b → filter (ties lt z) (put_by lt x ys) ≡ filter (ties lt z) (x ∷ ys) → filter (ties lt z) (put_by lt x (y ∷ ys)) ≡ filter (ties lt z) (x ∷ y ∷ ys)
      by true e more =
          ap (filter (ties lt z)) (put_behind x y ys e)
          ∙ exchanged (ties lt z y) (ties lt z x) x y (filter (ties lt z) (put_by lt x ys)) (filter (ties lt z) ys) more (apart x y z e)
      by false e more = ap (filter (ties lt z)) (put_before x y ys e)

  pub sorted_rises : (xs : List X) → Rises (sorted_by lt xs)
  unfolding sorted_by
  sorted_rises [] = tt
  sorted_rises (x ∷ xs) = put_rises x (sorted_by lt xs) (sorted_rises xs)

  pub sorted_keeps : (z : X) (xs : List X) → filter (ties lt z) (sorted_by lt xs) ≡ filter (ties lt z) xs
  unfolding sorted_by
  sorted_keeps z [] = refl
  sorted_keeps z (x ∷ xs) = put_keeps z x (sorted_by lt xs) ∙ ap (λ (l : List X). cond (ties lt z x) (x ∷ l) l) (sorted_keeps z xs)

  pub stable_is_one : (xs ys : List X) → IsSortedBy lt ys → IsStableBy lt xs ys → ys ≡ sorted_by lt xs
  stable_is_one xs ys up same = one ys (sorted_by lt xs) (rises_by_place ys (sorted_far lt o ys up)) (sorted_rises xs) (λ z. same z ∙ sym (sorted_keeps z xs))
