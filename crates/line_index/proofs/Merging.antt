-- Steps of the loop that makes one list of changes of two.
use Rattle.std.proofs.Common.{◌≡◌, ℕ, suc, ◌+◌, ◌≤◌, ◌<◌, ◌⊎◌, inl, inr, Bool, true, false, List, [], ◌∷◌, ◌++◌, length, Option, Some, None, ◌==◌, nat_lt, nat_le, cond, refl, sym, ap, ◌∙◌, subst, arith, append_assoc, length-append}
use Rattle.std.proofs.lemmas.Bool.{eqb-true}
use Rattle.std.proofs.lemmas.Bool.Decides.{nat_tests}
use Rattle.std.proofs.lemmas.List.{append-nil}
use Rattle.line_index.specs.declared.changes.Change.{Change}
use Rattle.line_index.specs.declared.changes.Join.{Join}
use Rattle.line_index.specs.declared.changes.Join.TheVariants as joins
use Rattle.line_index.specs.Changes.{value_at, IsRising, joined_position, next, least, position_after, ahead_after}

-- no change ahead is before this address
abbrev pub NoneBefore : ℕ → List Change → Type 0
NoneBefore a [] = Unit {0}
NoneBefore a (c ∷ cs) = a ≤ c.address

abbrev pub IsNext : ℕ → List Change → Type 0
IsNext a [] = ⊥
IsNext a (c ∷ cs) = c.address ≡ a

-- what the least of two next addresses is
pub record IsLeast (a : ℕ) (cs ds : List Change) : Type 0 where
  pub first : NoneBefore a cs
  pub second : NoneBefore a ds
  pub one : IsNext a cs ⊎ IsNext a ds

some_same : (x y : ℕ) → Some x ≡ Some y → x ≡ y
some_same x y e = cc

least_of_two : (b : Bool) (x y a : ℕ) → nat_le x y ≡ b → cond b (Some x) (Some y) ≡ Some a → (a ≤ x) × (a ≤ y) × ((x ≡ a) ⊎ (y ≡ a))
least_of_two true x y a t e = let same : x ≡ a = cc in (omega arith, grind (arith, nat_tests), inl same)
least_of_two false x y a t e = let same : y ≡ a = cc in (grind (arith, nat_tests), omega arith, inr same)

pub is_least : (cs ds : List Change) (a : ℕ) → least (next cs) (next ds) ≡ Some a → IsLeast a cs ds
is_least [] [] a e = let no : ⊥ = cc in absurd no
is_least [] (d ∷ ds) a e = let same : d.address ≡ a = some_same _ _ e in record { first = tt; second = omega arith; one = inr same }
is_least (c ∷ cs) [] a e = let same : c.address ≡ a = some_same _ _ e in record { first = omega arith; second = tt; one = inl same }
is_least (c ∷ cs) (d ∷ ds) a e =
    let t = least_of_two (nat_le c.address d.address) c.address d.address a refl e in
    record { first = t.0; second = t.1; one = t.2 }

-- before the next change nothing changes
before_next : (cs : List Change) (a b : ℕ) (x : Option ℕ) → NoneBefore a cs → b < a → value_at b x cs ≡ x
before_next [] a b x h lt = refl
before_next (c ∷ cs) a b x h lt = let t : nat_lt b c.address ≡ true = grind (arith, nat_tests) in rw t refl

passed_one : (t : Bool) (c : Change) (cs : List Change) (a b : ℕ) (x : Option ℕ) → (c.address == a) ≡ t → a ≤ b
    → value_at b x (c ∷ cs) ≡ value_at b (cond t c.position x) (cond t cs (c ∷ cs))
passed_one true c cs a b x e le = let same : c.address ≡ a = eqb-true _ _ e in let f : nat_lt b c.address ≡ false = grind (arith, nat_tests) in rw f refl
passed_one false c cs a b x e le = refl

-- from an address on, its change can be passed
passed_value : (cs : List Change) (a b : ℕ) (x : Option ℕ) → a ≤ b → value_at b x cs ≡ value_at b (position_after a x cs) (ahead_after a cs)
passed_value [] a b x le = refl
passed_value (c ∷ cs) a b x le = passed_one (c.address == a) c cs a b x refl le

rises_one : (t : Bool) (c : Change) (cs : List Change) (a : ℕ) → (c.address == a) ≡ t → a ≤ c.address → IsRising (suc c.address) cs → IsRising (suc a) (cond t cs (c ∷ cs))
rises_one true c cs a e le up = let same : c.address ≡ a = eqb-true _ _ e in subst (λ n. IsRising (suc n) cs) same up
rises_one false c cs a e le up = (grind (arith, nat_tests), up)

passed_rises : (cs : List Change) (low a : ℕ) → NoneBefore a cs → IsRising low cs → IsRising (suc a) (ahead_after a cs)
passed_rises [] low a h up = tt
passed_rises (c ∷ cs) low a h up = rises_one (c.address == a) c cs a refl h up.1

shorter_one : (t : Bool) (c : Change) (cs : List Change) → length (cond t cs (c ∷ cs)) ≤ length (c ∷ cs)
shorter_one true c cs = omega arith
shorter_one false c cs = omega arith

no_longer : (cs : List Change) (a : ℕ) → length (ahead_after a cs) ≤ length cs
no_longer [] a = omega arith
no_longer (c ∷ cs) a = shorter_one (c.address == a) c cs

shorter : (cs : List Change) (a : ℕ) → IsNext a cs → length (ahead_after a cs) < length cs
shorter [] a h = absurd h
shorter (c ∷ cs) a h = let t : (c.address == a) ≡ true = grind (arith, nat_tests) in rw t (omega arith)

low_of : (cs : List Change) (low a : ℕ) → IsRising low cs → IsNext a cs → low ≤ a
low_of [] low a up h = absurd h
low_of (c ∷ cs) low a up h = omega (arith, up.0)

-- the changes so far, with these positions and the changes ahead
pub record Goes (join : Join) (first second out : List Change) (x y : Option ℕ) (cs ds : List Change) : Type 0 where
  pub low : ℕ
  pub first_rises : IsRising low cs
  pub second_rises : IsRising low ds
  -- whatever says the rest completes them
  pub values : (r : List Change) → ((a : ℕ) → value_at a (joined_position join x y) r ≡ joined_position join (value_at a x cs) (value_at a y ds)) → (a : ℕ) → value_at a None (out ++ r) ≡ joined_position join (value_at a None first) (value_at a None second)
  pub rises : (r : List Change) → IsRising low r → IsRising 0 (out ++ r)
  pub few : length out + length cs + length ds ≤ length first + length second

pub goes_first : (join : Join) (first second : List Change) → IsRising 0 first → IsRising 0 second → joined_position join None None ≡ None → Goes join first second [] None None first second
goes_first join first second up down none = record {
  low = 0;
  first_rises = up;
  second_rises = down;
  values = λ r h a. subst (λ z. value_at a z r ≡ joined_position join (value_at a None first) (value_at a None second)) none (h a);
  rises = λ r h. h;
  few = omega arith;
}

fewer : (cs ds : List Change) (a : ℕ) → IsNext a cs ⊎ IsNext a ds → length (ahead_after a cs) + length (ahead_after a ds) < length cs + length ds
fewer cs ds a (inl h) = omega (arith, shorter cs a h, no_longer ds a)
fewer cs ds a (inr h) = omega (arith, shorter ds a h, no_longer cs a)

pub ahead_fewer : (cs ds : List Change) (a : ℕ) → least (next cs) (next ds) ≡ Some a → length (ahead_after a cs) + length (ahead_after a ds) < length cs + length ds
ahead_fewer cs ds a e = fewer cs ds a (is_least cs ds a e).one

value_step : (join : Join) (t : Bool) (cs ds r : List Change) (x y : Option ℕ) (a b : ℕ) → IsLeast a cs ds → nat_lt b a ≡ t
    → value_at b (joined_position join (position_after a x cs) (position_after a y ds)) r ≡ joined_position join (value_at b (position_after a x cs) (ahead_after a cs)) (value_at b (position_after a y ds) (ahead_after a ds))
    → cond t (joined_position join x y) (value_at b (joined_position join (position_after a x cs) (position_after a y ds)) r) ≡ joined_position join (value_at b x cs) (value_at b y ds)
value_step join true cs ds r x y a b h t e =
    let lt : b < a = grind (arith, nat_tests) in
    let one = before_next cs a b x h.first lt in
    let two = before_next ds a b y h.second lt in
    rw (one, two) refl
value_step join false cs ds r x y a b h t e =
    let le : a ≤ b = grind (arith, nat_tests) in
    let one = passed_value cs a b x le in
    let two = passed_value ds a b y le in
    e ∙ ap (λ z. joined_position join z (value_at b (position_after a y ds) (ahead_after a ds))) (sym one) ∙ ap (λ z. joined_position join (value_at b x cs) z) (sym two)

lowest : (cs ds : List Change) (low a : ℕ) → IsRising low cs → IsRising low ds → IsNext a cs ⊎ IsNext a ds → low ≤ a
lowest cs ds low a up down (inl h) = low_of cs low a up h
lowest cs ds low a up down (inr h) = low_of ds low a down h

-- one more change
pub goes_on : (join : Join) (first second out : List Change) (x y : Option ℕ) (cs ds : List Change) (a : ℕ) → least (next cs) (next ds) ≡ Some a → Goes join first second out x y cs ds
    → Goes join first second (out ++ record { address = a; position = joined_position join (position_after a x cs) (position_after a y ds) } ∷ []) (position_after a x cs) (position_after a y ds) (ahead_after a cs) (ahead_after a ds)
goes_on join first second out x y cs ds a e so_far =
    let h = is_least cs ds a e in
    let c : Change = record { address = a; position = joined_position join (position_after a x cs) (position_after a y ds) } in
    record {
      low = suc a;
      first_rises = passed_rises cs so_far.low a h.first so_far.first_rises;
      second_rises = passed_rises ds so_far.low a h.second so_far.second_rises;
      values = λ r rest b. subst (λ zs. value_at b None zs ≡ joined_position join (value_at b None first) (value_at b None second)) (sym (append_assoc out (c ∷ []) r)) (so_far.values (c ∷ r) (λ d. value_step join (nat_lt d a) cs ds r x y a d h refl (rest d)) b);
      rises = λ r rest. subst (λ zs. IsRising 0 zs) (sym (append_assoc out (c ∷ []) r)) (so_far.rises (c ∷ r) (lowest cs ds so_far.low a so_far.first_rises so_far.second_rises h.one, rest));
      few = omega (arith, length-append out (c ∷ []), fewer cs ds a h.one, so_far.few);
    }

not_none : (b : Bool) (x y : ℕ) → cond b (Some x) (Some y) ≡ None → ⊥
not_none true x y e = cc
not_none false x y e = cc

none_left : (cs ds : List Change) → least (next cs) (next ds) ≡ None → (cs ≡ []) × (ds ≡ [])
none_left [] [] e = (refl, refl)
none_left [] (d ∷ ds) e = let no : ⊥ = cc in absurd no
none_left (c ∷ cs) [] e = let no : ⊥ = cc in absurd no
none_left (c ∷ cs) (d ∷ ds) e = absurd (not_none (nat_le c.address d.address) c.address d.address e)

-- if nothing is ahead, all is done
pub record Done (join : Join) (first second out : List Change) : Type 0 where
  pub values : (a : ℕ) → value_at a None out ≡ joined_position join (value_at a None first) (value_at a None second)
  pub rises : IsRising 0 out
  pub few : length out ≤ length first + length second

pub goes_end : (join : Join) (first second out : List Change) (x y : Option ℕ) (cs ds : List Change) → least (next cs) (next ds) ≡ None → Goes join first second out x y cs ds → Done join first second out
goes_end join first second out x y cs ds e so_far =
    let none = none_left cs ds e in
    let one : (a : ℕ) → value_at a x cs ≡ x = λ a. ap (value_at a x) none.0 in
    let two : (a : ℕ) → value_at a y ds ≡ y = λ a. ap (value_at a y) none.1 in
    record {
      values = λ a. subst (λ zs. value_at a None zs ≡ joined_position join (value_at a None first) (value_at a None second)) (append-nil out) (so_far.values [] (λ b. ap (λ z. joined_position join z y) (sym (one b)) ∙ ap (λ z. joined_position join (value_at b x cs) z) (sym (two b))) a);
      rises = subst (λ zs. IsRising 0 zs) (append-nil out) (so_far.rises [] tt);
      few = omega (arith, so_far.few);
    }

pub joined_position_none : (join : Join) → joined_position join None None ≡ None
joined_position_none joins.Over = refl
joined_position_none joins.Within = refl
