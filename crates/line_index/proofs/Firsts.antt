-- The first line among those of some paths.
use Rattle.std.proofs.Common.{◌≡◌, ℕ, ◌<◌, ◌≤◌, ◌⊎◌, inl, inr, ⊎_elim, Bool, true, false, List, [], length, map, get_or, Option, Some, None, cond, nat_le, ◌==◌, refl, sym, ap, ◌∙◌, subst, arith}
use Rattle.std.specs.List.{position}
use Rattle.std.proofs.lemmas.Bool.{and_from, and_parts, cases_lt, eqb-true, eq-eqb, false_from_ne_true}
use Rattle.std.proofs.lemmas.Bool.Decides.{nat_tests}
use Rattle.std.proofs.lemmas.List.Elements.{All-get_or}
use Rattle.std.proofs.lemmas.List.Quantifiers.{position-Some}
use Rattle.line_index.specs.declared.lines.Key.{Key}
use Rattle.line_index.specs.Changes.{least}
use Rattle.line_index.specs.Lines.{ends_with, is_line_below}
use Rattle.line_index.specs.Keys.{is_key, with_path}
use Rattle.line_index.specs.Index.{line_at}
use Rattle.line_index.proofs.Names.{is_key_true, none_passes, position-map, position_is, position_none}

abbrev pub no_key : Key
no_key = with_path 0 0

abbrev pub IsOf : List Key → ℕ → (ℕ → Type 0) → ℕ → Type 0
IsOf keys number P k = (k < length keys) × ((get_or keys k no_key).number ≡ number) × P (get_or keys k no_key).path

-- the first of the number whose path is one of these, if there is one
pub record IsFirst (keys : List Key) (number : ℕ) (P : ℕ → Type 0) (line : Option ℕ) : Type 0 where
  pub there : (k : ℕ) → line ≡ Some k → IsOf keys number P k
  pub first : (j : ℕ) → IsOf keys number P j → (k : ℕ) × (line ≡ Some k) × (k ≤ j)

key_there : (keys : List Key) (number q j : ℕ) → (get_or keys j no_key).number ≡ number → q ≡ (get_or keys j no_key).path → is_key (with_path number q) (get_or keys j no_key) ≡ true
key_there keys number q j e f =
    let key : Key = get_or keys j no_key in
    and_from (key.number == number) (key.path == q) (eq-eqb key.number number e) (eq-eqb key.path q (sym f))

-- of one path it is where its key stands
pub first_of_path : (keys : List Key) (number q : ℕ) (line : Option ℕ) → line ≡ position (is_key (with_path number q)) keys → IsFirst keys number (λ p. q ≡ p) line
first_of_path keys number q None is = record {
  there = λ k e. let no : ⊥ = cc in absurd no;
  first = λ j one.
      let missing = All-get_or (λ other. is_key (with_path number q) other ≡ false) keys j no_key one.0 (none_passes (is_key (with_path number q)) keys (sym is)) in
      let no : true ≡ false = sym (key_there keys number q j one.1 one.2) ∙ missing in
      let none : ⊥ = cc in
      absurd none;
}
first_of_path keys number q (Some m) is =
    let at = position-Some (is_key (with_path number q)) keys m no_key (sym is) in
    let same : get_or keys m no_key ≡ with_path number q = is_key_true (with_path number q) (get_or keys m no_key) at.1 in
    record {
      there = λ k e.
          let here : m ≡ k = cc in
          subst (λ n. IsOf keys number (λ p. q ≡ p) n) here (at.0, ap (λ (key : Key). key.number) same, sym (ap (λ (key : Key). key.path) same));
      first = λ j one. (
        m,
        refl,
        ⊎_elim
            (λ less.
            let no : true ≡ false = sym (key_there keys number q j one.1 one.2) ∙ at.2 j less in
            let none : ⊥ = cc in
            absurd none)
            (λ le. le) (cases_lt j m),
      );
    }

lesser_by : (x y : ℕ) (t : Bool) → nat_le x y ≡ t → (k : ℕ) → cond t (Some x) (Some y) ≡ Some k → ((x ≡ k) × (x ≤ y)) ⊎ ((y ≡ k) × (y ≤ x))
lesser_by x y true is k e = let same : x ≡ k = cc in inl (same, grind (arith, nat_tests))
lesser_by x y false is k e = let same : y ≡ k = cc in inr (same, grind (arith, nat_tests))

lesser_is : (x y : ℕ) (t : Bool) → nat_le x y ≡ t → (k : ℕ) × (cond t (Some x) (Some y) ≡ Some k) × (k ≤ x) × (k ≤ y)
lesser_is x y true is = (x, refl, omega arith, grind (arith, nat_tests))
lesser_is x y false is = (y, refl, grind (arith, nat_tests), omega arith)

weaker : (keys : List Key) (number : ℕ) (P R : ℕ → Type 0) (k : ℕ) → ((p : ℕ) → P p → R p) → IsOf keys number P k → IsOf keys number R k
weaker keys number P R k from one = (one.0, one.1, from (get_or keys k no_key).path one.2)

-- of some paths and others it is the lesser of both
pub first_of_both : (keys : List Key) (number : ℕ) (P Q R : ℕ → Type 0) (line other : Option ℕ) → IsFirst keys number P line → IsFirst keys number Q other
    → ((p : ℕ) → P p → R p) → ((p : ℕ) → Q p → R p) → ((p : ℕ) → R p → P p ⊎ Q p) → IsFirst keys number R (least line other)
first_of_both keys number P Q R None other one two left right split = record {
  there = λ k e. weaker keys number Q R k right (two.there k e);
  first = λ j h. ⊎_elim
      (λ p. let found = one.first j (h.0, h.1, p) in let is = found.1 in let no : ⊥ = cc in absurd no)
      (λ q. two.first j (h.0, h.1, q))
      (split (get_or keys j no_key).path h.2);
}
first_of_both keys number P Q R (Some x) None one two left right split = record {
  there = λ k e. weaker keys number P R k left (one.there k e);
  first = λ j h. ⊎_elim
      (λ p. one.first j (h.0, h.1, p))
      (λ q. let found = two.first j (h.0, h.1, q) in let is = found.1 in let no : ⊥ = cc in absurd no)
      (split (get_or keys j no_key).path h.2);
}
first_of_both keys number P Q R (Some x) (Some y) one two left right split = record {
  there = λ k e. ⊎_elim
      (λ h. weaker keys number P R k left (one.there k (ap (λ n. Some n) h.0)))
      (λ h. weaker keys number Q R k right (two.there k (ap (λ n. Some n) h.0)))
      (lesser_by x y (nat_le x y) refl k e);
  first = λ j h.
      let lesser = lesser_is x y (nat_le x y) refl in (
        lesser.0,
        lesser.1,
        ⊎_elim
            (λ p. let found = one.first j (h.0, h.1, p) in let is = found.1 in let same : x ≡ found.0 = cc in omega (arith, same, found.2, lesser.2))
            (λ q. let found = two.first j (h.0, h.1, q) in let is = found.1 in let same : y ≡ found.0 = cc in omega (arith, same, found.2, lesser.3))
            (split (get_or keys j no_key).path h.2),
      );
}

-- of the paths that end so it is the line that is looked for
pub first_is : (paths : List (List ℕ)) (keys : List Key) (text : List ℕ) (number : ℕ) (P : ℕ → Type 0) (line : Option ℕ) → IsFirst keys number P line
    → ((p : ℕ) → P p → ends_with (get_or paths p []) text ≡ true)
    → ((k : ℕ) → k < length keys → ends_with (get_or paths (get_or keys k no_key).path []) text ≡ true → P (get_or keys k no_key).path)
    → line ≡ position (is_line_below text number) (map (line_at paths) keys)
first_is paths keys text number P None is sound complete =
    sym (position-map (is_line_below text number) (line_at paths) keys
    ∙ position_none (λ key. is_line_below text number (line_at paths key)) keys no_key
    (λ k lt. false_from_ne_true (is_line_below text number (line_at paths (get_or keys k no_key))) (λ passes.
    let key : Key = get_or keys k no_key in
    let parts = and_parts (key.number == number) (ends_with (get_or paths key.path []) text) passes in
    let found = is.first k (lt, eqb-true key.number number parts.0, complete k lt parts.1) in
    let one = found.1 in
    let no : ⊥ = cc in
    no)))
first_is paths keys text number P (Some m) is sound complete =
    let at = is.there m refl in
    let here : Key = get_or keys m no_key in
    sym (position-map (is_line_below text number) (line_at paths) keys
    ∙ position_is (λ key. is_line_below text number (line_at paths key)) keys m no_key at.0
    (and_from (here.number == number) (ends_with (get_or paths here.path []) text) (eq-eqb here.number number at.1) (sound here.path at.2))
    (λ k lt. false_from_ne_true (is_line_below text number (line_at paths (get_or keys k no_key))) (λ passes.
    let key : Key = get_or keys k no_key in
    let parts = and_parts (key.number == number) (ends_with (get_or paths key.path []) text) passes in
    let found = is.first k (omega (arith, at.0), eqb-true key.number number parts.0, complete k (omega (arith, at.0)) parts.1) in
    let one = found.1 in
    let same : m ≡ found.0 = cc in
    let no : ⊥ = omega (arith, same, found.2, lt) in
    no)))
