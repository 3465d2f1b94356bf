-- The first item of a text, by its length.
use Rattle.std.proofs.Common.{◌≡◌, ◌⊎◌, inl, inr, ℕ, zero, suc, ◌<◌, ◌≤◌, Bool, true, false, ◌==◌, ◌||◌, List, [], ◌∷◌, ◌++◌, length, get_or, take, drop, refl, sym, ap, ◌∙◌, arith}
use Rattle.coz_types.specs.Labels.{Text}
use Rattle.profile_reader.specs.Items.{items_of, join, begins_item, is_cut}

-- no byte from the second one up to this length is a cut
abbrev pub IsWhole : ℕ → Text → Type 0
IsWhole n text = (i : ℕ) → 0 < i → i < n → is_cut (get_or text i 0) ≡ false

or_true : (b : Bool) → (b || true) ≡ true
or_true true = refl
or_true false = refl

pub first_byte : (b : ℕ) (rest : Text) → (item : Text) × (items : List Text) × (items_of (b ∷ rest) ≡ (b ∷ item) ∷ items)
unfolding items_of
first_byte b rest = by (items_of rest) refl
  where
    by : (items : List Text) → items_of rest ≡ items → (item : Text) × (more : List Text) × (items_of (b ∷ rest) ≡ (b ∷ item) ∷ more)
    by [] e = ([], [], ap (join b) e)
    by (item ∷ items) e = cut (b == 10 || begins_item item) refl
      where
        cut : (c : Bool) → (b == 10 || begins_item item) ≡ c → (first : Text) × (more : List Text) × (items_of (b ∷ rest) ≡ (b ∷ first) ∷ more)
        cut true d = ([], item ∷ items, ap (join b) e ∙ rw (join, d) refl)
        cut false d = (item, items, ap (join b) e ∙ rw (join, d) refl)

-- a newline is an item
pub newline_is : (rest : Text) → items_of (10 ∷ rest) ≡ (10 ∷ []) ∷ items_of rest
unfolding items_of
newline_is rest = by (items_of rest)
  where
    by : (items : List Text) → join 10 items ≡ (10 ∷ []) ∷ items
    by [] = refl
    by (item ∷ items) = refl

-- a byte before a cut is an item's last
before_cut : (b c : ℕ) (rest : Text) → is_cut c ≡ true → items_of (b ∷ c ∷ rest) ≡ (b ∷ []) ∷ items_of (c ∷ rest)
unfolding items_of
before_cut b c rest cut =
    let f = first_byte c rest in
    ap (join b) f.2 ∙ by f.0 f.1 ∙ ap (λ (is : List Text). (b ∷ []) ∷ is) (sym f.2)
  where
    by : (item : Text) (items : List Text) → join b ((c ∷ item) ∷ items) ≡ (b ∷ []) ∷ (c ∷ item) ∷ items
    by item items = rw (join, ap (λ (x : Bool). (b == 10) || x) cut ∙ or_true (b == 10)) refl

-- a byte that is no newline joins an item that begins with no cut
pub joins : (b c : ℕ) (item : Text) (items : List Text) → (b == 10) ≡ false → is_cut c ≡ false → join b ((c ∷ item) ∷ items) ≡ (b ∷ c ∷ item) ∷ items
joins b c item items one none = rw (join, one, none) refl

not_newline : (c : ℕ) → is_cut c ≡ false → (c == 10) ≡ false
not_newline c none = by (c == 9) (c == 10) none
  where
    by : (x y : Bool) → (x || y) ≡ false → y ≡ false
    by true y e = absurd cc
    by false y e = e

pub first_item : (n : ℕ) (text : Text) → 0 < n → n ≤ length text → (get_or text 0 0 == 10) ≡ false → IsWhole n text → (n < length text → is_cut (get_or text n 0) ≡ true)
    → items_of text ≡ take n text ∷ items_of (drop n text)
unfolding items_of
first_item zero text some within one whole ends = absurd (omega arith)
first_item (suc n) [] some within one whole ends = absurd (omega arith)
first_item (suc zero) (b ∷ []) some within one whole ends = refl
first_item (suc zero) (b ∷ c ∷ rest) some within one whole ends = before_cut b c rest (ends (omega arith))
first_item (suc (suc n)) (b ∷ []) some within one whole ends = absurd (omega arith)
first_item (suc (suc n)) (b ∷ c ∷ rest) some within one whole ends =
    let none : is_cut c ≡ false = whole 1 (omega arith) (omega arith) in
    let more = first_item (suc n) (c ∷ rest) (omega arith) (omega arith) (not_newline c none) (λ i lo hi. whole (suc i) (omega arith) (omega arith)) (λ lt. ends (omega arith)) in
    ap (join b) more ∙ joins b c (take n rest) (items_of (drop n rest)) one none

pub newline_item : (text : Text) → 0 < length text → get_or text 0 0 ≡ 10 → items_of text ≡ take 1 text ∷ items_of (drop 1 text)
newline_item [] some is = absurd (omega arith)
newline_item (b ∷ rest) some is = ap (λ (x : ℕ). items_of (x ∷ rest)) is ∙ newline_is rest ∙ ap (λ (x : ℕ). (x ∷ []) ∷ items_of rest) (sym is)

-- ---- a text that is cut between two parts

-- a cut stands between the two: the second part begins with one, or is empty, or the first ends with a newline
abbrev pub IsApart : Text → Text → Type 0
IsApart [] b = Unit {0}
IsApart (x ∷ []) b = ((x == 10) ≡ true) ⊎ (begins_item b ≡ true)
IsApart (x ∷ y ∷ a) b = IsApart (y ∷ a) b

pub one_apart : (x : ℕ) (b : Text) → ((x == 10) ≡ true) ⊎ (begins_item b ≡ true) → join x (items_of b) ≡ (x ∷ []) ∷ items_of b
unfolding items_of
one_apart x [] apart = refl
one_apart x (y ∷ b) apart =
    let f = first_byte y b in
    ap (join x) f.2 ∙ by f.0 f.1 apart ∙ ap (λ (is : List Text). (x ∷ []) ∷ is) (sym f.2)
  where
    by : (item : Text) (items : List Text) → ((x == 10) ≡ true) ⊎ (is_cut y ≡ true) → join x ((y ∷ item) ∷ items) ≡ (x ∷ []) ∷ (y ∷ item) ∷ items
    by item items (inl e) = rw (join, e) refl
    by item items (inr e) = rw (join, ap (λ (c : Bool). (x == 10) || c) e ∙ or_true (x == 10)) refl

join_more : (x : ℕ) (item : Text) (items more : List Text) → join x (item ∷ (items ++ more)) ≡ join x (item ∷ items) ++ more
join_more x item items more = by (x == 10 || begins_item item) refl
  where
    by : (c : Bool) → (x == 10 || begins_item item) ≡ c → join x (item ∷ (items ++ more)) ≡ join x (item ∷ items) ++ more
    by true e = rw (join, e) refl
    by false e = rw (join, e) refl

-- the items of a text that is cut there are those of its parts
pub items_apart : (a b : Text) → IsApart a b → items_of (a ++ b) ≡ items_of a ++ items_of b
unfolding items_of
items_apart [] b apart = refl
items_apart (x ∷ []) b apart = one_apart x b apart
items_apart (x ∷ y ∷ a) b apart =
    let f = first_byte y a in
    ap (join x) (items_apart (y ∷ a) b apart)
    ∙ ap (λ (is : List Text). join x (is ++ items_of b)) f.2
    ∙ join_more x (y ∷ f.0) f.1 (items_of b)
    ∙ ap (λ (is : List Text). join x is ++ items_of b) (sym f.2)
