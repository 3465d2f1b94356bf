-- Changes whose positions are replaced, and what stands at a change.
use Rattle.std.proofs.Common.{◌≡◌, ℕ, zero, suc, ◌≤◌, ◌<◌, ◌⊎◌, inl, inr, ⊎_elim, Bool, true, false, List, [], ◌∷◌, length, map, Option, Some, None, nat_lt, cond, get_or, Contains, refl, sym, ap, ◌∙◌, subst, arith}
use Rattle.std.specs.List.{filter_map, cons_option}
use Rattle.std.proofs.lemmas.Bool.Decides.{nat_tests}
use Rattle.line_index.specs.declared.changes.Change.{Change}
use Rattle.line_index.specs.Changes.{value_at, IsRising}

abbrev pub piece_at : {X : Type 0} → ℕ → X → List (ℕ × X) → X
piece_at a x [] = x
piece_at a x (p ∷ ps) = cond (nat_lt a p.0) x (piece_at a p.1 ps)

abbrev pub piece : {X : Type 0} → (Option ℕ → X) → Change → ℕ × X
piece f c = (c.address, f c.position)

through_cond : {X Y : Type 0} (f : X → Y) (t : Bool) (x y : X) → f (cond t x y) ≡ cond t (f x) (f y)
through_cond f true x y = refl
through_cond f false x y = refl

pub piece_at-map : {X : Type 0} (f : Option ℕ → X) (a : ℕ) (x : Option ℕ) (cs : List Change) → f (value_at a x cs) ≡ piece_at a (f x) (map (piece f) cs)
piece_at-map f a x [] = refl
piece_at-map f a x (c ∷ cs) = through_cond f (nat_lt a c.address) x (value_at a c.position cs) ∙ ap (λ z. cond (nat_lt a c.address) (f x) z) (piece_at-map f a c.position cs)

abbrev ArePieces : {X : Type 0} → ℕ → List (ℕ × X) → Type 0
ArePieces low [] = Unit {0}
ArePieces low (p ∷ ps) = (low ≤ p.0) × ArePieces (suc p.0) ps

to_pieces : {X : Type 0} (f : Option ℕ → X) (low : ℕ) (cs : List Change) → IsRising low cs → ArePieces low (map (piece f) cs)
to_pieces f low [] up = tt
to_pieces f low (c ∷ cs) up = (up.0, to_pieces f (suc c.address) cs up.1)

from_pieces : {X : Type 0} (f : Option ℕ → X) (low : ℕ) (cs : List Change) → ArePieces low (map (piece f) cs) → IsRising low cs
from_pieces f low [] up = tt
from_pieces f low (c ∷ cs) up = (up.0, from_pieces f (suc c.address) cs up.1)

-- they rise as the others do
pub same_rising : {X : Type 0} (f g : Option ℕ → X) (cs ds : List Change) → map (piece f) cs ≡ map (piece g) ds → IsRising 0 ds → IsRising 0 cs
same_rising f g cs ds e up = from_pieces f 0 cs (subst (ArePieces 0) (sym e) (to_pieces g 0 ds up))

-- and what stands at each address is the same
pub same_values : {X : Type 0} (f g : Option ℕ → X) (cs ds : List Change) → map (piece f) cs ≡ map (piece g) ds → f None ≡ g None → (a : ℕ) → f (value_at a None cs) ≡ g (value_at a None ds)
same_values f g cs ds e none a =
    piece_at-map f a None cs ∙ ap (λ ps. piece_at a (f None) ps) e ∙ ap (λ z. piece_at a z (map (piece g) ds)) none ∙ sym (piece_at-map g a None ds)

-- ---- what stands at a change

before_all : (cs : List Change) (low a : ℕ) (x : Option ℕ) → IsRising low cs → a < low → value_at a x cs ≡ x
before_all [] low a x up lt = refl
before_all (c ∷ cs) low a x up lt = let le : low ≤ c.address = up.0 in let t : nat_lt a c.address ≡ true = grind (arith, nat_tests) in rw t refl

pub head_value : (c : Change) (cs : List Change) (x : Option ℕ) → IsRising (suc c.address) cs → value_at c.address x (c ∷ cs) ≡ c.position
head_value c cs x up = let f : nat_lt c.address c.address ≡ false = grind (arith, nat_tests) in rw f (before_all cs (suc c.address) c.address c.position up (omega arith))

-- a list's element by its recursion
abbrev pub Among : {X : Type 0} → X → List X → Type 0
Among x [] = ⊥
Among x (y ∷ ys) = (y ≡ x) ⊎ Among x ys

pub to_among : {X : Type 0} (x : X) (xs : List X) (k : ℕ) → k < length xs → get_or xs k x ≡ x → Among x xs
to_among x [] k lt e = absurd (omega arith)
to_among x (y ∷ ys) zero lt e = inl e
to_among x (y ∷ ys) (suc k) lt e = inr (to_among x ys k (omega arith) e)

one_later : {X : Type 0} (x y : X) (ys : List X) → Contains ys x → Contains (y ∷ ys) x
one_later x y ys h = (suc h.0, omega (arith, h.1), h.2)

pub from_among : {X : Type 0} (x : X) (xs : List X) → Among x xs → Contains xs x
from_among x [] h = absurd h
from_among x (y ∷ ys) (inl e) = (0, omega arith, e)
from_among x (y ∷ ys) (inr h) = one_later x y ys (from_among x ys h)

pub among_map : {X Y : Type 0} (f : X → Y) (x : X) (xs : List X) → Among x xs → Among (f x) (map f xs)
among_map f x [] h = absurd h
among_map f x (y ∷ ys) (inl e) = inl (ap f e)
among_map f x (y ∷ ys) (inr h) = inr (among_map f x ys h)

pub among_mapped : {X Y : Type 0} (f : X → Y) (y : Y) (xs : List X) → Among y (map f xs) → (x : X) × Among x xs × (f x ≡ y)
among_mapped f y [] h = absurd h
among_mapped f y (x ∷ xs) (inl e) = (x, inl refl, e)
among_mapped f y (x ∷ xs) (inr h) = let more = among_mapped f y xs h in (more.0, inr more.1, more.2)

abbrev pub of_change : {X : Type 0} → (Option ℕ → Option X) → Change → Option X
of_change f c = f c.position

-- what is found where
abbrev pub FoundAt : {X : Type 0} → (Option ℕ → Option X) → X → ℕ → Option ℕ → List Change → Type 0
FoundAt f key low x cs = (a : ℕ) × (low ≤ a) × (f (value_at a x cs) ≡ Some key)

found_later : {X : Type 0} (f : Option ℕ → Option X) (key : X) (low : ℕ) (x : Option ℕ) (c : Change) (cs : List Change) → low ≤ c.address → FoundAt f key (suc c.address) c.position cs → FoundAt f key low x (c ∷ cs)
found_later f key low x c cs le h =
    let above : suc c.address ≤ h.0 = h.1 in
    let t : nat_lt h.0 c.address ≡ false = grind (arith, nat_tests) in
    (h.0, omega (arith, above), rw t h.2)

found_step : {X : Type 0} (f : Option ℕ → Option X) (key : X) (low : ℕ) (x : Option ℕ) (c : Change) (cs : List Change) (v : Option X) → f c.position ≡ v → low ≤ c.address → IsRising (suc c.address) cs
    → (Among key (filter_map (of_change f) cs) → FoundAt f key (suc c.address) c.position cs) → Among key (cons_option v (filter_map (of_change f) cs)) → FoundAt f key low x (c ∷ cs)
found_step f key low x c cs None e le up more h = found_later f key low x c cs le (more h)
found_step f key low x c cs (Some y) e le up more (inl same) = (c.address, le, ap f (head_value c cs x up) ∙ e ∙ ap (λ z. Some z) same)
found_step f key low x c cs (Some y) e le up more (inr h) = found_later f key low x c cs le (more h)

-- what a change says is found at its address
pub found_where : {X : Type 0} (f : Option ℕ → Option X) (key : X) (low : ℕ) (x : Option ℕ) (cs : List Change) → IsRising low cs → Among key (filter_map (of_change f) cs) → FoundAt f key low x cs
found_where f key low x [] up h = absurd h
found_where f key low x (c ∷ cs) up h = found_step f key low x c cs (f c.position) refl up.0 up.1 (found_where f key (suc c.address) c.position cs up.1) h

pub in_rest : {X : Type 0} (key : X) (v : Option X) (ys : List X) → Among key ys → Among key (cons_option v ys)
in_rest key None ys h = h
in_rest key (Some y) ys h = inr h

pub in_front : {X : Type 0} (key : X) (v : Option X) (ys : List X) → v ≡ Some key → Among key (cons_option v ys)
in_front key None ys e = let no : ⊥ = cc in absurd no
in_front key (Some y) ys e = let same : y ≡ key = cc in inl same

said_step : {X : Type 0} (f : Option ℕ → Option X) (key : X) (x : Option ℕ) (c : Change) (ys : List X) (t : Bool) (v : Option ℕ) → f (cond t x v) ≡ Some key
    → (f v ≡ Some key → (f c.position ≡ Some key) ⊎ Among key ys) → (f x ≡ Some key) ⊎ Among key (cons_option (f c.position) ys)
said_step f key x c ys true v e more = inl e
said_step f key x c ys false v e more = ⊎_elim (λ front. inr (in_front key (f c.position) ys front)) (λ rest. inr (in_rest key (f c.position) ys rest)) (more e)

-- and what is found somewhere a change says, or it stood there before
pub said_by : {X : Type 0} (f : Option ℕ → Option X) (key : X) (a : ℕ) (x : Option ℕ) (cs : List Change) → f (value_at a x cs) ≡ Some key → (f x ≡ Some key) ⊎ Among key (filter_map (of_change f) cs)
said_by f key a x [] e = inl e
said_by f key a x (c ∷ cs) e = said_step f key x c (filter_map (of_change f) cs) (nat_lt a c.address) (value_at a c.position cs) e (said_by f key a c.position cs)
