-- A stable sort by address keeps the first mark of each address.
use Rattle.std.proofs.Common.{◌≡◌, ℕ, Bor, Bool, true, false, ◌&&◌, not, ◌==◌, cond, List, [], ◌∷◌, Option, Some, slice_get, filter, ltb, refl, sym, ap, ap₂, ◌∙◌, arith}
use Rattle.std.specs.Fn.{Mut, Called, ComputesKey}
use Rattle.std.specs.List.{find}
use Rattle.std.proofs.lemmas.Fn.{always_returns_same}
use Rattle.std.specs.Ordering.{nat_cmp, is_lt}
use Rattle.std.proofs.lemmas.Bool.Decides.{nat_tests}
use Rattle.std.specs.declared.cmp.Ordering.TheVariants.{Less, Equal, Greater}
use Rattle.std.specs.List.Sorted.{ties, IsStableByKey}
use Rattle.progress_points.specs.Points.{Mark, is_at}

front_of : {X : Type 0} (b : Bool) (x : X) (kept : List X) (rest : Option X) → rest ≡ slice_get kept 0 → cond b (Some x) rest ≡ slice_get (cond b (x ∷ kept) kept) 0
front_of true x kept rest e = refl
front_of false x kept rest e = e

-- the first that passes stands at the head of those that do
pub find_filtered : {X : Type 0} (test : X → Bool) (xs : List X) → find test xs ≡ slice_get (filter test xs) 0
find_filtered test [] = refl
find_filtered test (x ∷ xs) = front_of (test x) x (filter test xs) (find test xs) (find_filtered test xs)

abbrev pub by_address : Mark → Mark → Bool
by_address m n = is_lt (nat_cmp m.address n.address)

less_by : (less same : Bool) → is_lt (cond less Less (cond same Equal Greater)) ≡ less
less_by true same = refl
less_by false true = refl
less_by false false = refl

less : (x y : ℕ) → is_lt (nat_cmp x y) ≡ ltb x y
less x y = less_by (ltb x y) (x == y)

neither : (a x : ℕ) → (not (ltb a x) && not (ltb x a)) ≡ (x == a)
neither a x = grind (arith, nat_tests)

tied : (a : ℕ) (mark : Mark) → ties by_address (record { address = a; point = 0 }) mark ≡ is_at a mark
tied a mark = ap₂ (λ s t. not s && not t) (less a mark.address) (less mark.address a) ∙ neither a mark.address

pub first_kept : {F : Type 0} {g : Mut F (Bor Mark × Unit {0}) ℕ} {f : F} (marks sorted : List Mark) → ((key : Mark → ℕ) → ComputesKey g key f → IsStableByKey key nat_cmp marks sorted)
    → ((b : Bor Mark × Unit {0}) (r : ℕ) (f' : F) → Called g f b r f' → (r ≡ b.0.now.address) × (f' ≡ f)) → (a : ℕ) → find (is_at a) sorted ≡ find (is_at a) marks
first_kept {g = g} {f = f} marks sorted kept keys a =
    let stable = kept (λ (m : Mark). m.address) (always_returns_same g (λ b r. r ≡ b.0.now.address) f keys) in
    let same : ties by_address (record { address = a; point = 0 }) ≡ is_at a = λ i m. tied a m i in
    find_filtered (is_at a) sorted ∙ ap (λ (ms : List Mark). slice_get ms 0)
    (ap (λ test. filter test sorted) (sym same) ∙ stable (record { address = a; point = 0 }) ∙ ap (λ test. filter test marks) same)
    ∙ sym (find_filtered (is_at a) marks)
