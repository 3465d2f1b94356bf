-- The curves of a point, one line after the other, and of one point after the other.
use Rattle.std.proofs.Common.{◌≡◌, ℕ, zero, suc, ◌+◌, ◌<◌, ◌≤◌, true, ◌==◌, List, [], ◌∷◌, ◌++◌, length, take, drop, refl, sym, ap, ◌∙◌, append_assoc, arith, rules, get_or, Option, ℤ, Bor}
use Rattle.std.specs.Fn.{Mut, Called, ComputesKey}
use Rattle.std.proofs.lemmas.Fn.{always_returns_same}
use Rattle.std.specs.List.{flat_map, enumerate_from}
use Rattle.std.proofs.lemmas.List.{append-nil, take_more, take_all, flat_map_more, length-take-le}
use Rattle.std.proofs.lemmas.List.FromFn.{length-enumerate_from, get_or-enumerate_from}
use Rattle.coz_types.specs.Labels.{Text}
use Rattle.coz_types.specs.declared.record.Summary.{Summary}
use Rattle.std.specs.List.Sorted.{IsPermutation, IsSortedByKey, IsStableByKey}
use Rattle.std.specs.Ordering.{nat_cmp, int_cmp, ordering_then}
use Rattle.std.specs.Option.{option_cmp}
use Rattle.std.specs.declared.cmp.Ordering.{Ordering}
use Rattle.std.specs.declared.cmp.Reverse.{Reverse}
use Rattle.profile_labels.specs.Groups.{groups_by, groups}
use Rattle.average_curves.specs.Curves.{curve_of, curves_from, IsRanking}
use Rattle.average_curves.specs.declared.averaged.Averaged.{Averaged}
use Rattle.average_curves.specs.declared.curve.AverageCurve.{AverageCurve}

pub one_more : (a : Averaged) (into new total : List AverageCurve) (point start next n : ℕ) (rest front back : List Summary) (c : AverageCurve) → n ≤ length rest → groups rest ≡ take n rest ∷ groups (drop n rest) → front ≡ take n rest → back ≡ drop n rest → next ≡ start + n
    → c ≡ curve_of a point start front → new ≡ into ++ c ∷ [] → into ++ curves_from a point start (groups rest) ≡ total → new ++ curves_from a point next (groups back) ≡ total
one_more a into new total point start next n rest front back c le group f b place is pushed so_far =
    let others : List AverageCurve = curves_from a point next (groups back) in
    let long : length (take n rest) ≡ n = length-take-le n rest le in
    let there : next ≡ start + length (take n rest) = omega (arith, place, long) in
    let all : c ∷ others ≡ curves_from a point start (groups rest) =
    ap (λ (x : AverageCurve). x ∷ others) (is ∙ ap (curve_of a point start) f)
    ∙ ap (λ (xs : List Summary). curve_of a point start (take n rest) ∷ curves_from a point next (groups xs)) b
    ∙ ap (λ (k : ℕ). curve_of a point start (take n rest) ∷ curves_from a point k (groups (drop n rest))) there
    ∙ sym (ap (curves_from a point start) group)
    in
    ap (λ (cs : List AverageCurve). cs ++ others) pushed ∙ append_assoc into (c ∷ []) others ∙ ap (λ (cs : List AverageCurve). into ++ cs) all ∙ so_far

pub no_more : (a : Averaged) (into total : List AverageCurve) (point start : ℕ) (rest : List Summary) → (length rest == 0) ≡ true → into ++ curves_from a point start (groups rest) ≡ total → into ≡ total
unfolding groups_by
no_more a into total point start [] empty so_far = sym (append-nil into) ∙ so_far
no_more a into total point start (s ∷ rest) empty so_far = let e : length (s ∷ rest) ≡ 0 = search (rules, empty) in absurd (omega (arith, e))

-- ---- one point after the other

get_again : (ts : List Text) (k : ℕ) → get_or ts k (get_or ts k []) ≡ get_or ts k []
get_again [] k = refl
get_again (t ∷ ts) zero = refl
get_again (t ∷ ts) (suc k) = get_again ts k

module _ {X : Type 0} (f : ℕ × Text → List X) (points : List Text) where
  pub points_more : (i : ℕ) (old new more : List X) → ((t : Text) → more ≡ f (i, t)) → i < length points → new ≡ old ++ more → old ≡ flat_map f (take i (enumerate_from 0 points)) → new ≡ flat_map f (take (i + 1) (enumerate_from 0 points))
  points_more i old new more is lt pushed so_far =
      let places = enumerate_from 0 points in
      let here : ℕ × Text = (i, get_or points i []) in
      let same : 0 + i ≡ i = omega arith in
      let at : get_or places i here ≡ here = get_or-enumerate_from 0 points i here lt ∙ ap (λ (n : ℕ). (n, get_or points i here.1)) same ∙ ap (λ (t : Text). (i, t)) (get_again points i) in
      pushed ∙ ap (λ (xs : List X). xs ++ more) so_far ∙ ap (λ (xs : List X). flat_map f (take i places) ++ xs) (is here.1)
      ∙ flat_map_more f [] (take i places) here
      ∙ ap (flat_map f) (sym (take_more places i here (omega (arith, length-enumerate_from 0 points)) ∙ ap (λ (y : ℕ × Text). take i places ++ y ∷ []) at))

  pub points_whole : (i : ℕ) (xs : List X) → length points ≤ i → xs ≡ flat_map f (take i (enumerate_from 0 points)) → xs ≡ flat_map f (enumerate_from 0 points)
  points_whole i xs le so_far = so_far ∙ ap (flat_map f) (take_all i (enumerate_from 0 points) (omega (arith, length-enumerate_from 0 points)))

-- ---- ranks

-- what the curves are sorted by
abbrev pub Key : Type 0
Key = ℕ × Reverse (Option ℤ)

abbrev pub key_of : AverageCurve → Key
key_of curve = (curve.point, record { 0 = curve.area })

abbrev pub key_cmp : Key → Key → Ordering
key_cmp x y = ordering_then (nat_cmp x.0 y.0) (option_cmp int_cmp y.1.0 x.1.0)

pub ranking : {F : Type 0} {g : Mut F (Bor AverageCurve × Unit {0}) Key} {f : F} (curves ranked : List AverageCurve) → IsPermutation curves ranked
    → ((key : AverageCurve → Key) → ComputesKey g key f → IsSortedByKey key key_cmp ranked)
    → ((key : AverageCurve → Key) → ComputesKey g key f → IsStableByKey key key_cmp curves ranked)
    → ((b : Bor AverageCurve × Unit {0}) (r : Key) (f' : F) → Called g f b r f' → (r ≡ key_of b.0.now) × (f' ≡ f)) → IsRanking curves ranked
ranking {g = g} {f = f} curves ranked all sorted stable keys =
    let computes : ComputesKey g key_of f = always_returns_same g (λ b r. r ≡ key_of b.0.now) f keys in
    record { all = all; sorted = sorted key_of computes; stable = stable key_of computes }
