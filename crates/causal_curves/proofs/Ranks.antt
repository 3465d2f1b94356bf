-- The curves of a point, one line after the other, and of one point after the other.
use Rattle.std.proofs.Common.{◌≡◌, ℕ, zero, suc, ◌+◌, ◌<◌, ◌≤◌, Bool, true, false, ◌==◌, List, [], ◌∷◌, ◌++◌, length, take, drop, map, slice_index_or, refl, sym, ap, ◌∙◌, append_assoc, arith, rules, get_or, find, IfSome, Option, ℤ, Bor}
use Rattle.std.specs.Fn.{Mut, Called, ComputesKey}
use Rattle.std.proofs.lemmas.Fn.{always_returns_same}
use Rattle.std.specs.List.{AllByRecursion, flat_map, enumerate_from}
use Rattle.std.proofs.lemmas.List.{append-nil, take_more, take_all, flat_map_more}
use Rattle.std.proofs.lemmas.List.FromFn.{length-enumerate_from, get_or-enumerate_from}
use Rattle.coz_types.specs.Labels.{Text}
use Rattle.coz_types.specs.Ranges.{IsSummary}
use Rattle.coz_types.specs.declared.record.Summary.{Summary}
use Rattle.std.specs.List.Sorted.{IsPermutation, IsSortedByKey, IsStableByKey}
use Rattle.std.specs.Ordering.{nat_cmp, int_cmp, ordering_then}
use Rattle.std.specs.Option.{option_cmp}
use Rattle.std.specs.declared.cmp.Ordering.{Ordering}
use Rattle.std.specs.declared.cmp.Reverse.{Reverse}
use Rattle.profile_labels.specs.Groups.{groups_by, groups}
use Rattle.causal_curves.specs.Curves.{curve_of, curves_at, IsRanking}
use Rattle.causal_curves.specs.Measured.{IsMeasured}
use Rattle.causal_curves.specs.declared.curve.Curve.{Curve}

pub one_more : (into new total : List Curve) (point n : ℕ) (rest front back : List Summary) (c : Curve) → groups rest ≡ take n rest ∷ groups (drop n rest) → front ≡ take n rest → back ≡ drop n rest → c ≡ curve_of point front → new ≡ into ++ c ∷ [] → into ++ curves_at rest point ≡ total → new ++ curves_at back point ≡ total
one_more into new total point n rest front back c group f b is pushed so_far =
    let others : List Curve = curves_at back point in
    let all : c ∷ others ≡ curves_at rest point =
    ap (λ (x : Curve). x ∷ others) (is ∙ ap (curve_of point) f)
    ∙ ap (λ (xs : List Summary). curve_of point (take n rest) ∷ curves_at xs point) b
    ∙ sym (ap (map (curve_of point)) group)
    in
    ap (λ (cs : List Curve). cs ++ others) pushed ∙ append_assoc into (c ∷ []) others ∙ ap (λ (cs : List Curve). into ++ cs) all ∙ so_far

pub no_more : (into total : List Curve) (point : ℕ) (rest : List Summary) → (length rest == 0) ≡ true → into ++ curves_at rest point ≡ total → into ≡ total
unfolding groups_by
no_more into total point [] empty so_far = sym (append-nil into) ∙ so_far
no_more into total point (s ∷ rest) empty so_far = let e : length (s ∷ rest) ≡ 0 = search (rules, empty) in absurd (omega (arith, e))

pub measured : (points point : ℕ) (s : Summary) → point < points → IsSummary points s → IsMeasured point s
measured points point s lt is = let e : length s.counts ≡ points = is.counts in record { time = is.time; delay = is.delay; counts = omega (arith, lt, e); deltas = is.deltas }

pub all_measured : (points point : ℕ) → point < points → (xs : List Summary) → AllByRecursion (IsSummary points) xs → (k : ℕ) (d : Summary) → k < length xs → IsMeasured point (slice_index_or xs k d)
all_measured points point lt [] all k d few = absurd (omega (arith, few))
all_measured points point lt (x ∷ xs) all zero d few = measured points point x lt all.0
all_measured points point lt (x ∷ xs) all (suc k) d few = all_measured points point lt xs all.1 k d (omega (arith, few))

-- what holds of all holds of one that is found
pub found : (P : Summary → Type 0) (f : Summary → Bool) (xs : List Summary) → ((k : ℕ) (d : Summary) → k < length xs → P (slice_index_or xs k d)) → IfSome (find f xs) P
found P f [] all = tt
found P f (x ∷ xs) all = by (f x) refl (found P f xs (λ k d lt. all (suc k) d (omega arith)))
  where
    by : (c : Bool) → f x ≡ c → IfSome (find f xs) P → IfSome (find f (x ∷ xs)) P
    by true e rest = rw e (all 0 x (omega arith))
    by false e rest = rw e rest

-- ---- one point after the other

abbrev pub curves_to : List Summary → ℕ × Text → List Curve
curves_to summaries place = curves_at summaries place.0

get_again : (ts : List Text) (k : ℕ) → get_or ts k (get_or ts k []) ≡ get_or ts k []
get_again [] k = refl
get_again (t ∷ ts) zero = refl
get_again (t ∷ ts) (suc k) = get_again ts k

pub points_more : (summaries : List Summary) (points : List Text) (i : ℕ) (curves new : List Curve) → i < length points → new ≡ curves ++ curves_at summaries i → curves ≡ flat_map (curves_to summaries) (take i (enumerate_from 0 points)) → new ≡ flat_map (curves_to summaries) (take (i + 1) (enumerate_from 0 points))
points_more summaries points i curves new lt more so_far =
    let f = curves_to summaries in
    let places = enumerate_from 0 points in
    let here : ℕ × Text = (i, get_or points i []) in
    let same : 0 + i ≡ i = omega arith in
    let at : get_or places i here ≡ here = get_or-enumerate_from 0 points i here lt ∙ ap (λ (n : ℕ). (n, get_or points i here.1)) same ∙ ap (λ (t : Text). (i, t)) (get_again points i) in
    more ∙ ap (λ (cs : List Curve). cs ++ curves_at summaries i) so_far
    ∙ flat_map_more f [] (take i places) here
    ∙ ap (flat_map f) (sym (take_more places i here (omega (arith, length-enumerate_from 0 points)) ∙ ap (λ (y : ℕ × Text). take i places ++ y ∷ []) at))

pub points_whole : (summaries : List Summary) (points : List Text) (i : ℕ) (curves : List Curve) → length points ≤ i → curves ≡ flat_map (curves_to summaries) (take i (enumerate_from 0 points)) → curves ≡ flat_map (curves_to summaries) (enumerate_from 0 points)
points_whole summaries points i curves le so_far = so_far ∙ ap (flat_map (curves_to summaries)) (take_all i (enumerate_from 0 points) (omega (arith, length-enumerate_from 0 points)))

-- ---- ranks

-- what the curves are sorted by
abbrev pub Key : Type 0
Key = ℕ × Reverse (Option ℤ)

abbrev pub key_of : Curve → Key
key_of curve = (curve.point, record { 0 = curve.gain })

abbrev pub key_cmp : Key → Key → Ordering
key_cmp x y = ordering_then (nat_cmp x.0 y.0) (option_cmp int_cmp y.1.0 x.1.0)

pub ranking : {F : Type 0} {g : Mut F (Bor Curve × Unit {0}) Key} {f : F} (curves ranked : List Curve) → IsPermutation curves ranked
    → ((key : Curve → Key) → ComputesKey g key f → IsSortedByKey key key_cmp ranked)
    → ((key : Curve → Key) → ComputesKey g key f → IsStableByKey key key_cmp curves ranked)
    → ((b : Bor Curve × Unit {0}) (r : Key) (f' : F) → Called g f b r f' → (r ≡ key_of b.0.now) × (f' ≡ f)) → IsRanking curves ranked
ranking {g = g} {f = f} curves ranked all sorted stable keys =
    let computes : ComputesKey g key_of f = always_returns_same g (λ b r. r ≡ key_of b.0.now) f keys in
    record { all = all; sorted = sorted key_of computes; stable = stable key_of computes }
