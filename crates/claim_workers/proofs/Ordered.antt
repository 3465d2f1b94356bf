-- Claims that are sorted are the numbers below the bound.
use Rattle.std.proofs.Common.{◌≡◌, ℕ, zero, suc, ◌+◌, ◌<◌, ◌≤◌, ◌==◌, ◌≢◌, ◌&&◌, Bool, cond, nat_lt, nat_le, true, false, List, [], ◌∷◌, ◌++◌, map, length, get_or, Result, Ok, Err, IfOk, sym, refl, ap, ◌∙◌, subst, arith, lt_of_not-le}
use Rattle.std.proofs.lemmas.List.Sums.{sum_by-cons, get_or-le-sum_by}
use Rattle.std.proofs.lemmas.List.Sorted.{IsPermutation-map, sum_by-IsPermutation, All-permutation}
use Rattle.std.proofs.lemmas.List.{length-map}
use Rattle.std.proofs.lemmas.List.Elements.{All-weaker, All-map, All-same, All-nil, All-append, All-head, All-tail}
use Rattle.std.specs.List.{All, flat_map, range_with_len}
use Rattle.std.specs.List.Sorted.{IsPermutation, IsNonDecreasingBy}
use native.Mathlib.Decide.{ℕ_discrete, dec_le}
use Rattle.experiment_claims.specs.Drawn.{times, once_below}
use Rattle.experiment_claims.specs.declared.hand.Hand.{Hand}
use Rattle.claim_workers.specs.declared.claimed.Claimed.{Claimed}
use Rattle.coz_types.specs.declared.record.Summary.{Summary}
use Rattle.claim_workers.specs.Worked.{Worked, EachClaim, claimed_by, claims_in, claim_of, kept_summaries, count_past}

-- once for each number from a on and below n
abbrev within : ℕ → ℕ → ℕ → ℕ
within a n x = cond (nat_le a x && nat_lt x n) 1 0

times_cons : (x y : ℕ) (ys : List ℕ) → times x (y ∷ ys) ≡ cond (y == x) 1 0 + times x ys
times_cons x y ys = sum_by-cons (λ z. cond (z == x) 1 0) y ys

same_counts : (x : ℕ) → cond (x == x) 1 0 ≡ suc 0
same_counts x = grind arith

other_counts : (x y : ℕ) → y ≢ x → cond (y == x) 1 0 ≡ zero
other_counts x y ne = grind arith

stands_cases : (x y : ℕ) (ys : List ℕ) → (1 ≤ times x ys → (k : ℕ) × (k < length ys) × (get_or ys k 0 ≡ x)) → 1 ≤ times x (y ∷ ys) → Dec (y ≡ x)
    → (k : ℕ) × (k < length (y ∷ ys)) × (get_or (y ∷ ys) k 0 ≡ x)
stands_cases x y ys later h (yes e) = (0, omega arith, e)
stands_cases x y ys later h (no ne) =
    let there = later (let c = times_cons x y ys in let z = other_counts x y ne in omega (arith, c, z)) in
    (suc there.0, (let short = there.1 in omega arith), there.2)

-- what is counted stands in the list
stands : (x : ℕ) (xs : List ℕ) → 1 ≤ times x xs → (k : ℕ) × (k < length xs) × (get_or xs k 0 ≡ x)
stands x [] h = absurd (omega arith)
stands x (y ∷ ys) h = stands_cases x y ys (stands x ys) h (ℕ_discrete y x)

is_counted : (xs : List ℕ) (k : ℕ) (d : ℕ) → k < length xs → 1 ≤ times (get_or xs k d) xs
is_counted xs k d short =
    let y : ℕ = get_or xs k d in
    omega (arith, same_counts y, get_or-le-sum_by (λ z. cond (z == y) 1 0) xs k d short)

within_first : (a n : ℕ) → within a (a + suc n) a ≡ suc 0
within_first a n = grind arith

within_none : (a x : ℕ) → within a (a + 0) x ≡ zero
within_none a x = grind arith

within_from : (a n x : ℕ) → 1 ≤ within a n x → a ≤ x
within_from a n x h = grind arith

within_next : (a n x : ℕ) → within a (a + suc n) x ≡ cond (a == x) 1 0 + within (a + 1) ((a + 1) + n) x
within_next a n x = grind arith

-- a rising list with each number from a on and below a + n once
rising : (xs : List ℕ) (a n : ℕ) → IsNonDecreasingBy (λ x. x) xs → ((x : ℕ) → times x xs ≡ within a (a + n) x) → xs ≡ range_with_len a n
rising [] a zero up each = refl
rising [] a (suc n) up each = absurd (let e = each a in let w = within_first a n in omega (arith, e, w))
rising (y ∷ ys) a zero up each = absurd (
    let e = each y in
    let here = times_cons y y ys in
    let own = same_counts y in
    let none = within_none a y in
    omega (arith, e, here, own, none))
rising (y ∷ ys) a (suc n) up each =
    let first : 1 ≤ times a (y ∷ ys) = let e = each a in let w = within_first a n in omega (arith, e, w) in
    let place = stands a (y ∷ ys) first in
    let least : y ≤ a = let le = up 0 place.0 0 (omega arith) place.1 in let is = place.2 in omega (arith, le, is) in
    let counted : 1 ≤ times y (y ∷ ys) = let here = times_cons y y ys in let own = same_counts y in omega (arith, here, own) in
    let most : a ≤ y = within_from a (a + suc n) y (let e = each y in omega (arith, e, counted)) in
    let is : y ≡ a = omega arith in
    let rest : ys ≡ range_with_len (a + 1) n =
    rising ys (a + 1) n (λ i j d le short. up (suc i) (suc j) d (omega arith) (omega arith))
    (λ x. let e = each x in let here = times_cons x y ys in let w = within_next a n x in let f : ℕ → ℕ = λ z. cond (z == x) 1 0 in let same = ap f is in
    omega (arith, e, here, w, same)) in
    λ i. is i ∷ rest i

parts : (f : ℕ → List Summary) (qs : List Claimed) → All (λ p. p ≡ claimed_by f p.claim) qs → qs ≡ map (claimed_by f) (map claim_of qs)
parts f [] h = refl
parts f (q ∷ qs) h =
    let here : q ≡ claimed_by f q.claim = All-head (λ p. p ≡ claimed_by f p.claim) q qs h in
    let rest = parts f qs (All-tail (λ p. p ≡ claimed_by f p.claim) q qs h) in
    λ i. here i ∷ rest i

claims_back : (f : ℕ → List Summary) (cs : List ℕ) → map claim_of (map (claimed_by f) cs) ≡ cs
claims_back f [] = refl
claims_back f (c ∷ cs) = λ i. c ∷ claims_back f cs i

values_back : (f : ℕ → List Summary) (cs : List ℕ) → flat_map kept_summaries (map (claimed_by f) cs) ≡ flat_map f cs
values_back f [] = refl
values_back f (c ∷ cs) = ap (λ (rest : List Summary). f c ++ rest) (values_back f cs)

at_map : (qs : List Claimed) (i d : ℕ) (q : Claimed) → i < length qs → get_or (map claim_of qs) i d ≡ claim_of (get_or qs i q)
at_map [] i d q short = absurd (omega arith)
at_map (x ∷ xs) zero d q short = refl
at_map (x ∷ xs) (suc i) d q short = at_map xs i d q (omega arith)

within_zero : (x n : ℕ) → once_below x n ≡ within 0 (0 + n) x
within_zero x n = grind arith

pub ordered : (f : ℕ → List Summary) (n : ℕ) (ps qs : List Claimed) → EachClaim f n ps → IsPermutation ps qs → IsNonDecreasingBy claim_of qs → qs ≡ map (claimed_by f) (range_with_len 0 n)
ordered f n ps qs e moved up =
    let P : Claimed → Type 0 = λ p. p ≡ claimed_by f p.claim in
    let valued : All P qs = All-permutation P ps qs moved (All-same P ps (map (claimed_by f) e.claims) e.each (All-map P (claimed_by f) e.claims (λ k d short. refl))) in
    let cs : List ℕ = map claim_of qs in
    let long : length cs ≡ length qs = length-map qs claim_of in
    let drawn : map claim_of ps ≡ e.claims = ap (map claim_of) e.each ∙ claims_back f e.claims in
    let each : (x : ℕ) → times x cs ≡ within 0 (0 + n) x =
    λ x. sum_by-IsPermutation (λ y. cond (y == x) 1 0) (map claim_of ps) cs (IsPermutation-map claim_of ps qs moved)
    ∙ ap (times x) drawn ∙ e.once x ∙ within_zero x n in
    let q : Claimed = claimed_by f 0 in
    let rises : IsNonDecreasingBy (λ x. x) cs =
    λ i j d le short. let short' : j < length qs = omega arith in
    let a = at_map qs i d q (omega arith) in let b = at_map qs j d q short' in let both = up i j q le short' in omega arith in
    parts f qs valued ∙ ap (map (claimed_by f)) (rising cs 0 n rises each)

pub ordered_summaries : (f : ℕ → List Summary) (n : ℕ) (ps qs : List Claimed) → EachClaim f n ps → IsPermutation ps qs → IsNonDecreasingBy claim_of qs → flat_map kept_summaries qs ≡ flat_map f (range_with_len 0 n)
ordered_summaries f n ps qs e moved up = ap (flat_map kept_summaries) (ordered f n ps qs e moved up) ∙ values_back f (range_with_len 0 n)

is_below : (y w : ℕ) → 1 ≤ once_below y w → y < w
is_below y w h = grind arith

-- if each number is below the bound, none is past it
none_past : (b : ℕ) (xs : List ℕ) → All (λ x. x < b) xs → count_past b xs ≡ 0
none_past b [] h = refl
none_past b (x ∷ xs) h =
    let rest = none_past b xs (All-tail (λ y. y < b) x xs h) in
    let here : x < b = All-head (λ y. y < b) x xs h in
    let not : cond (nat_le b x) 1 0 ≡ zero = grind arith in
    omega (arith, sum_by-cons (λ n. cond (nat_le b n) 1 0) x xs, not, rest)

filter_step : (x b y : ℕ) (ys : List ℕ) (t : Bool) → nat_lt y b ≡ t → times x (claims_in b ys) ≡ cond (nat_lt x b) (times x ys) 0
    → times x (cond t (y ∷ claims_in b ys) (claims_in b ys)) ≡ cond (nat_lt x b) (times x (y ∷ ys)) 0
filter_step x b y ys true e rest = grind (arith, times_cons x y (claims_in b ys), times_cons x y ys)
filter_step x b y ys false e rest = grind (arith, times_cons x y ys)

times_filter : (x b : ℕ) (xs : List ℕ) → times x (claims_in b xs) ≡ cond (nat_lt x b) (times x xs) 0
times_filter x b [] = grind arith
times_filter x b (y ∷ ys) = filter_step x b y ys (nat_lt y b) refl (times_filter x b ys)

below_word : (w : ℕ) (xs : List ℕ) → ((x : ℕ) → times x xs ≡ once_below x w) → All (λ x. x < w) xs
below_word w xs each k d short =
    let y : ℕ = get_or xs k d in
    let e = each y in
    let counted : 1 ≤ once_below y w = let c = is_counted xs k d short in omega arith in
    is_below y w counted

reached : (b w stops : ℕ) (xs : List ℕ) → count_past b xs ≡ stops → 0 < stops → ((x : ℕ) → times x xs ≡ once_below x w) → Dec (b ≤ w) → b ≤ w
reached b w stops xs stopped some each (yes d) = d
reached b w stops xs stopped some each (no n) =
    let less : w < b = lt_of_not-le n in
    let none = none_past b xs (All-weaker (λ x. x < w) (λ x. x < b) (λ x h. omega arith) xs (below_word w xs each)) in
    absurd (omega arith)

once_claimed : (x b w : ℕ) → b ≤ w → cond (nat_lt x b) (once_below x w) 0 ≡ once_below x b
once_claimed x b w h = grind arith

-- what is claimed of all numbers below the word, if some draw met the bound, is each claim once
pub each_claim : (f : ℕ → List Summary) (b w turns stops : ℕ) (h : Hand) (ps : List Claimed) → Worked f b turns stops h ps → 0 < stops → ((x : ℕ) → times x h.numbers ≡ once_below x w) → EachClaim f b ps
each_claim f b w turns stops h ps worked some each =
    let far : b ≤ w = reached b w stops h.numbers worked.stopped some each (dec_le b w) in
    record {
      claims = claims_in b h.numbers;
      each = worked.each;
      once = λ x. times_filter x b h.numbers ∙ ap (λ n. cond (nat_lt x b) n 0) (each x) ∙ once_claimed x b w far;
    }

-- ---- what is so of each summary that is kept

once_counted : (x n : ℕ) → x < n → once_below x n ≡ suc 0
once_counted x n below = grind arith

claimed_at : (Q : List Summary → Type 0) (f : ℕ → List Summary) (claims : List ℕ) (k : ℕ) → All (λ (c : Claimed). Q c.summaries) (map (claimed_by f) claims) → k < length claims → Q (f (get_or claims k 0))
claimed_at Q f [] k all short = absurd (omega arith)
claimed_at Q f (x ∷ xs) zero all short = All-head (λ (c : Claimed). Q c.summaries) (claimed_by f x) (map (claimed_by f) xs) all
claimed_at Q f (x ∷ xs) (suc k) all short = claimed_at Q f xs k (All-tail (λ (c : Claimed). Q c.summaries) (claimed_by f x) (map (claimed_by f) xs) all) (omega arith)

-- each claim below n has some
of_claim : (Q : List Summary → Type 0) (f : ℕ → List Summary) (n : ℕ) (done : List Claimed) → EachClaim f n done → All (λ (c : Claimed). Q c.summaries) done → (x : ℕ) → x < n → Q (f x)
of_claim Q f n done e all x below =
    let there = stands x e.claims (let own = once_counted x n below in let each = e.once x in omega arith) in
    let claimed_all = All-same (λ (c : Claimed). Q c.summaries) (map (claimed_by f) e.claims) done (sym e.each) all in
    subst (λ y. Q (f y)) there.2 (claimed_at Q f e.claims there.0 claimed_all there.1)

over_range : (Q : Summary → Type 0) (f : ℕ → List Summary) (a n : ℕ) → ((x : ℕ) → x < a + n → All Q (f x)) → All Q (flat_map f (range_with_len a n))
over_range Q f a zero each = All-nil Q
over_range Q f a (suc n) each = All-append Q (f a) (flat_map f (range_with_len (a + 1) n)) (each a (omega arith)) (over_range Q f (a + 1) n (λ x below. each x (omega arith)))

pub each_summary : (Q : Summary → Type 0) (f : ℕ → List Summary) (n : ℕ) (done : List Claimed) → EachClaim f n done → All (λ (c : Claimed). All Q c.summaries) done → All Q (flat_map f (range_with_len 0 n))
each_summary Q f n done e all = over_range Q f 0 n (λ x below. of_claim (All Q) f n done e all x (omega arith))

-- what is so of each of some summaries is so of a list that is answered and is those
pub each_answered : {V E : Type 0} (list : V → List Summary) (Q : Summary → Type 0) (summaries : List Summary) (result : Result V E)
    → IfOk result (λ v. list v ≡ summaries) → All Q summaries → IfOk result (λ v. All Q (list v))
each_answered list Q summaries (Ok v) is all = All-same Q (list v) summaries is all
each_answered list Q summaries (Err e) is all = tt
