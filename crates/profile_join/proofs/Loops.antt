-- What the loops keep.
use Rattle.std.proofs.Common.{◌≡◌, ℕ, zero, suc, ◌+◌, ◌<◌, List, [], ◌∷◌, length, take, drop, get_or, All, refl, sym, ap, subst, ◌∙◌, arith}
use Rattle.std.proofs.lemmas.List.{length-map, get_or-map, take_more_same}
use Rattle.std.proofs.lemmas.List.Elements.{All-cons, All-head, All-nil, All-tail}
use Rattle.coz_types.specs.declared.record.Summary.{Summary}
use Rattle.profile_labels.specs.Groups.{groups_by, groups}
use Rattle.profile_join.specs.Parts.{speedups_in, AreTimes}

any_default : {X : Type 0} (xs : List X) (i : ℕ) (d e : X) → i < length xs → get_or xs i d ≡ get_or xs i e
any_default [] i d e lt = absurd (omega (arith, lt))
any_default (x ∷ xs) zero d e lt = refl
any_default (x ∷ xs) (suc i) d e lt = any_default xs i d e (omega (arith, lt))

-- one more element that two lists have alike
pub one_more : {X : Type 0} (xs ys : List X) (i : ℕ) (x y : X) → i < length xs → i < length ys → take i xs ≡ take i ys → x ≡ get_or xs i x → y ≡ get_or ys i y → x ≡ y → take (i + 1) xs ≡ take (i + 1) ys
one_more xs ys i x y lt lt' so_far one two e = take_more_same xs ys i x lt lt' so_far (sym one ∙ e ∙ two ∙ any_default ys i y x lt')

pub one_same : {X : Type 0} (xs ys : List X) (i : ℕ) (x y : X) → i < length xs → i < length ys → xs ≡ ys → x ≡ get_or xs i x → y ≡ get_or ys i y → x ≡ y
one_same xs ys i x y lt lt' same one two = one ∙ ap (λ zs. get_or zs i x) same ∙ any_default ys i x y lt' ∙ sym two

in_map : (ss : List Summary) (i : ℕ) (s : Summary) → i < length ss → s ≡ get_or ss i s → s.speedup ≡ get_or (speedups_in ss) i s.speedup
in_map ss i s lt is = ap (λ (t : Summary). t.speedup) is ∙ sym (get_or-map (λ (t : Summary). t.speedup) ss i s s.speedup lt)

in_length : (ss : List Summary) (i : ℕ) → i < length ss → i < length (speedups_in ss)
in_length ss i lt = subst (λ n. i < n) (sym (length-map ss (λ (t : Summary). t.speedup))) lt

pub speedups_more : (as' bs : List Summary) (i : ℕ) (x y : Summary) → i < length as' → i < length bs → take i (speedups_in as') ≡ take i (speedups_in bs) → x ≡ get_or as' i x → y ≡ get_or bs i y → x.speedup ≡ y.speedup → take (i + 1) (speedups_in as') ≡ take (i + 1) (speedups_in bs)
speedups_more as' bs i x y lt lt' so_far one two e =
    one_more (speedups_in as') (speedups_in bs) i x.speedup y.speedup (in_length as' i lt) (in_length bs i lt') so_far (in_map as' i x lt one) (in_map bs i y lt' two) e

pub speedups_at : (as' bs : List Summary) (i : ℕ) (x y : Summary) → i < length as' → i < length bs → speedups_in as' ≡ speedups_in bs → x ≡ get_or as' i x → y ≡ get_or bs i y → x.speedup ≡ y.speedup
speedups_at as' bs i x y lt lt' same one two =
    one_same (speedups_in as') (speedups_in bs) i x.speedup y.speedup (in_length as' i lt) (in_length bs i lt') same (in_map as' i x lt one) (in_map bs i y lt' two)

abbrev HasSpeedups : List ℕ → List Summary → Type 0
HasSpeedups speedups group = speedups_in group ≡ speedups

-- a group that has the speedups
pub times_more : (speedups : List ℕ) (n : ℕ) (rest front back : List Summary) → groups rest ≡ take n rest ∷ groups (drop n rest) → front ≡ take n rest → back ≡ drop n rest
    → speedups_in front ≡ speedups → AreTimes speedups back → AreTimes speedups rest
times_more speedups n rest front back are f b has all =
    subst (All (HasSpeedups speedups)) (sym are)
    (All-cons (HasSpeedups speedups) (take n rest) (groups (drop n rest)) (ap speedups_in (sym f) ∙ has) (subst (λ ss. AreTimes speedups ss) b all))

pub times_left : (speedups : List ℕ) (n : ℕ) (rest back : List Summary) → groups rest ≡ take n rest ∷ groups (drop n rest) → back ≡ drop n rest → AreTimes speedups rest → AreTimes speedups back
times_left speedups n rest back are b all =
    subst (λ ss. AreTimes speedups ss) (sym b)
    (All-tail (HasSpeedups speedups) (take n rest) (groups (drop n rest)) (subst (All (HasSpeedups speedups)) are all))

pub times_first : (speedups : List ℕ) (n : ℕ) (rest front : List Summary) → groups rest ≡ take n rest ∷ groups (drop n rest) → front ≡ take n rest → AreTimes speedups rest → speedups_in front ≡ speedups
times_first speedups n rest front are f all =
    ap speedups_in f ∙ All-head (HasSpeedups speedups) (take n rest) (groups (drop n rest)) (subst (All (HasSpeedups speedups)) are all)

pub no_groups : groups [] ≡ []
unfolding groups_by
no_groups = refl

pub no_times : (speedups : List ℕ) (rest : List Summary) → length rest ≡ 0 → AreTimes speedups rest
no_times speedups [] none = subst (All (HasSpeedups speedups)) (sym no_groups) (All-nil (HasSpeedups speedups))
no_times speedups (s ∷ rest) none = absurd (omega (arith, none))
