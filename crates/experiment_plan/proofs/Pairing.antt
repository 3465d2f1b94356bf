-- The pairs of lines and speedups: their number, their order and what they are made of.
use Rattle.std.proofs.Common.{◌≡◌, ℕ, ◌+◌, ◌-◌, ◌*◌, ◌^◌, ◌<◌, ◌≤◌, ◌⊎◌, inl, inr, List, [], ◌∷◌, ◌++◌, length, map, take, get_or, slice_get, Some, All, sym, ap, ap₂, ◌∙◌, subst, arith, length-append}
use Rattle.std.specs.declared.cmp.Ordering.TheVariants.{Less}
use Rattle.std.specs.Ordering.{nat_cmp, ordering_then}
use Rattle.std.specs.Cmp.{nat_cmp_total}
use Rattle.std.specs.List.{AllByRecursion}
use Rattle.std.specs.List.Sorted.{IsStrictlySortedBy}
use Rattle.std.proofs.Math.Nat.{add_comm, zero-mul, suc-mul, mul-le-mul_right}
use Rattle.std.proofs.lemmas.List.{get_or-map, length-map, map-append, append_assoc, append-nil, take_more}
use Rattle.std.proofs.lemmas.Option.{get_or_from_slice_get}
use Rattle.std.proofs.lemmas.Grind.{flat_map-append}
use Rattle.coz_types.specs.declared.LineId.{LineId}
use Rattle.line_index.proofs.Order.{self_equal}
use Rattle.line_index.proofs.Pieces.{Among, among_mapped}
use Rattle.experiment_plan.specs.declared.experiment.Experiment.{Experiment}
use Rattle.experiment_plan.specs.Selected.{id_of, ids, rising_numbers}
use Rattle.experiment_plan.specs.Pairs.{at_speedup, pairs_of, pair_cmp, planned_pairs}
use Rattle.experiment_plan.proofs.Among.{all_among, one_among, each_append, among_either}
use Rattle.experiment_plan.proofs.Rising.{rises, of_rising, few, at_least}

pub many : (lines : List LineId) (speedups : List ℕ) → length (pairs_of lines speedups) ≡ length lines * length speedups
many [] speedups = sym (zero-mul (length speedups))
many (line ∷ lines) speedups =
    length-append (map (at_speedup line) speedups) (pairs_of lines speedups)
    ∙ ap₂ (λ n m. n + m) (length-map speedups (at_speedup line)) (many lines speedups)
    ∙ add_comm (length speedups) (length lines * length speedups)
    ∙ sym (suc-mul (length lines) (length speedups))

-- one line more
line_more : (lines : List LineId) (ps : List ℕ) (i : ℕ) (d : LineId) → i < length lines → pairs_of (take i lines) ps ++ map (at_speedup (get_or lines i d)) ps ≡ pairs_of (take (i + 1) lines) ps
line_more lines ps i d lt =
    ap (λ (es : List Experiment). pairs_of (take i lines) ps ++ es) (sym (append-nil (map (at_speedup (get_or lines i d)) ps)))
    ∙ sym (flat_map-append (λ (line : LineId). map (at_speedup line) ps) (take i lines) (get_or lines i d ∷ []))
    ∙ ap (λ (ls : List LineId). pairs_of ls ps) (sym (take_more lines i d lt))

-- one speedup more
speedup_more : (line : LineId) (ps : List ℕ) (i d : ℕ) (pairs : List Experiment) → i < length ps → (pairs ++ map (at_speedup line) (take i ps)) ++ at_speedup line (get_or ps i d) ∷ [] ≡ pairs ++ map (at_speedup line) (take (i + 1) ps)
speedup_more line ps i d pairs lt =
    append_assoc pairs (map (at_speedup line) (take i ps)) (at_speedup line (get_or ps i d) ∷ [])
    ∙ ap (λ (es : List Experiment). pairs ++ es) (sym (map-append (at_speedup line) (take i ps) (get_or ps i d ∷ [])) ∙ ap (map (at_speedup line)) (sym (take_more ps i d lt)))

-- what the loops over lines and speedups keep

pub line_next : (lines : List LineId) (ps : List ℕ) (i : ℕ) (d : LineId) (pairs new : List Experiment) → i < length lines → pairs ≡ pairs_of (take i lines) ps → new ≡ pairs ++ map (at_speedup (get_or lines i d)) ps → new ≡ pairs_of (take (i + 1) lines) ps
line_next lines ps i d pairs new lt so_far is = is ∙ ap (λ (es : List Experiment). es ++ map (at_speedup (get_or lines i d)) ps) so_far ∙ line_more lines ps i d lt

pub speedup_next : (line : LineId) (ps : List ℕ) (i d : ℕ) (before pairs new : List Experiment) → i < length ps → pairs ≡ before ++ map (at_speedup line) (take i ps) → new ≡ pairs ++ at_speedup line (get_or ps i d) ∷ [] → new ≡ before ++ map (at_speedup line) (take (i + 1) ps)
speedup_next line ps i d before pairs new lt so_far is = is ∙ ap (λ (es : List Experiment). es ++ at_speedup line (get_or ps i d) ∷ []) so_far ∙ speedup_more line ps i d before lt

-- ---- they rise

abbrev pub IsAfter : Experiment → List Experiment → Type 0
IsAfter pair pairs = AllByRecursion (λ other. pair_cmp pair other ≡ Less) pairs

of_line : (line : LineId) (p : ℕ) (qs : List ℕ) → AllByRecursion (λ q. nat_cmp p q ≡ Less) qs → IsAfter (at_speedup line p) (map (at_speedup line) qs)
of_line line p [] all = tt
of_line line p (q ∷ qs) all = (ap (λ r. ordering_then r (nat_cmp p q)) (self_equal nat_cmp_total line.0) ∙ all.0, of_line line p qs all.1)

of_later : (line later : LineId) (p : ℕ) (qs : List ℕ) → nat_cmp line.0 later.0 ≡ Less → IsAfter (at_speedup line p) (map (at_speedup later) qs)
of_later line later p [] less = tt
of_later line later p (q ∷ qs) less = (ap (λ r. ordering_then r (nat_cmp p q)) less, of_later line later p qs less)

of_others : (line : LineId) (p : ℕ) (lines : List LineId) (qs : List ℕ) → AllByRecursion (λ n. nat_cmp line.0 n ≡ Less) (ids lines) → IsAfter (at_speedup line p) (pairs_of lines qs)
of_others line p [] qs all = tt
of_others line p (later ∷ lines) qs all =
    each_append (λ other. pair_cmp (at_speedup line p) other ≡ Less) (map (at_speedup later) qs) (pairs_of lines qs) (of_later line later p qs all.0) (of_others line p lines qs all.1)

sorted_line : (line : LineId) (ps : List ℕ) (rest : List Experiment) → IsStrictlySortedBy nat_cmp ps → IsStrictlySortedBy pair_cmp rest → ((p : ℕ) → IsAfter (at_speedup line p) rest) → IsStrictlySortedBy pair_cmp (map (at_speedup line) ps ++ rest)
unfolding IsStrictlySortedBy
sorted_line line [] rest up sorted after = sorted
sorted_line line (p ∷ ps) rest up sorted after = (
  each_append (λ other. pair_cmp (at_speedup line p) other ≡ Less) (map (at_speedup line) ps) rest (of_line line p ps up.0) (after p),
  sorted_line line ps rest up.1 sorted after,
)

pub sorted_pairs : (lines : List LineId) (ps : List ℕ) → IsStrictlySortedBy nat_cmp (ids lines) → IsStrictlySortedBy nat_cmp ps → IsStrictlySortedBy pair_cmp (pairs_of lines ps)
unfolding IsStrictlySortedBy
sorted_pairs [] ps lines_up up = tt
sorted_pairs (line ∷ lines) ps lines_up up = sorted_line line ps (pairs_of lines ps) up (sorted_pairs lines ps lines_up.1 up) (λ p. of_others line p lines ps lines_up.0)

-- ---- what they are made of

made_of : (pair : Experiment) (lines : List LineId) (ps : List ℕ) → Among pair (pairs_of lines ps) → Among pair.line lines × Among pair.speedup ps
made_of pair [] ps m = absurd m
made_of pair (line ∷ lines) ps m = by (made_of pair lines ps) (among_either pair (map (at_speedup line) ps) (pairs_of lines ps) m)
  where
    by : (Among pair (pairs_of lines ps) → Among pair.line lines × Among pair.speedup ps) → Among pair (map (at_speedup line) ps) ⊎ Among pair (pairs_of lines ps) → Among pair.line (line ∷ lines) × Among pair.speedup ps
    by rest (inl h) =
        let one = among_mapped (at_speedup line) pair ps h in
        (inl (ap (λ (e : Experiment). e.line) one.2), subst (λ p. Among p ps) (ap (λ (e : Experiment). e.speedup) one.2) one.1)
    by rest (inr h) = (inr (rest h).0, (rest h).1)

pub lines_below : (count : ℕ) (lines : List LineId) (ps : List ℕ) → All (λ (line : LineId). line.0 < count) lines → All (λ (pair : Experiment). pair.line.0 < count) (pairs_of lines ps)
lines_below count lines ps all = all_among (λ (pair : Experiment). pair.line.0 < count) (pairs_of lines ps) (λ pair m. one_among (λ (line : LineId). line.0 < count) pair.line lines all (made_of pair lines ps m).0)

-- ---- 0 and the speedups that are given

pub speedup_few : (speedups : List ℕ) (n : ℕ) → All (λ p. p ≤ 95) speedups → Among n (rising_numbers (0 ∷ speedups)) → n ≤ 95
speedup_few speedups n all m = by (of_rising n (0 ∷ speedups) m)
  where
    by : Among n (0 ∷ speedups) → n ≤ 95
    by (inl e) = omega (arith, e)
    by (inr h) = one_among (λ p. p ≤ 95) n speedups all h

pub speedups_few : (lines : List LineId) (speedups : List ℕ) → All (λ p. p ≤ 95) speedups → All (λ (pair : Experiment). pair.speedup ≤ 95) (planned_pairs lines speedups)
speedups_few lines speedups all =
    all_among (λ (pair : Experiment). pair.speedup ≤ 95) (planned_pairs lines speedups)
    (λ pair m. speedup_few speedups pair.speedup all (made_of pair lines (rising_numbers (0 ∷ speedups)) m).1)

-- there are at most 96 of them
pub few_speedups : (speedups : List ℕ) → All (λ p. p ≤ 95) speedups → length (rising_numbers (0 ∷ speedups)) ≤ 96
few_speedups speedups all =
    let most : 0 + length (rising_numbers (0 ∷ speedups)) ≤ 96 =
    few 0 96 (rising_numbers (0 ∷ speedups)) (rises (0 ∷ speedups)) (λ n m. let le = speedup_few speedups n all m in (omega arith, omega (arith, le))) (omega arith) in
    omega (arith, most)

-- and at most 2^32 lines
pub few_lines : (lines : List LineId) (last : LineId) → IsStrictlySortedBy nat_cmp (ids lines) → slice_get lines (length lines - 1) ≡ Some last → last.0 < 2 ^ 32 → length lines ≤ 2 ^ 32
few_lines [] last up is small = omega arith
few_lines (line ∷ lines) last up is small =
    let all = line ∷ lines in
    let i = length all - 1 in
    let lt : i < length all = omega arith in
    let there : get_or all i last ≡ last = get_or_from_slice_get all i last last is in
    let number : get_or (ids all) i 0 ≡ (get_or all i last).0 = get_or-map id_of all i last 0 lt in
    let same : (get_or all i last).0 ≡ last.0 = ap id_of there in
    let least : i ≤ get_or (ids all) i 0 = at_least (ids all) up i 0 (omega (arith, length-map all id_of, lt)) in
    omega (arith, number, same, least, small)

pub few_pairs : (n m : ℕ) → n ≤ 2 ^ 32 → m ≤ 96 → n * m < 2 ^ 64
few_pairs n m lines speedups = let le : n * m ≤ 2 ^ 32 * m = mul-le-mul_right m lines in omega (arith, le, speedups)

-- ---- a plan

pub plan_of : (lines : List LineId) (speedups ps qs : List ℕ) (pairs : List Experiment) → pairs ≡ pairs_of lines qs → qs ≡ ps → ps ≡ rising_numbers (0 ∷ speedups) → pairs ≡ planned_pairs lines speedups
plan_of lines speedups ps qs pairs is same risen = is ∙ ap (pairs_of lines) (same ∙ risen)

pub plan_length : (lines : List LineId) (speedups ps qs : List ℕ) (count : ℕ) → count ≡ length lines * length qs → qs ≡ ps → ps ≡ rising_numbers (0 ∷ speedups) → count ≡ length (planned_pairs lines speedups)
plan_length lines speedups ps qs count is same risen = is ∙ ap (λ (rs : List ℕ). length lines * length rs) (same ∙ risen) ∙ sym (many lines (rising_numbers (0 ∷ speedups)))
