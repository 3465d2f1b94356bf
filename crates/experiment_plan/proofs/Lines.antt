-- The runs of one line that a plan has: one for each of its lines.
use Rattle.std.proofs.Common.{◌≡◌, ℕ, zero, suc, ◌+◌, ◌*◌, ◌/◌, ◌<◌, ◌≤◌, Bool, true, false, cond, ◌==◌, List, [], ◌∷◌, ◌++◌, length, map, take, drop, get_or, slice_get, Some, refl, sym, ap, ◌∙◌, subst, arith}
use Rattle.std.specs.declared.cmp.Ordering.TheVariants.{Less}
use Rattle.std.specs.Ordering.{nat_cmp}
use Rattle.std.specs.List.{AllByRecursion, onto_first}
use Rattle.std.specs.List.Sorted.{IsStrictlySortedBy}
use Rattle.std.proofs.Math.Nat.{zero-mul, suc-mul, mul-div_cancel, mul-le-mul_right}
use Rattle.std.proofs.Math.Seq.{take-append_seam, drop-append-add}
use Rattle.std.proofs.lemmas.List.{length-map}
use Rattle.std.proofs.lemmas.List.Elements.{All-map}
use Rattle.coz_types.specs.declared.LineId.{LineId}
use Rattle.experiment_plan.specs.declared.experiment.Experiment.{Experiment}
use Rattle.experiment_plan.specs.Selected.{ids}
use Rattle.experiment_plan.specs.Pairs.{at_speedup, pairs_of, ArePlanned}
use Rattle.experiment_plan.specs.ByLine.{goes_on, by_line, all_pairs, IsOfOneLine}
use Rattle.experiment_plan.proofs.Pairing.{many}
use Rattle.experiment_plan.proofs.Rising.{less}

-- ---- the runs joined are the pairs

onto_joined : (pair : Experiment) (runs : List (List Experiment)) → all_pairs (onto_first pair runs) ≡ pair ∷ all_pairs runs
onto_joined pair [] = refl
onto_joined pair (run ∷ runs) = refl

pub joined_again : (pairs : List Experiment) → all_pairs (by_line pairs) ≡ pairs
joined_again [] = refl
joined_again (pair ∷ pairs) = by (joined_again pairs) (goes_on pair pairs)
  where
    by : all_pairs (by_line pairs) ≡ pairs → (t : Bool) → all_pairs (cond t (onto_first pair (by_line pairs)) ((pair ∷ []) ∷ by_line pairs)) ≡ pair ∷ pairs
    by rest true = onto_joined pair (by_line pairs) ∙ ap (λ (ps : List Experiment). pair ∷ ps) rest
    by rest false = ap (λ (ps : List Experiment). pair ∷ ps) rest

-- ---- each line at each speedup is one run a line

own_line : (n : ℕ) → (n == n) ≡ true
own_line n = grind arith

other_line : (n m : ℕ) → n < m → (n == m) ≡ false
other_line n m lt = grind arith

one_run : (line : LineId) (p : ℕ) (ps : List ℕ) (rest : List Experiment) → ((q : ℕ) → goes_on (at_speedup line q) rest ≡ false)
    → by_line (map (at_speedup line) (p ∷ ps) ++ rest) ≡ map (at_speedup line) (p ∷ ps) ∷ by_line rest
one_run line p [] rest other =
    ap (λ (t : Bool). cond t (onto_first (at_speedup line p) (by_line rest)) ((at_speedup line p ∷ []) ∷ by_line rest)) (other p)
one_run line p (q ∷ ps) rest other =
    let pair : Experiment = at_speedup line p in
    let later : List Experiment = map (at_speedup line) (q ∷ ps) ++ rest in
    ap (λ (t : Bool). cond t (onto_first pair (by_line later)) ((pair ∷ []) ∷ by_line later)) (own_line line.0)
    ∙ ap (onto_first pair) (one_run line q ps rest other)

begins : (line : LineId) (p q : ℕ) (lines : List LineId) (qs : List ℕ) → AllByRecursion (λ n. nat_cmp line.0 n ≡ Less) (ids lines)
    → goes_on (at_speedup line p) (pairs_of lines (q ∷ qs)) ≡ false
begins line p q [] qs all = refl
begins line p q (later ∷ lines) qs all = other_line line.0 later.0 (less line.0 later.0 all.0)

of_some : (lines : List LineId) (p : ℕ) (ps : List ℕ) → IsStrictlySortedBy nat_cmp (ids lines)
    → by_line (pairs_of lines (p ∷ ps)) ≡ map (λ (line : LineId). map (at_speedup line) (p ∷ ps)) lines
unfolding IsStrictlySortedBy
of_some [] p ps up = refl
of_some (line ∷ lines) p ps up =
    one_run line p ps (pairs_of lines (p ∷ ps)) (λ q. begins line q p lines ps up.0)
    ∙ ap (λ (runs : List (List Experiment)). map (at_speedup line) (p ∷ ps) ∷ runs) (of_some lines p ps up.1)

runs_of : (lines : List LineId) (ps : List ℕ) → IsStrictlySortedBy nat_cmp (ids lines) → 0 < length ps
    → by_line (pairs_of lines ps) ≡ map (λ (line : LineId). map (at_speedup line) ps) lines
runs_of lines [] up some = absurd (omega arith)
runs_of lines (p ∷ ps) up some = of_some lines p ps up

-- ---- a plan

pub runs : (count : ℕ) (pairs : List Experiment) (are : ArePlanned count pairs)
    → by_line pairs ≡ map (λ (line : LineId). map (at_speedup line) are.speedups) are.lines
runs count pairs are = ap by_line are.all ∙ runs_of are.lines are.speedups are.rise (omega (arith, are.some, are.as_many))

long : (count : ℕ) (pairs : List Experiment) (are : ArePlanned count pairs) → length pairs ≡ length are.lines * count
long count pairs are = ap length are.all ∙ many are.lines are.speedups ∙ ap (λ n. length are.lines * n) (sym are.as_many)

as_many_lines : (count : ℕ) (pairs : List Experiment) (are : ArePlanned count pairs) → length (by_line pairs) ≡ length are.lines
as_many_lines count pairs are = ap length (runs count pairs are) ∙ length-map are.lines (λ (line : LineId). map (at_speedup line) are.speedups)

pub line_count_is : (count : ℕ) (pairs : List Experiment) → ArePlanned count pairs → length pairs / count ≡ length (by_line pairs)
line_count_is count pairs are =
    ap (λ n. n / count) (long count pairs are) ∙ mul-div_cancel (length are.lines) are.some ∙ sym (as_many_lines count pairs are)

-- the pairs of a line end within the plan, which has few
pub ends_within : (count : ℕ) (pairs : List Experiment) (i : ℕ) → ArePlanned count pairs → i < length (by_line pairs)
    → (i * count + count ≤ length pairs) × (length pairs ≤ 100000)
ends_within count pairs i are below =
    let lines = as_many_lines count pairs are in
    let most : suc i * count ≤ length are.lines * count = mul-le-mul_right count (omega (arith, below, lines)) in
    (omega (arith, most, suc-mul i count, long count pairs are), are.few)

run_at : (lines : List LineId) (ps : List ℕ) (i : ℕ) (d : LineId) → i < length lines
    → take (length ps) (drop (i * length ps) (pairs_of lines ps)) ≡ map (at_speedup (get_or lines i d)) ps
run_at [] ps i d below = absurd (omega arith)
run_at (line ∷ lines) ps zero d below =
    let run : List Experiment = map (at_speedup line) ps in
    ap (λ n. take (length ps) (drop n (run ++ pairs_of lines ps))) (zero-mul (length ps))
    ∙ ap (λ n. take n (run ++ pairs_of lines ps)) (sym (length-map ps (at_speedup line)))
    ∙ take-append_seam run (pairs_of lines ps)
run_at (line ∷ lines) ps (suc i) d below =
    let run : List Experiment = map (at_speedup line) ps in
    let n : ℕ = length ps in
    let past : suc i * n ≡ length run + i * n = omega (arith, suc-mul i n, length-map ps (at_speedup line)) in
    ap (λ m. take n (drop m (run ++ pairs_of lines ps))) past
    ∙ ap (take n) (drop-append-add run (pairs_of lines ps) (i * n))
    ∙ run_at lines ps i d (omega arith)

got : {A B : Type 0} (g : A → B) (xs : List A) (i : ℕ) (d : A) → i < length xs → slice_get (map g xs) i ≡ Some (g (get_or xs i d))
got g [] i d below = absurd (omega arith)
got g (x ∷ xs) zero d below = refl
got g (x ∷ xs) (suc i) d below = got g xs i d (omega arith)

abbrev no_line : LineId
no_line = record { 0 = 0 }

-- the pairs from a line's first on are that line at each speedup
cut : (count : ℕ) (pairs : List Experiment) (i : ℕ) (are : ArePlanned count pairs) → i < length (by_line pairs)
    → take count (drop (i * count) pairs) ≡ map (at_speedup (get_or are.lines i no_line)) are.speedups
cut count pairs i are below =
    ap (λ (ps : List Experiment). take count (drop (i * count) ps)) are.all
    ∙ ap (λ n. take n (drop (i * n) (pairs_of are.lines are.speedups))) are.as_many
    ∙ run_at are.lines are.speedups i no_line (omega (arith, below, as_many_lines count pairs are))

pub line_is : (count : ℕ) (pairs : List Experiment) (i : ℕ) → ArePlanned count pairs → i < length (by_line pairs)
    → slice_get (by_line pairs) i ≡ Some (take count (drop (i * count) pairs))
line_is count pairs i are below =
    ap (λ (rs : List (List Experiment)). slice_get rs i) (runs count pairs are)
    ∙ got (λ (line : LineId). map (at_speedup line) are.speedups) are.lines i no_line (omega (arith, below, as_many_lines count pairs are))
    ∙ ap Some (sym (cut count pairs i are below))

pub one_line : (count : ℕ) (pairs : List Experiment) (i : ℕ) → ArePlanned count pairs → i < length (by_line pairs)
    → IsOfOneLine (take count (drop (i * count) pairs))
one_line count pairs i are below =
    let line : LineId = get_or are.lines i no_line in
    let is = cut count pairs i are below in
    subst IsOfOneLine (sym is) (record {
      line = line;
      some = omega (arith, length-map are.speedups (at_speedup line), are.as_many, are.some);
      each = All-map (λ (pair : Experiment). pair.line ≡ line) (at_speedup line) are.speedups (λ k d short. refl);
    })
