-- The order of lines, and what a binary search finds.
use Rattle.std.proofs.Common.{◌≡◌, ℕ, ◌+◌, ◌<◌, ⊎_elim, false, List, [], ◌∷◌, length, map, Some, Result, Ok, Err, Ordering, MatchResult, slice_get, get_or, refl, sym, ap, ◌∙◌, arith}
use Rattle.std.specs.declared.cmp.Ordering.TheVariants.{Less, Equal, Greater}
use Rattle.std.specs.Ordering.{nat_cmp, ordering_then, ordering_reverse, is_lt}
use Rattle.std.specs.Cmp.{IsTotalOrder, nat_cmp_total}
use Rattle.std.specs.Cmp.Lexicographic.{slice_cmp, nat_list_cmp_total}
use Rattle.std.specs.List.{AllByRecursion}
use Rattle.std.specs.List.Sorted.{IsSortedBy, IsStrictlySortedBy, IsBinarySearchResult}
use Rattle.std.proofs.lemmas.Bool.{cases_lt}
use Rattle.std.proofs.lemmas.Cmp.{ranked}
use Rattle.std.proofs.lemmas.List.Sorted.{searchable_from_sorted}
use Rattle.std.proofs.lemmas.Map.Keys.{Less-from_sorted, sorted_head, sorted_tail}
use Rattle.std.proofs.lemmas.Option.{get_or_from_slice_get, slice_get_within}
use Rattle.line_index.specs.declared.lines.Key.{Key}
use Rattle.line_index.specs.Lines.{Line, line_cmp}
use Rattle.line_index.specs.Keys.{HasPath, key_cmp}
use Rattle.line_index.specs.Index.{line_at}

own_reverse : (r : Ordering) → r ≡ ordering_reverse r → r ≡ Equal
own_reverse Less e = let no : ⊥ = cc in absurd no
own_reverse Equal e = refl
own_reverse Greater e = let no : ⊥ = cc in absurd no

-- in a total order each is equal to itself
pub self_equal : {K : Type 0} {R : K → K → Ordering} → IsTotalOrder R → (x : K) → R x x ≡ Equal
self_equal {R = R} o x = own_reverse (R x x) (o.antisymm x x)

less_not_back : (r s : Ordering) → r ≡ Less → s ≡ ordering_reverse r → is_lt s ≡ false
less_not_back r s e f = let g : s ≡ Greater = f ∙ ap ordering_reverse e in ap is_lt g

sorted_from_strict : {K : Type 0} {R : K → K → Ordering} → IsTotalOrder R → (xs : List K) → IsStrictlySortedBy R xs → IsSortedBy (λ x y. is_lt (R x y)) xs
sorted_from_strict {R = R} o xs up k d le lt =
    less_not_back (R (get_or xs k d) (get_or xs (k + 1) d)) (R (get_or xs (k + 1) d) (get_or xs k d)) (Less-from_sorted R xs k (k + 1) d up (omega arith) lt) (o.antisymm (get_or xs (k + 1) d) (get_or xs k d))

-- what a search finds, if the element is there
pub search_finds : {K : Type 0} {R : K → K → Ordering} → IsTotalOrder R → (xs : List K) (x : K) (r : Result ℕ ℕ) → IsStrictlySortedBy R xs → IsBinarySearchResult (λ y. R y x) xs r
    → (k : ℕ) → k < length xs → R (get_or xs k x) x ≡ Equal → MatchResult r (λ i. R (get_or xs i x) x ≡ Equal) (λ _. ⊥)
search_finds o xs x (Ok i) up found k lt e = found x
search_finds {R = R} o xs x (Err i) up found k lt e =
    let parts = found (searchable_from_sorted o (λ y. y) xs x (sorted_from_strict o xs up)) in
    ⊎_elim
    (λ before. let less : R (get_or xs k x) x ≡ Less = parts.0 k x (omega arith) before in let no : ⊥ = cc in no)
    (λ behind. let more : R (get_or xs k x) x ≡ Greater = parts.1 k x behind lt in let no : ⊥ = cc in no)
    (cases_lt k i)

-- ---- lines by their keys

pub all_map : {X Y : Type 0} (P : Y → Type 0) (f : X → Y) (xs : List X) → AllByRecursion (λ x. P (f x)) xs → AllByRecursion P (map f xs)
all_map P f [] h = tt
all_map P f (x ∷ xs) h = (h.0, all_map P f xs h.1)

-- a list that is sorted by what a function gives
pub sorted_map : {X Y : Type 0} (f : X → Y) (R : Y → Y → Ordering) (xs : List X) → IsStrictlySortedBy (λ x y. R (f x) (f y)) xs → IsStrictlySortedBy R (map f xs)
unfolding IsStrictlySortedBy
sorted_map f R [] up = tt
sorted_map f R (x ∷ xs) up = (all_map (λ y. R (f x) y ≡ Less) f xs up.0, sorted_map f R xs up.1)

line_less_by : (paths : List (List ℕ)) (k m : Key) (r : Ordering) → r ≡ nat_cmp k.path m.path → IsStrictlySortedBy (slice_cmp nat_cmp) paths → HasPath paths m
    → ordering_then r (nat_cmp k.number m.number) ≡ Less → line_cmp (line_at paths k) (line_at paths m) ≡ Less
line_less_by paths k m Less e up high less =
    ap (λ r. ordering_then r (nat_cmp k.number m.number)) (Less-from_sorted (slice_cmp nat_cmp) paths k.path m.path [] up (ranked k.path m.path Less e) high)
line_less_by paths k m Equal e up high less =
    let same : get_or paths k.path [] ≡ get_or paths m.path [] = ap (λ i. get_or paths i []) (ranked k.path m.path Equal e) in
    ap (λ r. ordering_then r (nat_cmp k.number m.number)) (ap (λ p. slice_cmp nat_cmp p (get_or paths m.path [])) same ∙ self_equal nat_list_cmp_total (get_or paths m.path [])) ∙ less
line_less_by paths k m Greater e up high less = let no : ⊥ = cc in absurd no

line_less : (paths : List (List ℕ)) (k m : Key) → IsStrictlySortedBy (slice_cmp nat_cmp) paths → HasPath paths m → key_cmp k m ≡ Less → line_cmp (line_at paths k) (line_at paths m) ≡ Less
line_less paths k m up high less = line_less_by paths k m (nat_cmp k.path m.path) refl up high less

all_less : (paths : List (List ℕ)) (k : Key) (keys : List Key) → IsStrictlySortedBy (slice_cmp nat_cmp) paths → AllByRecursion (HasPath paths) keys → AllByRecursion (λ m. key_cmp k m ≡ Less) keys
    → AllByRecursion (λ l. line_cmp (line_at paths k) l ≡ Less) (map (line_at paths) keys)
all_less paths k [] up have less = tt
all_less paths k (m ∷ keys) up have less = (line_less paths k m up have.0 less.0, all_less paths k keys up have.1 less.1)

sorted_nothing : IsStrictlySortedBy line_cmp []
unfolding IsStrictlySortedBy
sorted_nothing = tt

sorted_more : (l : Line) (ls : List Line) → AllByRecursion (λ m. line_cmp l m ≡ Less) ls → IsStrictlySortedBy line_cmp ls → IsStrictlySortedBy line_cmp (l ∷ ls)
unfolding IsStrictlySortedBy
sorted_more l ls less up = (less, up)

-- lines are in the order of their keys
pub lines_in_order : (paths : List (List ℕ)) (keys : List Key) → IsStrictlySortedBy (slice_cmp nat_cmp) paths → AllByRecursion (HasPath paths) keys → IsStrictlySortedBy key_cmp keys → IsStrictlySortedBy line_cmp (map (line_at paths) keys)
lines_in_order paths [] up have sorted = sorted_nothing
lines_in_order paths (k ∷ keys) up have sorted = sorted_more (line_at paths k) (map (line_at paths) keys) (all_less paths k keys up have.1 (sorted_head key_cmp k keys sorted)) (lines_in_order paths keys up have.1 (sorted_tail key_cmp k keys sorted))

line_self : (l : Line) → line_cmp l l ≡ Equal
line_self l = ap (λ r. ordering_then r (nat_cmp l.number l.number)) (self_equal nat_list_cmp_total l.path) ∙ self_equal nat_cmp_total l.number

not_twice : (lines : List Line) (j k : ℕ) (l : Line) → IsStrictlySortedBy line_cmp lines → slice_get lines j ≡ Some l → slice_get lines k ≡ Some l → j < k → ⊥
not_twice lines j k l up one two lt =
    let less = Less-from_sorted line_cmp lines j k l up lt (slice_get_within lines k l two) in
    let first = get_or_from_slice_get lines j l l one in
    let second = get_or_from_slice_get lines k l l two in
    let twice : line_cmp l l ≡ Less = ap (λ m. line_cmp m l) (sym first) ∙ ap (λ m. line_cmp (get_or lines j l) m) (sym second) ∙ less in
    let same = line_self l in
    let no : Less ≡ Equal = sym twice ∙ same in
    cc

-- a line stands once
pub one_place : (lines : List Line) (j k : ℕ) (l : Line) → IsStrictlySortedBy line_cmp lines → slice_get lines j ≡ Some l → slice_get lines k ≡ Some l → j ≡ k
one_place lines j k l up one two =
    ⊎_elim
    (λ lt. absurd (not_twice lines j k l up one two lt))
    (λ ge. ⊎_elim (λ lt. absurd (not_twice lines k j l up two one lt)) (λ le. let e : j ≡ k = omega arith in e) (cases_lt k j))
    (cases_lt j k)
