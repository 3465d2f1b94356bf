-- Lines by name: what a search among keys and one among paths tell of the first line that passes.
use Rattle.std.proofs.Common.{◌≡◌, ℕ, zero, suc, ◌+◌, ◌<◌, ⊎_elim, Bool, true, false, not, ◌&&◌, List, [], ◌∷◌, length, map, get_or, Some, None, Result, Err, All, Contains, cond, nat_lt, ◌==◌, bytes_eq, refl, sym, ap, ap₂, ◌∙◌, subst, arith}
use Rattle.std.specs.declared.cmp.Ordering.TheVariants.{Less, Equal}
use Rattle.std.specs.Ordering.{nat_cmp, is_eq}
use Rattle.std.specs.Cmp.Lexicographic.{slice_cmp, nat_list_cmp_total}
use Rattle.std.specs.List.{AllByRecursion, position, position_from, position_or_len, prefix_len}
use Rattle.std.specs.List.Sorted.{IsStrictlySortedBy, IsBinarySearchResult}
use Rattle.std.specs.Global.{Vec}
use Rattle.std.specs.FinMap.{slice_cmp-IsAntisymmetric, nat_cmp-IsAntisymmetric}
use Rattle.std.proofs.lemmas.Bool.{eqb-true, eq-eqb, lt-ltb, cases_lt, and_from, and_parts, false_from_ne_true}
use Rattle.std.proofs.lemmas.Bool.Decides.{nat_tests}
use Rattle.std.proofs.lemmas.Iterator.Adapters.{position_from-zero}
use Rattle.std.proofs.lemmas.List.{length-map, get_or-map}
use Rattle.std.proofs.lemmas.List.Elements.{All-from_recursion, All-get_or, recursion_from_All}
use Rattle.std.proofs.lemmas.List.Sums.{position_or_len_is}
use Rattle.std.proofs.lemmas.Map.Keys.{Less-from_sorted}
use Rattle.std.proofs.lemmas.Slice.Eq.{bytes_eq-Decides}
use Rattle.line_index.specs.declared.lines.Key.{Key}
use Rattle.line_index.specs.Lines.{is_line_named}
use Rattle.line_index.specs.Keys.{HasPath, is_key, key_cmp, path_cmp, texts, with_path}
use Rattle.line_index.specs.Index.{line_at}
use Rattle.line_index.proofs.Order.{self_equal}
use Rattle.line_index.proofs.Distinct.{key_total, key_same}
use Rattle.line_index.proofs.Found.{path_not_missed}
use Rattle.line_index.proofs.Pieces.{to_among, among_mapped}

-- ---- first places

pub position_is : {X : Type 0} (p : X → Bool) (xs : List X) (i : ℕ) (d : X) → i < length xs → p (get_or xs i d) ≡ true → ((k : ℕ) → k < i → p (get_or xs k d) ≡ false) → position p xs ≡ Some i
position_is p xs i d lt at before =
    ap (λ n. cond (nat_lt n (length xs)) (Some n) None) (position_or_len_is p xs i d (omega arith) before (λ _. at))
    ∙ ap (λ t. cond t (Some i) None) (lt-ltb i (length xs) lt)

not_below_itself : (n : ℕ) → nat_lt n n ≡ false
not_below_itself n = grind (arith, nat_tests)

pub position_none : {X : Type 0} (p : X → Bool) (xs : List X) (d : X) → ((k : ℕ) → k < length xs → p (get_or xs k d) ≡ false) → position p xs ≡ None
position_none p xs d none =
    ap (λ n. cond (nat_lt n (length xs)) (Some n) None) (position_or_len_is p xs (length xs) d (omega arith) none (λ lt. absurd (omega arith)))
    ∙ ap (λ t. cond t (Some (length xs)) None) (not_below_itself (length xs))

none_by : {X : Type 0} (p : X → Bool) (i : ℕ) (x : X) (xs : List X) (t : Bool) → p x ≡ t → (position_from p (i + 1) xs ≡ None → AllByRecursion (λ x. p x ≡ false) xs) → cond t (Some i) (position_from p (i + 1) xs) ≡ None → (p x ≡ false) × AllByRecursion (λ x. p x ≡ false) xs
none_by p i x xs true e more none = let no : ⊥ = cc in absurd no
none_by p i x xs false e more none = (e, more none)

none_from : {X : Type 0} (p : X → Bool) (i : ℕ) (xs : List X) → position_from p i xs ≡ None → AllByRecursion (λ x. p x ≡ false) xs
none_from p i [] e = tt
none_from p i (x ∷ xs) e = none_by p i x xs (p x) refl (none_from p (i + 1) xs) e

pub none_passes : {X : Type 0} (p : X → Bool) (xs : List X) → position p xs ≡ None → All (λ x. p x ≡ false) xs
none_passes p xs e = All-from_recursion (λ x. p x ≡ false) xs (none_from p 0 xs (sym (position_from-zero p xs) ∙ e))

prefix_same : {X : Type 0} (p q : X → Bool) (xs : List X) → AllByRecursion (λ x. p x ≡ q x) xs → prefix_len (λ x. not (p x)) xs ≡ prefix_len (λ x. not (q x)) xs
prefix_same p q [] all = refl
prefix_same p q (x ∷ xs) all = ap₂ (λ t n. cond (not t) (1 + n) 0) all.0 (prefix_same p q xs all.1)

position_same : {X : Type 0} (p q : X → Bool) (xs : List X) → AllByRecursion (λ x. p x ≡ q x) xs → position p xs ≡ position q xs
position_same p q xs all = ap (λ n. cond (nat_lt n (length xs)) (Some n) None) (prefix_same p q xs all)

prefix_len-map : {X Y : Type 0} (p : Y → Bool) (f : X → Y) (xs : List X) → prefix_len p (map f xs) ≡ prefix_len (λ x. p (f x)) xs
prefix_len-map p f [] = refl
prefix_len-map p f (x ∷ xs) = ap (λ n. cond (p (f x)) (1 + n) 0) (prefix_len-map p f xs)

-- a list's first place that passes, after each element was mapped
pub position-map : {X Y : Type 0} (p : Y → Bool) (f : X → Y) (xs : List X) → position p (map f xs) ≡ position (λ x. p (f x)) xs
position-map p f xs =
    ap (λ n. cond (nat_lt n (length (map f xs))) (Some n) None) (prefix_len-map (λ y. not (p y)) f xs)
    ∙ ap (λ m. cond (nat_lt (position_or_len (λ x. p (f x)) xs) m) (Some (position_or_len (λ x. p (f x)) xs)) None) (length-map xs f)

-- ---- keys

pub is_key_true : (key other : Key) → is_key key other ≡ true → other ≡ key
is_key_true key other e =
    let parts = and_parts (other.number == key.number) (other.path == key.path) e in
    let number = eqb-true other.number key.number parts.0 in
    let path = eqb-true other.path key.path parts.1 in
    λ i. record { path = path i; number = number i }

pub true_is_key : (key : Key) → is_key key key ≡ true
true_is_key key = and_from (key.number == key.number) (key.path == key.path) (eq-eqb key.number key.number refl) (eq-eqb key.path key.path refl)

same_key : (key other : Key) → key_cmp other key ≡ Equal → other ≡ key
same_key key other e = key_same other key (ap is_eq e)

not_earlier : (keys : List Key) (key : Key) (i k : ℕ) → IsStrictlySortedBy key_cmp keys → i < length keys → k < i → get_or keys i key ≡ key → get_or keys k key ≡ key → ⊥
not_earlier keys key i k up within lt here there =
    let less = Less-from_sorted key_cmp keys k i key up lt within in
    let twice : key_cmp key key ≡ Less = ap (λ m. key_cmp m key) (sym there) ∙ ap (λ m. key_cmp (get_or keys k key) m) (sym here) ∙ less in
    let same = self_equal key_total key in
    let no : Less ≡ Equal = sym twice ∙ same in
    cc

pub key_found : (keys : List Key) (key : Key) (i : ℕ) → IsStrictlySortedBy key_cmp keys → i < length keys → key_cmp (get_or keys i key) key ≡ Equal → position (is_key key) keys ≡ Some i
key_found keys key i up lt e =
    let here = same_key key (get_or keys i key) e in
    position_is (is_key key) keys i key lt (ap (is_key key) here ∙ true_is_key key)
    (λ k less. false_from_ne_true (is_key key (get_or keys k key)) (λ passes. not_earlier keys key i k up lt less here (is_key_true key (get_or keys k key) passes)))

pub key_missing : (keys : List Key) (key : Key) → (Contains keys key → ⊥) → position (is_key key) keys ≡ None
key_missing keys key never =
    position_none (is_key key) keys key (λ k lt. false_from_ne_true (is_key key (get_or keys k key)) (λ passes. never (k, lt, is_key_true key (get_or keys k key) passes)))

-- ---- a path and a number

path_not_twice : (paths : List (List ℕ)) (j k : ℕ) → IsStrictlySortedBy (slice_cmp nat_cmp) paths → k < length paths → j < k → get_or paths j [] ≡ get_or paths k [] → ⊥
path_not_twice paths j k up within lt e =
    let less = Less-from_sorted (slice_cmp nat_cmp) paths j k [] up lt within in
    let twice = ap (λ text. slice_cmp nat_cmp text (get_or paths k [])) (sym e) ∙ less in
    let same = self_equal nat_list_cmp_total (get_or paths k []) in
    let no : Less ≡ Equal = sym twice ∙ same in
    cc

one_path : (paths : List (List ℕ)) (j k : ℕ) → IsStrictlySortedBy (slice_cmp nat_cmp) paths → j < length paths → k < length paths → get_or paths j [] ≡ get_or paths k [] → j ≡ k
one_path paths j k up first second e =
    ⊎_elim
    (λ lt. absurd (path_not_twice paths j k up second lt e))
    (λ ge. ⊎_elim (λ lt. absurd (path_not_twice paths k j up first lt (sym e))) (λ le. let same : j ≡ k = omega arith in same) (cases_lt k j))
    (cases_lt j k)

path_test : (paths : List (List ℕ)) (text : List ℕ) (j k : ℕ) → IsStrictlySortedBy (slice_cmp nat_cmp) paths → j < length paths → k < length paths → get_or paths k [] ≡ text → (j == k) ≡ bytes_eq (get_or paths j []) text
path_test paths text j k up first second at = by (j == k) refl
  where
    by : (t : Bool) → (j == k) ≡ t → t ≡ bytes_eq (get_or paths j []) text
    by true e = sym ((bytes_eq-Decides (get_or paths j []) text).1 (ap (λ i. get_or paths i []) (eqb-true j k e) ∙ at))
    by false e = sym (false_from_ne_true (bytes_eq (get_or paths j []) text) (λ same.
        let one = one_path paths j k up first second ((bytes_eq-Decides (get_or paths j []) text).0 same ∙ sym at) in
        let no : true ≡ false = sym (eq-eqb j k one) ∙ e in
        cc))

-- the keys of a path and a number are the lines of its text
pub text_line : (paths : List (List ℕ)) (keys : List Key) (text : List ℕ) (k number : ℕ) → IsStrictlySortedBy (slice_cmp nat_cmp) paths → All (HasPath paths) keys → k < length paths → get_or paths k [] ≡ text
    → position (is_key (with_path number k)) keys ≡ position (is_line_named text number) (map (line_at paths) keys)
text_line paths keys text k number up have within at =
    position_same (is_key (with_path number k)) (λ key. is_line_named text number (line_at paths key)) keys (tests keys (recursion_from_All (HasPath paths) keys have))
    ∙ sym (position-map (is_line_named text number) (line_at paths) keys)
  where
    tests : (keys : List Key) → AllByRecursion (HasPath paths) keys → AllByRecursion (λ key. is_key (with_path number k) key ≡ is_line_named text number (line_at paths key)) keys
    tests [] have = tt
    tests (key ∷ keys) have = (ap (λ t. (key.number == number) && t) (path_test paths text key.path k up have.0 within at), tests keys have.1)

default_path : (paths : List (List ℕ)) (k : ℕ) (text : List ℕ) → k < length paths → get_or paths k [] ≡ text → get_or paths k text ≡ text
default_path [] k text lt e = absurd (omega arith)
default_path (path ∷ paths) zero text lt e = e
default_path (path ∷ paths) (suc k) text lt e = default_path paths k text (omega arith) e

pub no_text_line : (paths : List (List ℕ)) (keys : List Key) (text : List ℕ) (number : ℕ) → All (HasPath paths) keys → (Contains paths text → ⊥) → position (is_line_named text number) (map (line_at paths) keys) ≡ None
no_text_line paths keys text number have never =
    let none : Key = with_path 0 0 in
    position-map (is_line_named text number) (line_at paths) keys
    ∙ position_none (λ key. is_line_named text number (line_at paths key)) keys none
    (λ k lt. false_from_ne_true (is_line_named text number (line_at paths (get_or keys k none))) (λ passes.
    let key : Key = get_or keys k none in
    let parts = and_parts (key.number == number) (bytes_eq (get_or paths key.path []) text) passes in
    let within : HasPath paths key = All-get_or (HasPath paths) keys k none lt have in
    never (key.path, within, default_path paths key.path text within ((bytes_eq-Decides (get_or paths key.path []) text).0 parts.1))))

-- ---- paths as they lie in memory

pub path_at : (paths : List (Vec ℕ)) (i : ℕ) (text : List ℕ) → i < length paths → ((d : Vec ℕ) → slice_cmp nat_cmp (get_or paths i d).items text ≡ Equal) → get_or (texts paths) i [] ≡ text
path_at [] i text lt equal = absurd (omega arith)
path_at (path ∷ paths) i text lt equal =
    get_or-map (λ (path : Vec ℕ). path.items) (path ∷ paths) i path [] lt
    ∙ slice_cmp-IsAntisymmetric nat_cmp-IsAntisymmetric (get_or (path ∷ paths) i path).items text (equal path)

-- a path that is there is found
pub text_not_missed : (paths : List (Vec ℕ)) (text : List ℕ) (r : Result ℕ ℕ) (i : ℕ) → IsStrictlySortedBy path_cmp paths → Contains (texts paths) text → IsBinarySearchResult (λ (other : Vec ℕ). slice_cmp nat_cmp other.items text) paths r → r ≡ Err i → ⊥
text_not_missed paths text r i up one found e =
    let mapped = among_mapped (λ (path : Vec ℕ). path.items) text paths (to_among text (texts paths) one.0 one.1 one.2) in
    path_not_missed paths mapped.0 text r i up one mapped.2 (subst (λ t. IsBinarySearchResult (λ (other : Vec ℕ). slice_cmp nat_cmp other.items t) paths r) (sym mapped.2) found) e

-- the path that was looked at
pub text_read : (paths : List (Vec ℕ)) (i : ℕ) (path : Vec ℕ) (text : List ℕ) → i < length paths → text ≡ path.items → path ≡ get_or paths i path → get_or (texts paths) i [] ≡ text
text_read paths i path text lt is at = get_or-map (λ (path : Vec ℕ). path.items) paths i path [] lt ∙ ap (λ (path : Vec ℕ). path.items) (sym at) ∙ sym is
