-- Sorted lists without repeats.
use Rattle.std.proofs.Common.{◌≡◌, ℕ, ◌+◌, ◌&&◌, Bool, true, false, List, [], ◌∷◌, ◌++◌, take, Ordering, length, map, get_or, Contains, Any, All, ◌↔◌, ◌<◌, ◌==◌, nat_eq, refl, sym, ap, ap₂, ◌∙◌, subst}
use Rattle.std.specs.Global.{Vec}
use Rattle.std.specs.declared.cmp.Ordering.TheVariants.{Less, Equal, Greater}
use Rattle.std.specs.Ordering.{nat_cmp, ordering_then, eq_by_cmp, is_eq}
use Rattle.std.specs.Cmp.{IsTotalOrder, nat_cmp_total, on_total, then_total, eq_by_cmp_equiv, both_tied, unsigned_ties}
use Rattle.std.specs.Cmp.Lexicographic.{slice_cmp, nat_list_cmp_total, texts_ties, pointwise}
use Rattle.std.specs.List.{dedup}
use Rattle.std.specs.List.Retain.{IsFiltered, DiffersFromLast}
use Rattle.std.specs.List.Sorted.{IsSorted, IsPermutation, IsStrictlySortedBy}
use Rattle.std.proofs.lemmas.List.Filters.{dedup_is}
use Rattle.std.proofs.lemmas.List.Kept.{IsStrictlySortedBy-dedup, Any-dedup, Contains-from_dedup}
use Rattle.std.proofs.lemmas.List.Sorted.{Contains-permutation, IsPermutation-sym}
use Rattle.std.specs.FinMap.{slice_cmp-IsAntisymmetric, nat_cmp-IsAntisymmetric}
use Rattle.std.proofs.lemmas.Bool.{eqb-true}
use Rattle.std.proofs.lemmas.List.{length-map, get_or-map, map-append, take_more}
use Rattle.std.proofs.lemmas.List.Elements.{All-contains_itself, All-from_get_or, All-weaker, Contains-get_or}
use Rattle.line_index.specs.declared.entry.Entry.{Entry}
use Rattle.dwarf_lines.specs.Registers.{File}
use Rattle.line_index.specs.Lines.{path}
use Rattle.line_index.proofs.Pieces.{Among, to_among, from_among, among_map, among_mapped}
use Rattle.line_index.specs.declared.lines.Key.{Key}
use Rattle.line_index.specs.Keys.{entries_view, entry_cmp, entry_view, key_cmp, path_cmp, texts}

pub key_total : IsTotalOrder key_cmp
key_total = then_total (on_total (λ (k : Key). k.path) nat_cmp_total) (on_total (λ (k : Key). k.number) nat_cmp_total)

pub path_total : IsTotalOrder path_cmp
path_total = on_total (λ (path : Vec ℕ). path.items) nat_list_cmp_total

-- what a list of distinct elements in order keeps of another
pub record IsDistinctOf {K : Type 0} (R : K → K → Ordering) (xs ys : List K) : Type 0 where
  pub in_order : IsStrictlySortedBy R ys
  pub kept : (x : K) → Contains xs x → Any (λ y. eq_by_cmp R x y ≡ true) ys
  pub from : (x : K) → Contains ys x → Contains xs x

pub distinct : {K : Type 0} {R : K → K → Ordering} (o : IsTotalOrder R) (E : K → K → Bool) (ties : (x y : K) → E x y ≡ eq_by_cmp R x y) (xs zs ys : List K) → IsPermutation xs zs → IsSorted R zs → IsFiltered (DiffersFromLast E) [] zs ys → IsDistinctOf R xs ys
distinct {R = R} o E ties xs zs ys moved sorted filtered =
    let is : ys ≡ dedup E zs = dedup_is E zs ys filtered in
    let same : E ≡ eq_by_cmp R = λ i x y. ties x y i in
    record {
      in_order = subst (IsStrictlySortedBy R) (sym is) (IsStrictlySortedBy-dedup o ties zs sorted);
      kept = λ x h. subst (λ ys. Any (λ y. eq_by_cmp R x y ≡ true) ys) (ap (λ F. dedup F zs) (sym same) ∙ sym is) (Any-dedup (eq_by_cmp_equiv o) zs x (Contains-permutation xs zs x moved h));
      from = λ x h. Contains-permutation zs xs x (IsPermutation-sym xs zs moved) (Contains-from_dedup E zs x (subst (λ ys. Contains ys x) is h));
    }

equal_by : (r : Ordering) → is_eq r ≡ true → r ≡ Equal
equal_by Less e = let no : ⊥ = cc in absurd no
equal_by Equal e = refl
equal_by Greater e = let no : ⊥ = cc in absurd no

-- ---- keys

pub key_ties : (k m : Key) → ((k.path == m.path) && (k.number == m.number)) ≡ eq_by_cmp key_cmp k m
key_ties k m = both_tied (k.path == m.path) (k.number == m.number) (nat_cmp k.path m.path) (nat_cmp k.number m.number) (unsigned_ties k.path m.path) (unsigned_ties k.number m.number)

both_true : (s t : Bool) → (s && t) ≡ true → (s ≡ true) × (t ≡ true)
both_true true t e = (refl, e)
both_true false t e = let no : ⊥ = cc in absurd no

pub key_same : (k m : Key) → eq_by_cmp key_cmp k m ≡ true → k ≡ m
key_same k m e =
    let both = both_true (k.path == m.path) (k.number == m.number) (key_ties k m ∙ e) in
    let path = eqb-true k.path m.path both.0 in
    let number = eqb-true k.number m.number both.1 in
    λ i. record { path = path i; number = number i }

pub keys_kept : (xs ys : List Key) → IsDistinctOf key_cmp xs ys → (key : Key) → Contains ys key ↔ Contains xs key
keys_kept xs ys h key = (
  h.from key,
  λ one. let there = h.kept key one in subst (Contains ys) (sym (key_same key there.1 there.4)) (there.0, there.2, there.3),
)

-- ---- paths

pub path_ties : (v w : Vec ℕ) → pointwise nat_eq v.items w.items ≡ eq_by_cmp path_cmp v w
path_ties v w = texts_ties v.items w.items

path_same : (v w : Vec ℕ) → eq_by_cmp path_cmp v w ≡ true → v.items ≡ w.items
path_same v w e = slice_cmp-IsAntisymmetric nat_cmp-IsAntisymmetric v.items w.items (equal_by (path_cmp v w) e)

text_kept : (xs ys : List (Vec ℕ)) → IsDistinctOf path_cmp xs ys → (text : List ℕ) → Contains (texts xs) text → Contains (texts ys) text
text_kept xs ys h text one =
    let mapped = among_mapped (λ (path : Vec ℕ). path.items) text xs (to_among text (texts xs) one.0 one.1 one.2) in
    let there = h.kept mapped.0 (from_among mapped.0 xs mapped.1) in
    let among = among_map (λ (path : Vec ℕ). path.items) there.1 ys (to_among there.1 ys there.0 there.2 there.3) in
    from_among text (texts ys) (subst (λ t. Among t (texts ys)) (sym (path_same mapped.0 there.1 there.4) ∙ mapped.2) among)

pub paths_kept : (files : List File) (xs ys : List (Vec ℕ)) → texts xs ≡ map path files → IsDistinctOf path_cmp xs ys → All (λ (file : File). Contains (texts ys) (path file)) files
paths_kept files xs ys e h =
    let none : File = record { directory = []; name = [] } in
    All-from_get_or (λ (file : File). Contains (texts ys) (path file)) files none
    (λ i lt.
    let within : i < length (map path files) = subst (λ n. i < n) (sym (length-map files path)) lt in
    let one : Contains (map path files) (get_or (map path files) i []) = Contains-get_or (map path files) i [] within in
    let of_file : Contains (map path files) (path (get_or files i none)) = subst (Contains (map path files)) (get_or-map path files i none [] lt) one in
    text_kept xs ys h (path (get_or files i none)) (subst (λ ts. Contains ts (path (get_or files i none))) (sym e) of_file))

-- one more path
pub paths_more : (paths : List (Vec ℕ)) (written : Vec ℕ) (files : List Entry) (i : ℕ) (d : Entry) → i < length files → texts paths ≡ map path (entries_view (take i files)) → written.items ≡ path (entry_view (get_or files i d))
    → texts (paths ++ written ∷ []) ≡ map path (entries_view (take (i + 1) files))
paths_more paths written files i d lt so_far is =
    map-append (λ (text : Vec ℕ). text.items) paths (written ∷ [])
    ∙ ap₂ (λ (ts : List (List ℕ)) (t : List ℕ). ts ++ t ∷ []) so_far is
    ∙ sym (map-append path (entries_view (take i files)) (entry_view (get_or files i d) ∷ []))
    ∙ ap (map path) (sym (map-append entry_view (take i files) (get_or files i d ∷ [])))
    ∙ ap (λ (fs : List Entry). map path (entries_view fs)) (sym (take_more files i d lt))

-- ---- entries

pub entry_total : IsTotalOrder entry_cmp
entry_total = then_total (on_total (λ (entry : Entry). entry.name.now) nat_list_cmp_total) (on_total (λ (entry : Entry). entry.directory.now) nat_list_cmp_total)

pub entry_ties : (e f : Entry) → (pointwise nat_eq e.name.now f.name.now && pointwise nat_eq e.directory.now f.directory.now) ≡ eq_by_cmp entry_cmp e f
entry_ties e f =
    both_tied (pointwise nat_eq e.name.now f.name.now) (pointwise nat_eq e.directory.now f.directory.now) (slice_cmp nat_cmp e.name.now f.name.now) (slice_cmp nat_cmp e.directory.now f.directory.now) (texts_ties e.name.now f.name.now) (texts_ties e.directory.now f.directory.now)

same_entry_by : (e f : Entry) (r : Ordering) → slice_cmp nat_cmp e.name.now f.name.now ≡ r → ordering_then r (slice_cmp nat_cmp e.directory.now f.directory.now) ≡ Equal → entry_view e ≡ entry_view f
same_entry_by e f Less name is = let no : ⊥ = cc in absurd no
same_entry_by e f Equal name is =
    let names = slice_cmp-IsAntisymmetric nat_cmp-IsAntisymmetric e.name.now f.name.now name in
    let directories = slice_cmp-IsAntisymmetric nat_cmp-IsAntisymmetric e.directory.now f.directory.now is in
    λ i. record { directory = directories i; name = names i }
same_entry_by e f Greater name is = let no : ⊥ = cc in absurd no

-- entries that are equal are of one file
pub same_entry : (e f : Entry) → entry_cmp e f ≡ Equal → entry_view e ≡ entry_view f
same_entry e f is = same_entry_by e f (slice_cmp nat_cmp e.name.now f.name.now) refl is

entry_kept : (xs ys : List Entry) → IsDistinctOf entry_cmp xs ys → (file : File) → Contains (entries_view xs) file → Contains (entries_view ys) file
entry_kept xs ys h file one =
    let mapped = among_mapped entry_view file xs (to_among file (entries_view xs) one.0 one.1 one.2) in
    let there = h.kept mapped.0 (from_among mapped.0 xs mapped.1) in
    let among = among_map entry_view there.1 ys (to_among there.1 ys there.0 there.2 there.3) in
    from_among file (entries_view ys) (subst (λ f. Among f (entries_view ys)) (sym (same_entry mapped.0 there.1 (equal_by (entry_cmp mapped.0 there.1) there.4)) ∙ mapped.2) among)

pub entries_kept : (files : List File) (xs ys : List Entry) → entries_view xs ≡ files → IsDistinctOf entry_cmp xs ys → All (Contains (entries_view ys)) files
entries_kept files xs ys e h = subst (All (Contains (entries_view ys))) e (All-weaker (Contains (entries_view xs)) (Contains (entries_view ys)) (entry_kept xs ys h) (entries_view xs) (All-contains_itself (entries_view xs)))
