-- What is built is the index of the table and the areas.
use Rattle.std.proofs.Common.{◌≡◌, ◌≢◌, ℕ, zero, suc, ◌<◌, ◌⊎◌, inl, inr, ◌↔◌, Bool, true, false, List, [], ◌∷◌, length, map, Option, Some, None, cond, option_map, option_and_then, slice_get, Contains, refl, sym, ap, ◌∙◌, subst, arith, ◌==◌, eqb}
use Rattle.std.specs.Ordering.{nat_cmp}
use Rattle.std.specs.Cmp.Lexicographic.{slice_cmp}
use Rattle.std.specs.List.{position_from, AllByRecursion}
use Rattle.std.specs.List.Sorted.{IsStrictlySortedBy}
use Rattle.std.proofs.lemmas.Bool.{eqb-true}
use Rattle.std.proofs.lemmas.Bool.Decides.{nat_tests}
use Rattle.std.proofs.lemmas.List.{length-map}
use Rattle.std.proofs.lemmas.Option.{slice_get-map, slice_get_within, get_or_from_slice_get}
use Rattle.coz_types.specs.declared.image.Area.{Area}
use Rattle.dwarf_lines.specs.declared.Row.{Row}
use Rattle.dwarf_lines.specs.Registers.{File, Table}
use Rattle.line_index.specs.declared.changes.Change.{Change}
use Rattle.line_index.specs.declared.lines.Key.{Key}
use Rattle.line_index.specs.Changes.{value_at, IsRising, is_in_span}
use Rattle.line_index.specs.Lines.{Line, path, entry_path, line_with, first_covering, line_of_row, is_executable, line_of, Begins, line_cmp}
use Rattle.line_index.specs.Spans.{row_spans}
use Rattle.line_index.specs.Keys.{HasPath, key_cmp, row_key, with_path, key_at, change_keys, key_change, line_change, is_at, starts, AreStarts}
use Rattle.line_index.specs.Index.{IsIndex, AreEntries, line_at}
use Rattle.line_index.proofs.Covering.{covering}
use Rattle.line_index.proofs.Pieces.{Among, to_among, from_among, among_map, among_mapped, same_rising, same_values, found_where, said_by}
use Rattle.line_index.proofs.Beginnings.{StartsAt, right_before, starts_increase, starts_are, are_starts}
use Rattle.line_index.proofs.Order.{lines_in_order, one_place}

-- what building found
pub record Built (files : List File) (rows : List Row) (areas : List Area) (paths : List (List ℕ)) (positions : List (Option ℕ)) (keys : List Key) (changes lines : List Change) : Type 0 where
  pub paths_rise : IsStrictlySortedBy (slice_cmp nat_cmp) paths
  pub placed : map (option_map (slice_get paths)) positions ≡ map (λ (file : File). option_map Some (entry_path file)) files
  pub values : (a : ℕ) → value_at a None changes ≡ cond (is_executable areas a) (position_from (is_in_span a) 0 (row_spans rows)) None
  pub rise : IsRising 0 changes
  pub keys_rise : IsStrictlySortedBy key_cmp keys
  pub each : (key : Key) → Contains keys key ↔ Contains (change_keys rows positions changes) key
  pub lined : map (line_change keys) lines ≡ map (key_change rows positions) changes

-- ---- the line of a row

same_path : (paths : List (List ℕ)) (number place : ℕ) (path : List ℕ) → Some (slice_get paths place) ≡ Some (Some path) → Some (line_at paths (with_path number place)) ≡ Some (line_with number path)
same_path paths number place path e =
    let found : slice_get paths place ≡ Some path = cc in
    ap (λ p. Some (line_with number p)) (get_or_from_slice_get paths place path [] found)

entry_line : (paths : List (List ℕ)) (number : ℕ) (position : Option ℕ) (entry : Option (List ℕ)) → option_map (slice_get paths) position ≡ option_map Some entry
    → option_map (line_at paths) (option_map (with_path number) position) ≡ option_map (line_with number) entry
entry_line paths number None None e = refl
entry_line paths number None (Some path) e = let no : ⊥ = cc in absurd no
entry_line paths number (Some place) None e = let no : ⊥ = cc in absurd no
entry_line paths number (Some place) (Some path) e = same_path paths number place path e

file_line : (paths : List (List ℕ)) (number : ℕ) (position : Option (Option ℕ)) (file : Option File) → option_map (option_map (slice_get paths)) position ≡ option_map (λ (file : File). option_map Some (entry_path file)) file
    → option_map (line_at paths) (option_and_then (λ rank. option_map (with_path number) rank) position) ≡ option_and_then (λ file. option_map (line_with number) (entry_path file)) file
file_line paths number None None e = refl
file_line paths number None (Some file) e = let no : ⊥ = cc in absurd no
file_line paths number (Some position) None e = let no : ⊥ = cc in absurd no
file_line paths number (Some position) (Some file) e =
    let same : option_map (slice_get paths) position ≡ option_map Some (entry_path file) = cc in
    entry_line paths number position (entry_path file) same

row_line_by : (paths : List (List ℕ)) (positions : List (Option ℕ)) (files : List File) (number : ℕ) (zero_line : Bool) (file : Option ℕ) → map (option_map (slice_get paths)) positions ≡ map (λ (file : File). option_map Some (entry_path file)) files
    → option_map (line_at paths) (cond zero_line None (option_and_then (λ k. option_and_then (λ rank. option_map (with_path number) rank) (slice_get positions k)) file)) ≡ cond zero_line None (option_and_then (λ k. option_and_then (λ file. option_map (line_with number) (entry_path file)) (slice_get files k)) file)
row_line_by paths positions files number true file e = refl
row_line_by paths positions files number false None e = refl
row_line_by paths positions files number false (Some k) e =
    file_line paths number (slice_get positions k) (slice_get files k) (sym (slice_get-map (option_map (slice_get paths)) positions k) ∙ ap (λ places. slice_get places k) e ∙ slice_get-map (λ (file : File). option_map Some (entry_path file)) files k)

row_line : (paths : List (List ℕ)) (positions : List (Option ℕ)) (files : List File) (row : Row) → map (option_map (slice_get paths)) positions ≡ map (λ (file : File). option_map Some (entry_path file)) files
    → option_map (line_at paths) (row_key positions row) ≡ line_of_row files row
row_line paths positions files row e = row_line_by paths positions files row.line (row.line == 0) row.file e

-- ---- the line of an address

chained : (rows : List Row) (positions : List (Option ℕ)) (place : Option ℕ) → key_at rows positions place ≡ option_and_then (row_key positions) (option_and_then (slice_get rows) place)
chained rows positions None = refl
chained rows positions (Some k) = refl

lines_of : (paths : List (List ℕ)) (positions : List (Option ℕ)) (files : List File) (row : Option Row) → map (option_map (slice_get paths)) positions ≡ map (λ (file : File). option_map Some (entry_path file)) files
    → option_map (line_at paths) (option_and_then (row_key positions) row) ≡ option_and_then (line_of_row files) row
lines_of paths positions files None e = refl
lines_of paths positions files (Some row) e = row_line paths positions files row e

inside : (rows : List Row) (positions : List (Option ℕ)) (paths : List (List ℕ)) (t : Bool) (place : Option ℕ) (line : Option Line) → option_map (line_at paths) (key_at rows positions place) ≡ line
    → option_map (line_at paths) (key_at rows positions (cond t place None)) ≡ cond t line None
inside rows positions paths true place line e = e
inside rows positions paths false place line e = refl

pub line_is : (table : Table) (areas : List Area) (paths : List (List ℕ)) (positions : List (Option ℕ)) (keys : List Key) (changes lines : List Change) (a : ℕ) → Built table.files table.rows areas paths positions keys changes lines
    → option_map (line_at paths) (key_at table.rows positions (value_at a None changes)) ≡ line_of table areas a
unfolding line_of
line_is table areas paths positions keys changes lines a built =
    let row : option_and_then (slice_get table.rows) (position_from (is_in_span a) 0 (row_spans table.rows)) ≡ first_covering a table.rows = covering a table.rows in
    let here : option_map (line_at paths) (key_at table.rows positions (position_from (is_in_span a) 0 (row_spans table.rows))) ≡ option_and_then (line_of_row table.files) (first_covering a table.rows)
    = ap (option_map (line_at paths)) (chained table.rows positions (position_from (is_in_span a) 0 (row_spans table.rows)) ∙ ap (option_and_then (row_key positions)) row) ∙ lines_of paths positions table.files (first_covering a table.rows) built.placed in
    ap (λ place. option_map (line_at paths) (key_at table.rows positions place)) (built.values a)
    ∙ inside table.rows positions paths (is_executable areas a) (position_from (is_in_span a) 0 (row_spans table.rows)) (option_and_then (line_of_row table.files) (first_covering a table.rows)) here

-- ---- positions

through : (f : Key → Line) (keys : List Key) (v : Option ℕ) → option_map (slice_get (map f keys)) v ≡ option_map (option_map f) (option_map (slice_get keys) v)
through f keys None = refl
through f keys (Some k) = ap (λ x. Some x) (slice_get-map f keys k)

some_through : (f : Key → Line) (key : Option Key) → option_map (option_map f) (option_map Some key) ≡ option_map Some (option_map f key)
some_through f None = refl
some_through f (Some key) = refl

pub positions_are : (table : Table) (areas : List Area) (paths : List (List ℕ)) (positions : List (Option ℕ)) (keys : List Key) (changes lines : List Change) (a : ℕ) → Built table.files table.rows areas paths positions keys changes lines
    → option_map (slice_get (map (line_at paths) keys)) (value_at a None lines) ≡ option_map Some (line_of table areas a)
positions_are table areas paths positions keys changes lines a built =
    let same : option_map (slice_get keys) (value_at a None lines) ≡ option_map Some (key_at table.rows positions (value_at a None changes))
    = same_values (λ p. option_map (slice_get keys) p) (λ p. option_map Some (key_at table.rows positions p)) lines changes built.lined refl a in
    through (line_at paths) keys (value_at a None lines)
    ∙ ap (option_map (option_map (line_at paths))) same
    ∙ some_through (line_at paths) (key_at table.rows positions (value_at a None changes))
    ∙ ap (option_map Some) (line_is table areas paths positions keys changes lines a built)

-- ---- the lines in use

key_of_line : (f : Key → Line) (key : Option Key) (l : Line) → option_map f key ≡ Some l → (k : Key) × (key ≡ Some k) × (f k ≡ l)
key_of_line f None l e = let no : ⊥ = cc in absurd no
key_of_line f (Some k) l e = let same : f k ≡ l = cc in (k, refl, same)

nothing_before : (key : Key) (xs : List Key) → (None ≡ Some key) ⊎ Among key xs → Among key xs
nothing_before key xs (inl e) = let no : ⊥ = cc in absurd no
nothing_before key xs (inr h) = h

found_key : (table : Table) (areas : List Area) (paths : List (List ℕ)) (positions : List (Option ℕ)) (keys : List Key) (changes lines : List Change) (key : Key) → Built table.files table.rows areas paths positions keys changes lines
    → Among key keys → (a : ℕ) × (key_at table.rows positions (value_at a None changes) ≡ Some key)
found_key table areas paths positions keys changes lines key built h =
    let contained = from_among key keys h in
    let said = (built.each key).0 contained in
    let found = found_where (key_at table.rows positions) key 0 None changes built.rise (to_among key (change_keys table.rows positions changes) said.0 said.1 said.2) in
    (found.0, found.2)

pub used_by : (table : Table) (areas : List Area) (paths : List (List ℕ)) (positions : List (Option ℕ)) (keys : List Key) (changes lines : List Change) (l : Line) → Built table.files table.rows areas paths positions keys changes lines
    → Contains (map (line_at paths) keys) l → (a : ℕ) × (line_of table areas a ≡ Some l)
used_by table areas paths positions keys changes lines l built h =
    let mapped = among_mapped (line_at paths) l keys (to_among l (map (line_at paths) keys) h.0 h.1 h.2) in
    let found = found_key table areas paths positions keys changes lines mapped.0 built mapped.1 in
    (found.0, sym (line_is table areas paths positions keys changes lines found.0 built) ∙ ap (option_map (line_at paths)) found.1 ∙ ap (λ x. Some x) mapped.2)

pub in_use : (table : Table) (areas : List Area) (paths : List (List ℕ)) (positions : List (Option ℕ)) (keys : List Key) (changes lines : List Change) (l : Line) (a : ℕ) → Built table.files table.rows areas paths positions keys changes lines
    → line_of table areas a ≡ Some l → Contains (map (line_at paths) keys) l
in_use table areas paths positions keys changes lines l a built e =
    let key = key_of_line (line_at paths) (key_at table.rows positions (value_at a None changes)) l (line_is table areas paths positions keys changes lines a built ∙ e) in
    let said = nothing_before key.0 (change_keys table.rows positions changes) (said_by (key_at table.rows positions) key.0 a None changes key.1) in
    let one = (built.each key.0).1 (from_among key.0 (change_keys table.rows positions changes) said) in
    from_among l (map (line_at paths) keys) (subst (λ m. Among m (map (line_at paths) keys)) key.2 (among_map (line_at paths) key.0 keys (to_among key.0 keys one.0 one.1 one.2)))

-- ---- each key has its path

path_within : (paths : List (List ℕ)) (number : ℕ) (position : Option ℕ) (entry : Option (List ℕ)) (key : Key) → option_map (slice_get paths) position ≡ option_map Some entry → option_map (with_path number) position ≡ Some key → HasPath paths key
path_within paths number None entry key e is = let no : ⊥ = cc in absurd no
path_within paths number (Some place) None key e is = let no : ⊥ = cc in absurd no
path_within paths number (Some place) (Some path) key e is =
    let found : slice_get paths place ≡ Some path = cc in
    let same : with_path number place ≡ key = cc in
    subst (HasPath paths) same (slice_get_within paths place path found)

place_within : (paths : List (List ℕ)) (number : ℕ) (position : Option (Option ℕ)) (file : Option File) (key : Key) → option_map (option_map (slice_get paths)) position ≡ option_map (λ (file : File). option_map Some (entry_path file)) file
    → option_and_then (λ rank. option_map (with_path number) rank) position ≡ Some key → HasPath paths key
place_within paths number None file key e is = let no : ⊥ = cc in absurd no
place_within paths number (Some position) None key e is = let no : ⊥ = cc in absurd no
place_within paths number (Some position) (Some file) key e is =
    let same : option_map (slice_get paths) position ≡ option_map Some (entry_path file) = cc in
    path_within paths number position (entry_path file) key same is

row_within : (paths : List (List ℕ)) (positions : List (Option ℕ)) (files : List File) (number : ℕ) (zero_line : Bool) (file : Option ℕ) (key : Key) → map (option_map (slice_get paths)) positions ≡ map (λ (file : File). option_map Some (entry_path file)) files
    → cond zero_line None (option_and_then (λ k. option_and_then (λ rank. option_map (with_path number) rank) (slice_get positions k)) file) ≡ Some key → HasPath paths key
row_within paths positions files number true file key e is = let no : ⊥ = cc in absurd no
row_within paths positions files number false None key e is = let no : ⊥ = cc in absurd no
row_within paths positions files number false (Some k) key e is =
    place_within paths number (slice_get positions k) (slice_get files k) key (sym (slice_get-map (option_map (slice_get paths)) positions k) ∙ ap (λ places. slice_get places k) e ∙ slice_get-map (λ (file : File). option_map Some (entry_path file)) files k) is

key_within : (paths : List (List ℕ)) (positions : List (Option ℕ)) (files : List File) (row : Option Row) (key : Key) → map (option_map (slice_get paths)) positions ≡ map (λ (file : File). option_map Some (entry_path file)) files
    → option_and_then (row_key positions) row ≡ Some key → HasPath paths key
key_within paths positions files None key e is = let no : ⊥ = cc in absurd no
key_within paths positions files (Some row) key e is = row_within paths positions files row.line (row.line == 0) row.file key e is

pub all_among : {X : Type 0} (P : X → Type 0) (xs : List X) → ((x : X) → Among x xs → P x) → AllByRecursion P xs
all_among P [] h = tt
all_among P (x ∷ xs) h = (h x (inl refl), all_among P xs (λ y m. h y (inr m)))

-- ---- the index

is_at_some : (k : ℕ) (v : Option ℕ) → is_at k v ≡ true → v ≡ Some k
is_at_some k None e = let no : ⊥ = cc in absurd no
is_at_some k (Some j) e = ap (λ i. Some i) (eqb-true j k e)

eqb_self : (k : ℕ) → eqb k k ≡ true
eqb_self k = grind (arith, nat_tests)

some_is_at : (k : ℕ) (v : Option ℕ) → v ≡ Some k → is_at k v ≡ true
some_is_at k v e = ap (is_at k) e ∙ eqb_self k

not_at_by : (k : ℕ) (v : Option ℕ) (t : Bool) → is_at k v ≡ t → (v ≡ Some k → ⊥) → t ≡ false
not_at_by k v true e h = absurd (h (is_at_some k v e))
not_at_by k v false e h = refl

not_at : (k : ℕ) (v : Option ℕ) → (v ≡ Some k → ⊥) → is_at k v ≡ false
not_at k v h = not_at_by k v (is_at k v) refl h

some_some : (line : Option Line) (l : Line) → option_map Some line ≡ Some (Some l) → line ≡ Some l
some_some None l e = let no : ⊥ = cc in absurd no
some_some (Some m) l e = let same : m ≡ l = cc in ap (λ x. Some x) same

line_there : (lines : List Line) (v : Option ℕ) (k : ℕ) (l : Line) (line : Option Line) → option_map (slice_get lines) v ≡ option_map Some line → slice_get lines k ≡ Some l → v ≡ Some k → line ≡ Some l
line_there lines v k l line e at is = some_some line l (sym e ∙ ap (option_map (slice_get lines)) is ∙ ap (λ x. Some x) at)

place_there : (lines : List Line) (v : Option ℕ) (k : ℕ) (l : Line) (line : Option Line) → IsStrictlySortedBy line_cmp lines → option_map (slice_get lines) v ≡ option_map Some line → slice_get lines k ≡ Some l → line ≡ Some l → v ≡ Some k
place_there lines None k l line up e at is = let same : None ≡ Some (Some l) = e ∙ ap (option_map Some) is in let no : ⊥ = cc in absurd no
place_there lines (Some j) k l line up e at is =
    let same : Some (slice_get lines j) ≡ Some (Some l) = e ∙ ap (option_map Some) is in
    let here : slice_get lines j ≡ Some l = cc in
    ap (λ i. Some i) (one_place lines j k l up here at)

-- positions tell the lines of all addresses
abbrev Tells : Table → List Area → List Line → List Change → Type 0
Tells table areas lines changes = (a : ℕ) → option_map (slice_get lines) (value_at a None changes) ≡ option_map Some (line_of table areas a)

not_right_before : (table : Table) (areas : List Area) (lines : List Line) (changes : List Change) (k a b : ℕ) (l : Line) → Tells table areas lines changes → IsStrictlySortedBy line_cmp lines → slice_get lines k ≡ Some l
    → is_at k (right_before a None changes) ≡ false → suc b ≡ a → line_of table areas b ≡ Some l → ⊥
not_right_before table areas lines changes k a b l tells up at before e is =
    let there = place_there lines (value_at b None changes) k l (line_of table areas b) up (tells b) at is in
    let one : is_at k (value_at b None changes) ≡ true = some_is_at k (value_at b None changes) there in
    let other : is_at k (value_at b None changes) ≡ false = subst (λ c. is_at k (right_before c None changes) ≡ false) (sym e) before in
    let no : true ≡ false = sym one ∙ other in
    cc

begins : (table : Table) (areas : List Area) (lines : List Line) (changes : List Change) (k a : ℕ) (l : Line) → Tells table areas lines changes → IsStrictlySortedBy line_cmp lines → slice_get lines k ≡ Some l
    → StartsAt k a None changes → Begins table areas l a
begins table areas lines changes k a l tells up at h = (
  line_there lines (value_at a None changes) k l (line_of table areas a) (tells a) at (is_at_some k (value_at a None changes) h.0),
  λ b e is. not_right_before table areas lines changes k a b l tells up at h.1 e is,
)

absent_before : (table : Table) (areas : List Area) (lines : List Line) (changes : List Change) (k a : ℕ) (l : Line) → Tells table areas lines changes → slice_get lines k ≡ Some l
    → ((b : ℕ) → suc b ≡ a → line_of table areas b ≢ Some l) → is_at k (right_before a None changes) ≡ false
absent_before table areas lines changes k zero l tells at h = refl
absent_before table areas lines changes k (suc b) l tells at h =
    not_at k (value_at b None changes) (λ e. h b refl (line_there lines (value_at b None changes) k l (line_of table areas b) (tells b) at e))

begun : (table : Table) (areas : List Area) (lines : List Line) (changes : List Change) (k a : ℕ) (l : Line) → Tells table areas lines changes → IsStrictlySortedBy line_cmp lines → slice_get lines k ≡ Some l
    → Begins table areas l a → StartsAt k a None changes
begun table areas lines changes k a l tells up at h = (
  some_is_at k (value_at a None changes) (place_there lines (value_at a None changes) k l (line_of table areas a) up (tells a) at h.0),
  absent_before table areas lines changes k a l tells at h.1,
)

starts_among : (k a : ℕ) (changes : List Change) → IsRising 0 changes → Contains (starts k None changes) a → StartsAt k a None changes
starts_among k a changes rise h = starts_are k 0 a None changes rise (to_among a (starts k None changes) h.0 h.1 h.2)

are_entries : (table : Table) (areas : List Area) (lines : List Line) (changes : List Change) (k : ℕ) (l : Line) → Tells table areas lines changes → IsStrictlySortedBy line_cmp lines → IsRising 0 changes → slice_get lines k ≡ Some l
    → AreEntries table areas l (starts k None changes)
are_entries table areas lines changes k l tells up rise at = record {
  rising = starts_increase k changes rise;
  each = λ a. (
    λ h. begins table areas lines changes k a l tells up at (starts_among k a changes rise h),
    λ h. from_among a (starts k None changes) (are_starts k 0 a None changes rise (begun table areas lines changes k a l tells up at h)),
  );
}

pub has_path : (table : Table) (areas : List Area) (paths : List (List ℕ)) (positions : List (Option ℕ)) (keys : List Key) (changes lines : List Change) (key : Key) → Built table.files table.rows areas paths positions keys changes lines
    → Among key keys → HasPath paths key
has_path table areas paths positions keys changes lines key built h =
    let found = found_key table areas paths positions keys changes lines key built h in
    key_within paths positions table.files (option_and_then (slice_get table.rows) (value_at found.0 None changes)) key built.placed (sym (chained table.rows positions (value_at found.0 None changes)) ∙ found.1)

same_some : (xs ys : List ℕ) → Some xs ≡ Some ys → xs ≡ ys
same_some xs ys e = cc

-- the index of the table
pub is_index : (table : Table) (areas : List Area) (paths : List (List ℕ)) (positions : List (Option ℕ)) (keys : List Key) (changes lines : List Change) (lists : List (List ℕ)) → Built table.files table.rows areas paths positions keys changes lines
    → AreStarts (length keys) lines lists → IsIndex table areas (record { lines = map (line_at paths) keys; entries = lists; changes = lines })
is_index table areas paths positions keys changes lines lists built all =
    let up : IsStrictlySortedBy line_cmp (map (line_at paths) keys) = lines_in_order paths keys built.paths_rise (all_among (HasPath paths) keys (λ key m. has_path table areas paths positions keys changes lines key built m)) built.keys_rise in
    let tells : Tells table areas (map (line_at paths) keys) lines = λ a. positions_are table areas paths positions keys changes lines a built in
    let rise : IsRising 0 lines = same_rising (λ p. option_map (slice_get keys) p) (λ p. option_map Some (key_at table.rows positions p)) lines changes built.lined built.rise in
    record {
      in_order = up;
      used = λ l. (λ h. used_by table areas paths positions keys changes lines l built h, λ h. in_use table areas paths positions keys changes lines l h.0 built h.1);
      positions = tells;
      as_many = all.as_many ∙ sym (length-map keys (line_at paths));
      entries = λ k l es at is.
          let within : k < length keys = subst (λ n. k < n) (length-map keys (line_at paths)) (slice_get_within (map (line_at paths) keys) k l at) in
          let same : starts k None lines ≡ es = same_some (starts k None lines) es (sym (all.each k within) ∙ is) in
          subst (AreEntries table areas l) same (are_entries table areas (map (line_at paths) keys) lines k l tells up rise at);
    }
