-- What a binary search finds among keys and paths, and what stands below a count.
use Rattle.std.proofs.Common.{◌≡◌, ℕ, zero, suc, ◌+◌, ◌<◌, ◌≤◌, false, List, [], ◌∷◌, ◌++◌, take, Option, Some, None, Result, Ok, Err, MatchResult, IfSome, All, length, map, get_or, slice_get, option_map, Contains, cond, ◌==◌, sym, ap, ◌∙◌, subst, arith}
use Rattle.std.specs.Global.{Vec}
use Rattle.std.specs.declared.cmp.Ordering.TheVariants.{Equal}
use Rattle.std.specs.Ordering.{nat_cmp}
use Rattle.std.specs.Cmp.Lexicographic.{slice_cmp, nat_list_cmp_total}
use Rattle.std.specs.List.{HoldsAt, filter_map, cons_option}
use Rattle.std.specs.List.Sorted.{IsStrictlySortedBy, IsBinarySearchResult}
use Rattle.std.proofs.lemmas.List.{length-map, get_or-map, get_or_default, take_more}
use Rattle.std.proofs.lemmas.List.Elements.{All-from_get_or, All-get_or, filter_map-append}
use Rattle.std.proofs.lemmas.Option.{slice_get-map, slice_get_within, slice_get-get_or}
use Rattle.std.specs.FinMap.{slice_cmp-IsAntisymmetric, nat_cmp-IsAntisymmetric}
use Rattle.dwarf_lines.specs.declared.Row.{Row}
use Rattle.dwarf_lines.specs.Registers.{File}
use Rattle.line_index.specs.declared.entry.Entry.{Entry}
use Rattle.line_index.specs.declared.changes.Change.{Change}
use Rattle.line_index.specs.declared.lines.Key.{Key}
use Rattle.line_index.specs.Lines.{path, entry_path}
use Rattle.line_index.specs.Keys.{entries_view, entry_view, key_cmp, path_cmp, path_place, texts, key_at, change_keys, key_change, line_change, IsBelow}
use Rattle.line_index.proofs.Order.{search_finds, self_equal}
use Rattle.line_index.proofs.Pieces.{Among, to_among, from_among, among_mapped, of_change, in_front, in_rest}
use Rattle.line_index.proofs.Distinct.{key_total, path_total}

pub never : (P : ℕ → Type 0) (r : Result ℕ ℕ) (i : ℕ) → MatchResult r P (λ _. ⊥) → r ≡ Err i → ⊥
never P (Ok j) i h e = let no : ⊥ = cc in no
never P (Err j) i h e = h

-- a key that is there is found
pub key_not_missed : (keys : List Key) (key : Key) (r : Result ℕ ℕ) (i : ℕ) → IsStrictlySortedBy key_cmp keys → Contains keys key → IsBinarySearchResult (λ k. key_cmp k key) keys r → r ≡ Err i → ⊥
key_not_missed keys key r i up one found e =
    never _ r i (search_finds key_total keys key r up found one.0 one.1 (ap (λ k. key_cmp k key) one.2 ∙ self_equal key_total key)) e

same_text_equal : (v w : Vec ℕ) → v.items ≡ w.items → path_cmp v w ≡ Equal
same_text_equal v w e = ap (λ t. slice_cmp nat_cmp t w.items) e ∙ self_equal nat_list_cmp_total w.items

-- a path that is there is found
pub path_not_missed : (paths : List (Vec ℕ)) (written : Vec ℕ) (text : List ℕ) (r : Result ℕ ℕ) (i : ℕ) → IsStrictlySortedBy path_cmp paths → Contains (texts paths) text → written.items ≡ text → IsBinarySearchResult (λ p. path_cmp p written) paths r → r ≡ Err i → ⊥
path_not_missed paths written text r i up one is found e =
    let mapped = among_mapped (λ (path : Vec ℕ). path.items) text paths (to_among text (texts paths) one.0 one.1 one.2) in
    let there = from_among mapped.0 paths mapped.1 in
    let same : (get_or paths there.0 mapped.0).items ≡ text = ap (λ (p : Vec ℕ). p.items) there.2 ∙ mapped.2 in
    let same_here : (get_or paths there.0 written).items ≡ text = ap (λ (p : Vec ℕ). p.items) (get_or_default paths there.0 written mapped.0 there.1) ∙ same in
    never _ r i (search_finds path_total paths written r up found there.0 there.1 (same_text_equal (get_or paths there.0 written) written (same_here ∙ sym is))) e

named : (file : File) → (length (path file) == 0) ≡ false → entry_path file ≡ Some (path file)
named file e = ap (λ t. cond t None (Some (path file))) e

-- and it is the entry's
pub place_found : (paths : List (Vec ℕ)) (written : Vec ℕ) (file : File) (i : ℕ) → written.items ≡ path file → (length written.items == 0) ≡ false → i < length paths → HoldsAt (λ p. path_cmp p written ≡ Equal) paths i
    → path_place paths (Some i) ≡ option_map Some (entry_path file)
place_found paths written file i is some lt found =
    let same : (get_or paths i written).items ≡ written.items = slice_cmp-IsAntisymmetric nat_cmp-IsAntisymmetric (get_or paths i written).items written.items (found written) in
    let here : slice_get (texts paths) i ≡ Some (path file) = slice_get-map (λ (p : Vec ℕ). p.items) paths i ∙ ap (option_map (λ (p : Vec ℕ). p.items)) (slice_get-get_or paths i written lt) ∙ ap (λ t. Some t) (same ∙ is) in
    let entry = named file (ap (λ t. length t == 0) (sym is) ∙ some) in
    ap (λ x. Some x) here ∙ ap (option_map Some) (sym entry)

-- ---- the keys of changes

said_at : (f : Option ℕ → Option Key) (key : Key) (cs : List Change) (i : ℕ) (d : Change) → i < length cs → f (get_or cs i d).position ≡ Some key → Among key (filter_map (of_change f) cs)
said_at f key [] i d lt e = absurd (omega arith)
said_at f key (c ∷ cs) zero d lt e = in_front key (f c.position) (filter_map (of_change f) cs) e
said_at f key (c ∷ cs) (suc i) d lt e = in_rest key (f c.position) (filter_map (of_change f) cs) (said_at f key cs i d (omega arith) e)

-- the key of a change is one of those of all changes
pub change_key : (rows : List Row) (positions : List (Option ℕ)) (changes : List Change) (i : ℕ) (d : Change) (key : Key) → i < length changes → key_at rows positions (get_or changes i d).position ≡ Some key → Contains (change_keys rows positions changes) key
change_key rows positions changes i d key lt e = from_among key (change_keys rows positions changes) (said_at (key_at rows positions) key changes i d lt e)

no_more : {X : Type 0} (v : Option X) (xs : List X) (n : ℕ) → length xs ≤ n → length (cons_option v xs) ≤ suc n
no_more None xs n le = omega arith
no_more (Some x) xs n le = omega arith

-- there are no more keys than changes
pub few_keys : (rows : List Row) (positions : List (Option ℕ)) (changes : List Change) → length (change_keys rows positions changes) ≤ length changes
few_keys rows positions [] = omega arith
few_keys rows positions (c ∷ changes) = no_more (key_at rows positions c.position) (change_keys rows positions changes) (length changes) (few_keys rows positions changes)

-- what holds of all files holds of one
pub file_at : (P : File → Type 0) (files : List Entry) (i : ℕ) (d : Entry) → i < length files → All P (entries_view files) → P (entry_view (get_or files i d))
file_at P files i d lt all =
    let within : i < length (entries_view files) = subst (λ n. i < n) (sym (length-map files entry_view)) lt in
    subst P (get_or-map entry_view files i d (entry_view d) lt) (All-get_or P (entries_view files) i (entry_view d) within all)

-- ---- positions of lines

below_by : (keys : List Key) (p : Option ℕ) (key : Option Key) → option_map (slice_get keys) p ≡ option_map Some key → IfSome p (λ k. k < length keys)
below_by keys None key e = tt
below_by keys (Some k) None e = let no : ⊥ = cc in absurd no
below_by keys (Some k) (Some key) e = let found : slice_get keys k ≡ Some key = cc in slice_get_within keys k key found

-- each position is that of a line
pub all_below : (rows : List Row) (positions : List (Option ℕ)) (keys : List Key) (changes lines : List Change) → map (line_change keys) lines ≡ map (key_change rows positions) changes → All (IsBelow (length keys)) lines
all_below rows positions keys changes lines e =
    let none : Change = record { address = 0; position = None } in
    let many : length lines ≡ length changes = sym (length-map lines (line_change keys)) ∙ ap length e ∙ length-map changes (key_change rows positions) in
    All-from_get_or (IsBelow (length keys)) lines none
    (λ i lt.
    let other : i < length changes = omega arith in
    let same : line_change keys (get_or lines i none) ≡ key_change rows positions (get_or changes i none)
    = sym (get_or-map (line_change keys) lines i none (0, None) lt) ∙ ap (λ ps. get_or ps i (0, None)) e ∙ get_or-map (key_change rows positions) changes i none (0, None) other in
    below_by keys (get_or lines i none).position (key_at rows positions (get_or changes i none).position) (ap (λ p. p.1) same))

front_shorter : (i : ℕ) (cs : List Change) → length (take i cs) ≤ length cs
front_shorter zero cs = omega arith
front_shorter (suc i) [] = omega arith
front_shorter (suc i) (c ∷ cs) = omega (arith, front_shorter i cs)

-- one more key
pub keys_more : (rows : List Row) (positions : List (Option ℕ)) (changes : List Change) (i : ℕ) (d : Change) (v : Option Key) (keys more : List Key) → i < length changes → keys ≡ change_keys rows positions (take i changes) → v ≡ key_at rows positions (get_or changes i d).position → more ≡ keys ++ cons_option v [] → more ≡ change_keys rows positions (take (i + 1) changes)
keys_more rows positions changes i d v keys more lt so_far is grows =
    grows ∙ ap (λ ks. ks ++ cons_option v []) so_far ∙ ap (λ w. change_keys rows positions (take i changes) ++ cons_option w []) is
    ∙ sym (filter_map-append (of_change (key_at rows positions)) (take i changes) (get_or changes i d ∷ []))
    ∙ ap (change_keys rows positions) (sym (take_more changes i d lt))

-- so there are no more keys than changes so far
pub taken_few : (rows : List Row) (positions : List (Option ℕ)) (changes : List Change) (i : ℕ) (keys : List Key) → keys ≡ change_keys rows positions (take i changes) → length keys ≤ length changes
taken_few rows positions changes i keys e =
    let few = few_keys rows positions (take i changes) in
    let same : length keys ≡ length (change_keys rows positions (take i changes)) = ap length e in
    let front : length (take i changes) ≤ length changes = front_shorter i changes in
    omega arith
