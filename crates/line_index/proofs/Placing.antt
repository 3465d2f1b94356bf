-- The positions of entries' paths, and those of the files whose entries they are.
use Rattle.std.proofs.Common.{◌≡◌, ℕ, ◌<◌, List, length, get_or, Option, Some, Result, Err, option_map, All, Contains, sym, ap, ◌∙◌, subst, arith}
use Rattle.std.specs.Global.{Vec}
use Rattle.std.specs.declared.cmp.Ordering.{Ordering}
use Rattle.std.specs.declared.cmp.Ordering.TheVariants.{Equal}
use Rattle.std.specs.Ordering.{nat_cmp, ordering_then}
use Rattle.std.specs.Cmp.Lexicographic.{slice_cmp}
use Rattle.std.specs.List.Sorted.{IsStrictlySortedBy, IsBinarySearchResult}
use Rattle.std.proofs.lemmas.List.{length-map, get_or-map, get_or_default}
use Rattle.std.proofs.lemmas.List.Elements.{All-get_or}
use Rattle.dwarf_lines.specs.declared.FileName.{FileName}
use Rattle.dwarf_lines.specs.Registers.{File, file_view, files_view}
use Rattle.line_index.specs.declared.entry.Entry.{Entry}
use Rattle.line_index.specs.Lines.{entry_path}
use Rattle.line_index.specs.Keys.{ArePlaces, entries_view, entry_cmp, entry_view, path_place}
use Rattle.line_index.proofs.Distinct.{entry_total, same_entry}
use Rattle.line_index.proofs.Found.{never}
use Rattle.line_index.proofs.Order.{search_finds, self_equal}
use Rattle.line_index.proofs.Pieces.{to_among, from_among, among_mapped}

abbrev file_cmp : File → File → Ordering
file_cmp file other = ordering_then (slice_cmp nat_cmp file.name other.name) (slice_cmp nat_cmp file.directory other.directory)

-- an entry that is there is found
pub entry_not_missed : (entries : List Entry) (entry : Entry) (r : Result ℕ ℕ) (i : ℕ) → IsStrictlySortedBy entry_cmp entries → Contains (entries_view entries) (entry_view entry) → IsBinarySearchResult (λ other. entry_cmp other entry) entries r → r ≡ Err i → ⊥
entry_not_missed entries entry r i up one found e =
    let mapped = among_mapped entry_view (entry_view entry) entries (to_among (entry_view entry) (entries_view entries) one.0 one.1 one.2) in
    let there = from_among mapped.0 entries mapped.1 in
    let here : get_or entries there.0 entry ≡ mapped.0 = get_or_default entries there.0 entry mapped.0 there.1 ∙ there.2 in
    never _ r i (search_finds entry_total entries entry r up found there.0 there.1
    (ap (λ (other : Entry). entry_cmp other entry) here ∙ ap (λ file. file_cmp file (entry_view entry)) mapped.2 ∙ self_equal entry_total entry)) e

-- and what stands at its place is the position of its path
pub placed_at : (paths : List (Vec ℕ)) (positions : List (Option ℕ)) (entries : List Entry) (entry : Entry) (i : ℕ) (d : Option ℕ) → length positions ≡ length entries → i < length entries → entry_cmp (get_or entries i entry) entry ≡ Equal → ArePlaces paths positions (entries_view entries)
    → path_place paths (get_or positions i d) ≡ option_map Some (entry_path (entry_view entry))
placed_at paths positions entries entry i d many lt equal are =
    let position : File → Option (Option (List ℕ)) = λ file. option_map Some (entry_path file) in
    let within : i < length (entries_view entries) = subst (λ n. i < n) (sym (length-map entries entry_view)) lt in
    sym (get_or-map (path_place paths) positions i d (path_place paths d) (omega (arith, many, lt)))
    ∙ ap (λ (ps : List (Option (Option (List ℕ)))). get_or ps i (path_place paths d)) are
    ∙ get_or-map position (entries_view entries) i (entry_view entry) (path_place paths d) within
    ∙ ap position (get_or-map entry_view entries i entry (entry_view entry) lt ∙ same_entry (get_or entries i entry) entry equal)

pub file_among : (entries : List Entry) (files : List FileName) (i : ℕ) (d : FileName) → i < length files → All (Contains (entries_view entries)) (files_view files) → Contains (entries_view entries) (file_view (get_or files i d))
file_among entries files i d lt all =
    let within : i < length (files_view files) = subst (λ n. i < n) (sym (length-map files file_view)) lt in
    subst (Contains (entries_view entries)) (get_or-map file_view files i d (file_view d) lt) (All-get_or (Contains (entries_view entries)) (files_view files) i (file_view d) within all)

-- there are as many positions as entries
pub many_places : (paths : List (Vec ℕ)) (positions : List (Option ℕ)) (entries : List Entry) → ArePlaces paths positions (entries_view entries) → length positions ≡ length entries
many_places paths positions entries are =
    sym (length-map positions (path_place paths)) ∙ ap length are ∙ length-map (entries_view entries) (λ (file : File). option_map Some (entry_path file)) ∙ length-map entries entry_view
