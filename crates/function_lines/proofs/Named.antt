-- The functions of a program have names, and their addresses are below 2^64.
use Rattle.std.proofs.Common.{◌≡◌, ℕ, ◌+◌, ◌%◌, ◌<◌, ◌^◌, Bool, true, false, not, ◌&&◌, List, [], ◌∷◌, reverse, refl, sym, ap, ◌∙◌, subst, arith, nat_le, ◌==◌, cond, leb-true}
use mathlib.Core.List.{reverse_aux, reverse-reverse}
use Rattle.std.specs.Prelude.{codes, All}
use Rattle.std.specs.BTreeMap.{insert_entry}
use Rattle.std.specs.List.{AllByRecursion, list_any}
use Rattle.std.specs.Map.{values_of}
use Rattle.std.specs.Ordering.{nat_cmp}
use Rattle.std.proofs.lemmas.Bool.{and_parts}
use Rattle.std.proofs.lemmas.List.Elements.{All-from_recursion, All-get_or, All-nil, recursion_from_All}
use Rattle.std.proofs.lemmas.List.Folds.{Any-from_list_any}
use Rattle.std.proofs.lemmas.Map.Views.{All-values-insert_entry}
use Rattle.coz_types.specs.declared.image.Area.{Area}
use Rattle.coz_types.specs.Image.{ImageParts, IsAreaOf, IsImage}
use Rattle.elf_symbols.specs.declared.symbols.Symbol.{Symbol}
use Rattle.function_sequences.specs.Sequences.{IsNamed, bytes_in, falling, functions_in, names_in}
use Rattle.elf_symbols.specs.Symbols.{has_name, is_in_area, symbols}
use Rattle.function_sequences.specs.Functions.{by_address, functions, is_function, with_function}

in_area : (file : List ℕ) (areas : List Area) (s : Symbol) → All (IsAreaOf file) areas → list_any (is_in_area s) areas ≡ true → s.address + s.size < 2 ^ 64
in_area file areas s each e =
    let found = Any-from_list_any (is_in_area s) areas e in
    let area = found.1 in
    let of : IsAreaOf file area = subst (IsAreaOf file) found.3 (All-get_or (IsAreaOf file) areas found.0 area found.2 each) in
    let parts = and_parts area.rights.execute (nat_le area.start s.address && nat_le (s.address + s.size) (area.start + area.size)) found.4 in
    let below = leb-true (s.address + s.size) (area.start + area.size) (and_parts (nat_le area.start s.address) (nat_le (s.address + s.size) (area.start + area.size)) parts.1).1 in
    omega (arith, of.high, below)

function_named : (file : List ℕ) (areas : List Area) (names : List ℕ) (s : Symbol) → All (IsAreaOf file) areas → is_function areas names s ≡ true → IsNamed names s
function_named file areas names s each e =
    let kind = and_parts (s.kind == 2) (not (s.section == 0) && (not (s.size == 0) && (s.address % 4 == 0 && (has_name names s && list_any (is_in_area s) areas)))) e in
    let section = and_parts (not (s.section == 0)) (not (s.size == 0) && (s.address % 4 == 0 && (has_name names s && list_any (is_in_area s) areas))) kind.1 in
    let size = and_parts (not (s.size == 0)) (s.address % 4 == 0 && (has_name names s && list_any (is_in_area s) areas)) section.1 in
    let offset = and_parts (s.address % 4 == 0) (has_name names s && list_any (is_in_area s) areas) size.1 in
    let last = and_parts (has_name names s) (list_any (is_in_area s) areas) offset.1 in
    record { name = last.0; within = in_area file areas s each last.1 }

one_named : (file : List ℕ) (areas : List Area) (names : List ℕ) (s : Symbol) (found : List (ℕ × Symbol)) → All (IsAreaOf file) areas → All (IsNamed names) (values_of found) → All (IsNamed names) (values_of (with_function areas names s found))
one_named file areas names s found each all = by (is_function areas names s) refl
  where
    by : (t : Bool) → is_function areas names s ≡ t → All (IsNamed names) (values_of (cond t (insert_entry nat_cmp found s.address s) found))
    by true e = All-values-insert_entry nat_cmp s.address s (IsNamed names) found all (function_named file areas names s each e)
    by false e = all

all_named : (file : List ℕ) (areas : List Area) (names : List ℕ) (ss : List Symbol) → All (IsAreaOf file) areas → All (IsNamed names) (values_of (by_address areas names ss))
all_named file areas names [] each = All-nil (IsNamed names)
all_named file areas names (s ∷ ss) each = one_named file areas names s (by_address areas names ss) each (all_named file areas names ss each)

all_back : {A : Type 0} (P : A → Type 0) (xs ys : List A) → AllByRecursion P xs → AllByRecursion P ys → AllByRecursion P (reverse_aux xs ys)
all_back P [] ys all behind = behind
all_back P (x ∷ xs) ys all behind = all_back P xs (x ∷ ys) all.1 (all.0, behind)

all_reverse : {A : Type 0} (P : A → Type 0) (xs : List A) → All P xs → All P (reverse xs)
all_reverse P xs all = All-from_recursion P (reverse xs) (all_back P xs [] (recursion_from_All P xs all) tt)

pub functions_named : (image : ImageParts) → IsImage image → All (IsNamed (names_in image.file)) (falling (functions_in image))
unfolding functions
functions_named image valid =
    all_reverse (IsNamed (names_in image.file)) (values_of (functions_in image)) (all_named image.file image.areas (names_in image.file) (symbols (bytes_in image.file (codes ".symtab"))) valid.each)

-- ---- if there is none

no_values : (found : List (ℕ × Symbol)) → values_of found ≡ [] → found ≡ []
no_values [] e = refl
no_values (f ∷ found) e = absurd cc

pub none_falls : (found : List (ℕ × Symbol)) → falling found ≡ [] → found ≡ []
none_falls found e = no_values found (sym (reverse-reverse (values_of found)) ∙ ap reverse e)
