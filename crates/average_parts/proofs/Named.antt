-- Words name at most 1,000 paths.
use Rattle.std.proofs.Common.{rules, ◌≡◌, ◌≤◌, Bool, true, false, nat_le, cond, List, [], ◌∷◌, length, map, string_bytes, Some, None, arith, refl, subst}
use Rattle.std.specs.List.{list_all}
use Rattle.std.specs.Str.{bytes_eq}
use Rattle.std.specs.declared.string.String.{String}
use Rattle.std.specs.declared.alloc.Global.{Global}
use Rattle.std.proofs.lemmas.Bool.{and_parts}
use Rattle.std.proofs.lemmas.List.{length-map}
use Rattle.coz_types.specs.Labels.{Text}
use Rattle.average_parts.specs.Words.{paths_in, are_paths, as_paths, dashes, is_path, is_plain}

few_of : (words paths : List Text) (b : Bool) → are_paths words ≡ b → cond b (Some words) None ≡ Some paths → are_paths paths ≡ true
few_of words paths true e named = let same : words ≡ paths = cc in subst (λ (ps : List Text). are_paths ps ≡ true) same e
few_of words paths false e named = let no : ⊥ = cc in absurd no

some_paths : (words paths : List Text) → as_paths words ≡ Some paths → are_paths paths ≡ true
some_paths words paths named = few_of words paths (are_paths words) refl named

if_plain : (words paths : List Text) (b : Bool) → cond b (as_paths words) None ≡ Some paths → are_paths paths ≡ true
if_plain words paths false named = let no : ⊥ = cc in absurd no
if_plain words paths true named = some_paths words paths named

by_first : (word : Text) (words paths : List Text) (b : Bool) → cond b (as_paths words) (cond (list_all is_plain (word ∷ words)) (as_paths (word ∷ words)) None) ≡ Some paths → are_paths paths ≡ true
by_first word words paths true named = some_paths words paths named
by_first word words paths false named = if_plain (word ∷ words) paths (list_all is_plain (word ∷ words)) named

named_paths : (words paths : List Text) → paths_in words ≡ Some paths → are_paths paths ≡ true
named_paths [] paths named = let no : ⊥ = cc in absurd no
named_paths (word ∷ words) paths named = by_first word words paths (bytes_eq word dashes) named

few_paths : (paths : List Text) → are_paths paths ≡ true → length paths ≤ 1000
few_paths [] are = let no : ⊥ = cc in absurd no
few_paths (path ∷ paths) are =
    let few : nat_le (length (path ∷ paths)) 1000 ≡ true = (and_parts (nat_le (length (path ∷ paths)) 1000) (list_all is_path (path ∷ paths)) are).0 in
    search (rules, few)

-- as many parts as paths
pub few_parts : {A : Type 0} (words : List Text) (named : List (String Global)) (parts : List A) → paths_in words ≡ Some (map string_bytes named) → length parts ≡ length named → length parts ≤ 1000
few_parts words named parts is many =
    omega (arith, few_paths (map string_bytes named) (named_paths words (map string_bytes named) is), many, length-map named string_bytes)
