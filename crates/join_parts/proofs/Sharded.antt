-- The verdict of the profiles of lists of a program's lines.
use Rattle.std.proofs.Common.{◌≡◌, ℕ, ◌+◌, ◌<◌, option_and_then, if◌then◌else◌, ◌≤◌, Bool, true, false, cond, nat_cmp, inl, inr, List, [], ◌∷◌, ◌++◌, codes, string_bytes, map, length, get_or, All, Option, None, Some, Result, Ok, Err, refl, sym, ap, ap₂, subst, ◌∙◌, arith}
use Rattle.std.specs.Prelude.{unwrap_or}
use Rattle.std.specs.List.{AllByRecursion, list_all}
use Rattle.std.specs.Str.{bytes_eq}
use Rattle.std.specs.declared.string.String.{String}
use Rattle.std.specs.declared.alloc.Global.{Global}
use Rattle.std.proofs.lemmas.Bool.{cases_order, le-ltb}
use Rattle.std.proofs.lemmas.List.{length-map}
use Rattle.std.proofs.lemmas.List.Elements.{recursion_from_All}
use Rattle.std.specs.List.Sorted.{IsStrictlySortedBy}
use Rattle.coz_types.specs.Labels.{Text}
use Rattle.coz_types.specs.declared.record.Summary.{Summary}
use Rattle.coz_files.specs.Held.{Held, file_at}
use Rattle.coz_files.specs.Verdict.{Verdict, refusal}
use Rattle.profile_book.specs.Profile.{IsProfile, profile_text}
use Rattle.profile_book.specs.declared.profile.Profile.{Profile}
use Rattle.profile_reader.specs.Parsed.{parsed_profile}
use Rattle.profile_reader.specs.declared.fault.BookFault.{BookFault}
use Rattle.profile_reader.proofs.Only.{no_fault_of_text, told_is}
use Rattle.profile_join.specs.declared.fault.PartKind.{PartKind}
use Rattle.profile_join.specs.declared.fault.PartKind.TheVariants.{Twice}
use Rattle.profile_join.specs.declared.fault.JoinError.TheVariants.{Unlike}
use Rattle.profile_shards.specs.Shards.{AreBlocks, AreLines, AreTogether, AreDisjoint, IsTwice, holders, profile_at}
use Rattle.profile_shards.proofs.Law.{shards_join}
use Rattle.join_parts.specs.Words.{paths_in, are_paths, as_paths, dashes, is_plain}
use Rattle.timing_model.specs.declared.timing.Timing.{Timing}
use Rattle.timing_model.specs.Timing.{usual}
use Rattle.timing_reader.specs.Reading.{timed_text, has_line, timing_after, unusual}
use Rattle.join_parts.specs.declared.part.Part.{Part}
use Rattle.join_parts.specs.Machines.{unlike_from, unlike_part, machine_of}
use Rattle.join_parts.specs.Verdict.{book_in, book_of, timed_in, part_in, part_before, parts_in, parts_line, profile_verdict, profiles_of, IsPathsVerdict, IsPartsVerdict, IsTimedVerdict, IsLikeVerdict, IsJoinVerdict}
use Rattle.join_parts.specs.Shards.{IsShardsVerdict, ShardsVerdict, twice_line}

-- ---- reading

-- a profile of the usual machine
abbrev plain_part : Profile → Part
plain_part p = record { timing = usual; profile = p }

-- the text of a profile has no line of a machine
no_line : (p : Profile) → has_line (profile_text p) ≡ false
unfolding profile_text
no_line p = refl

timed_is : (text : Text) → has_line text ≡ false → timed_text text ≡ (usual, text)
timed_is text none =
    ap (λ (b : Bool). unwrap_or (if b then option_and_then unusual (timing_after text) else Some (usual, text)) (usual, text)) none

-- the text of a profile is read as it
part_of_text : (path : Text) (p : Profile) → IsProfile p → length (profile_text p) ≤ 268435456 → part_in path (Some (profile_text p)) ≡ Ok (plain_part p)
part_of_text path p right short =
    let text : Text = profile_text p in
    let long : Result Text Verdict = Err (refusal 8 (codes "long: " ++ path)) in
    ap (λ (b : Bool). book_of path (cond b long (Ok text))) (le-ltb 268435456 (length text) short)
    ∙ ap (timed_in path) (timed_is text (no_line p))
    ∙ ap (λ (fault : Option BookFault). book_in path usual fault (parsed_profile text)) (no_fault_of_text text p (right, refl))
    ∙ ap (λ (q : Profile). book_in path usual None q) (told_is text p (right, refl))

cons_head : {A : Type 0} (x y : A) (xs ys : List A) → x ∷ xs ≡ y ∷ ys → x ≡ y
cons_head x y xs ys e = cc

cons_tail : {A : Type 0} (x y : A) (xs ys : List A) → x ∷ xs ≡ y ∷ ys → xs ≡ ys
cons_tail x y xs ys e = cc

module _ (held : Held) where
  -- the texts of profiles are read as they
  parts_of_texts : (paths : List Text) (profiles : List Profile) → map (file_at held) paths ≡ map (λ (p : Profile). Some (profile_text p)) profiles
      → AllByRecursion IsProfile profiles → AllByRecursion (λ (p : Profile). length (profile_text p) ≤ 268435456) profiles → parts_in paths held ≡ Ok (map plain_part profiles)
  parts_of_texts [] [] files right short = refl
  parts_of_texts [] (p ∷ profiles) files right short = let no : ⊥ = cc in absurd no
  parts_of_texts (path ∷ paths) [] files right short = let no : ⊥ = cc in absurd no
  parts_of_texts (path ∷ paths) (p ∷ profiles) files right short =
      let at : file_at held path ≡ Some (profile_text p) = cons_head _ _ _ _ files in
      let rest = parts_of_texts paths profiles (cons_tail _ _ _ _ files) right.1 short.1 in
      ap₂ part_before (ap (part_in path) at ∙ part_of_text path p right.0 short.0) rest

-- profiles of the usual machine are of one machine
none_unlike : (place : ℕ) (profiles : List Profile) → unlike_from usual place (map plain_part profiles) ≡ None
none_unlike place [] = refl
none_unlike place (p ∷ profiles) = none_unlike (place + 1) profiles

usual_machine : (profiles : List Profile) → machine_of (map plain_part profiles) ≡ usual
usual_machine [] = refl
usual_machine (p ∷ profiles) = refl

plain_profiles : (profiles : List Profile) → profiles_of (map plain_part profiles) ≡ profiles
plain_profiles [] = refl
plain_profiles (p ∷ profiles) = ap (λ (ps : List Profile). p ∷ ps) (plain_profiles profiles)

-- the verdict of profiles of the usual machine is that of their join
plain_verdict : (paths : List Text) (profiles : List Profile) (v : Verdict) → IsTimedVerdict paths (map plain_part profiles) v → IsJoinVerdict usual paths profiles v
plain_verdict paths profiles v is =
    let parts : List Part = map plain_part profiles in
    let none : unlike_part parts ≡ None = ap (λ (t : Timing). unlike_from t 0 parts) (usual_machine profiles) ∙ none_unlike 0 profiles in
    let joined : IsJoinVerdict (machine_of parts) paths (profiles_of parts) v =
    subst (λ (o : Option ℕ). IsLikeVerdict o paths parts v) none is in
    subst (λ (ps : List Profile). IsJoinVerdict usual paths ps v) (plain_profiles profiles)
    (subst (λ (t : Timing). IsJoinVerdict t paths (profiles_of parts) v) (usual_machine profiles) joined)

-- ---- lists of lines

not_twice : (lists : List (List ℕ)) (line part : ℕ) → AreDisjoint lists → IsTwice lists line part → ⊥
not_twice lists line part disjoint twice =
    let many : length (holders line 0 lists) ≡ length (twice.first ∷ part ∷ twice.more) = ap length twice.second in
    omega (arith, many, disjoint line)

not_before : (lists : List (List ℕ)) (line part other place : ℕ) → IsTwice lists line part → IsTwice lists other place → line < other → ⊥
not_before lists line part other place one two lt =
    let many : length (holders line 0 lists) ≡ length (one.first ∷ part ∷ one.more) = ap length one.second in
    omega (arith, many, two.least line lt)

same_line : (lists : List (List ℕ)) (line part other place : ℕ) → IsTwice lists line part → IsTwice lists other place → line ≡ other
same_line lists line part other place one two =
    let low : line < other → ⊥ = not_before lists line part other place one two in
    let high : other < line → ⊥ = not_before lists other place line part two one in
    elim (cases_order line other) [ inl same ↦ same | inr apart ↦ elim apart [ inl lt ↦ absurd (low lt) | inr gt ↦ absurd (high gt) ] ]

second_of : (f g p q : ℕ) (xs ys : List ℕ) → f ∷ p ∷ xs ≡ g ∷ q ∷ ys → p ≡ q
second_of f g p q xs ys e = cc

same_part : (lists : List (List ℕ)) (line part place : ℕ) → IsTwice lists line part → IsTwice lists line place → part ≡ place
same_part lists line part place one two = second_of _ _ _ _ _ _ (sym one.second ∙ two.second)

-- ---- paths are one or more

some_of : (words paths : List Text) (b : Bool) → are_paths words ≡ b → cond b (Some words) None ≡ Some paths → are_paths paths ≡ true
some_of words paths true is named = let same : words ≡ paths = cc in ap are_paths (sym same) ∙ is
some_of words paths false is named = let no : ⊥ = cc in absurd no

some_paths : (words paths : List Text) → as_paths words ≡ Some paths → are_paths paths ≡ true
some_paths words paths named = some_of words paths (are_paths words) refl named

if_plain : (words paths : List Text) (b : Bool) → cond b (as_paths words) None ≡ Some paths → are_paths paths ≡ true
if_plain words paths false named = let no : ⊥ = cc in absurd no
if_plain words paths true named = some_paths words paths named

by_first : (word : Text) (words paths : List Text) (b : Bool) → cond b (as_paths words) (cond (list_all is_plain (word ∷ words)) (as_paths (word ∷ words)) None) ≡ Some paths → are_paths paths ≡ true
by_first word words paths true named = some_paths words paths named
by_first word words paths false named = if_plain (word ∷ words) paths (list_all is_plain (word ∷ words)) named

pub named_some : (words paths : List Text) → paths_in words ≡ Some paths → are_paths paths ≡ true
named_some [] paths named = let no : ⊥ = cc in absurd no
named_some (word ∷ words) paths named = by_first word words paths (bytes_eq word dashes) named

some_lists : {A B : Type 0} (f : Text → A) (g : B → A) (paths : List Text) (lists : List B) → are_paths paths ≡ true → map f paths ≡ map g lists → 0 < length lists
some_lists f g [] lists some files = let no : ⊥ = cc in absurd no
some_lists f g (path ∷ paths) [] some files = let no : ⊥ = cc in absurd no
some_lists f g (path ∷ paths) (list ∷ lists) some files = omega arith

one_or_more : (paths : List Text) → are_paths paths ≡ true → 0 < length paths
one_or_more [] some = let no : ⊥ = cc in absurd no
one_or_more (path ∷ paths) some = omega arith

-- paths that are named have parts
pub some_parts : {A : Type 0} (words : List Text) (named : List (String Global)) (parts : List A) → paths_in words ≡ Some (map string_bytes named) → length parts ≡ length named → 0 < length parts
some_parts words named parts is many =
    omega (arith, one_or_more (map string_bytes named) (named_some words (map string_bytes named) is), many, length-map named string_bytes)

-- ---- the verdict

module _ {count : ℕ} {label : ℕ → Text} {block : ℕ → ℕ → Summary} (are : AreBlocks count label block) (budget : ℕ) (points : List Text) (speedups : List ℕ) (lists : List (List ℕ)) (whole : List ℕ) (none : speedups ≡ [] → ⊥)
    (rising : IsStrictlySortedBy nat_cmp speedups) (lines : All (AreLines count) lists) (together : AreTogether count lists whole) (some : 0 < length lists) (paths : List Text) where
  abbrev profiles : List Profile
  profiles = map (profile_at budget points block speedups) lists

  abbrev all_lines : Profile
  all_lines = profile_at budget points block speedups whole

  join_is : (v : Verdict) → IsJoinVerdict usual paths profiles v → IsShardsVerdict lists all_lines label paths v
  join_is v (inl joined) =
      let is = shards_join count label block are budget points speedups lists whole none rising some lines together (Ok joined.0) joined.1 in
      record {
        joined = λ disjoint. joined.2 ∙ ap profile_verdict is.1;
        twice = λ line part two. absurd (not_twice lists line part is.0 two);
      }
  join_is v (inr unlike) =
      let is = shards_join count label block are budget points speedups lists whole none rising some lines together (Err (Unlike unlike.0)) unlike.1 in
      record {
        joined = λ disjoint. absurd (not_twice lists is.0 (unlike.0).part disjoint is.1);
        twice = λ line part two.
            let line_is : line ≡ is.0 = same_line lists line part is.0 (unlike.0).part two is.1 in
            let part_is : (unlike.0).part ≡ part = same_part lists is.0 (unlike.0).part part is.1 (subst (λ (l : ℕ). IsTwice lists l part) line_is two) in
            unlike.2
            ∙ ap (λ (kind : PartKind). refusal 14 (parts_line kind (get_or paths (unlike.0).part []))) (is.2 ∙ ap (λ (l : ℕ). Twice (label l)) (sym line_is))
            ∙ ap (λ (n : ℕ). refusal 14 (twice_line (label line) paths n)) part_is;
      }

pub shards_verdict : ShardsVerdict
shards_verdict count label block are budget points speedups lists whole none rising lines together words held hold v is =
    let profiles : List Profile = map (profile_at budget points block speedups) lists in
    let read : parts_in hold.paths held ≡ Ok (map plain_part profiles) = parts_of_texts held hold.paths profiles hold.files (recursion_from_All IsProfile profiles hold.right) (recursion_from_All (λ (p : Profile). length (profile_text p) ≤ 268435456) profiles hold.short) in
    let there : 0 < length profiles = some_lists (file_at held) (λ (p : Profile). Some (profile_text p)) hold.paths profiles (named_some words hold.paths hold.named) hold.files in
    let many : length profiles ≡ length lists = length-map lists (profile_at budget points block speedups) in
    let some : 0 < length lists = omega (arith, there, many) in
    join_is are budget points speedups lists whole none rising lines together some hold.paths v
    (plain_verdict hold.paths profiles v (subst (λ (r : Result (List Part) Verdict). IsPartsVerdict hold.paths r v) read (subst (λ (ps : Option (List Text)). IsPathsVerdict ps held v) hold.named is)))
