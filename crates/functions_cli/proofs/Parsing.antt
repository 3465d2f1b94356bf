-- What a parse of the words finds, and the request that it gives.
use Rattle.std.proofs.Common.{◌≡◌, Bool, true, false, ◌&&◌, List, [], ◌∷◌, map, Option, Some, None, refl, sym, ap, ap₂, ◌∙◌, if◌then◌else◌}
use Rattle.std.specs.Prelude.{option_and_then, string_bytes}
use Rattle.std.specs.List.{list_all}
use Rattle.std.specs.declared.string.String.{String}
use Rattle.std.specs.declared.alloc.Global.{Global}
use Rattle.clap.specs.Kinds.{Kinds, or_else}
use Rattle.clap.specs.Walk.{Names, Walk, finished, nothing_held, settled, walk_from, walked}
use Rattle.clap.specs.Simple.{App, Shape, is_simple, matches_of}
use Rattle.clap.specs.Faults.{check_fault, defaults_fault, fault_of, is_simple_and_free, settle_fault, turn_fault, walk_fault}
use Rattle.clap.proofs.FaultLemmas.{leaf_fault}
use Rattle.coz_types.specs.Labels.{Text}
use Rattle.coz_words.specs.Parse.{AreNames, Finds, target_id}
use Rattle.coz_words.specs.Parse as parse
use Rattle.coz_words.specs.Request.{is_of_options, is_once, target_of, value_of}
use Rattle.coz_words.specs.Slow.{items_in}
use Rattle.coz_words.proofs.Agree.{AreTexts, both_true}
use Rattle.coz_words.proofs.Commands.{end_of, rules_for}
use Rattle.coz_words.proofs.Exact.{then_some, if_some}
use Rattle.coz_words.proofs.Meaning.{said_back, said_forth, are_names_of}
use Rattle.coz_words.proofs.Texts as coz_texts
use Rattle.coz_words.proofs.Turns.{shape_with}
use Rattle.functions_cli.specs.Words.{Request, are_right, keep_name, option_names, regions_name, request_in, request_of_items, request_with}
use Rattle.functions_cli.specs.Parse.{without_name, words_app}

pub are_names : AreNames option_names
are_names = record { right = refl; others = refl }

pub texts : (words : List (String Global)) → AreTexts (map string_bytes words)
texts [] = tt
texts (word ∷ words) = coz_texts.are_texts (word ∷ word ∷ words)

-- ---- the words begin after the program's name

walk_is : (s : Shape) (names : Names) (w : Walk) (words : List Text) → walk_fault (without_name s) names w words ≡ walk_fault s names w words
unfolding walk_fault
walk_is s names w [] = refl
walk_is s names w (word ∷ rest) = ap (or_else (turn_fault s names w word)) (walk_is s names (walked s.rules names w word) rest)

abbrev whole : App
whole = record { top = shape_with (rules_for option_names); subs = [] }

abbrev bare : App
bare = record { top = without_name (shape_with (rules_for option_names)); subs = [] }

pub is_right : is_simple_and_free words_app ≡ true
is_right = refl

pub is_simple_app : is_simple words_app ≡ true
is_simple_app = refl

pub fault_is : (words : List Text) → fault_of words_app words ≡ fault_of (parse.words_app option_names) ([] ∷ words)
fault_is words =
    let rules = rules_for option_names in
    let shape = shape_with rules in
    let end = end_of option_names words in
    leaf_fault bare nothing_held words refl
    ∙ ap (λ (k : Kinds). or_else k (or_else [] (or_else (settle_fault rules false end) (or_else (defaults_fault (settled rules end).rows rules) (check_fault shape (finished rules end) false)))))
    (walk_is shape [] (walk_from nothing_held) words)
    ∙ sym (leaf_fault whole nothing_held words refl)

pub matches_are : (words : List Text) → matches_of words_app words ≡ matches_of (parse.words_app option_names) ([] ∷ words)
matches_are words = refl

-- ---- the request

abbrev found_with : (Text → Option Text) → Option Request
found_with found = option_and_then (request_with (found keep_name) (found regions_name)) (found target_id)

-- what is found gives the request
pub found_is : (words : List Text) (found : Text → Option Text) → Finds option_names ([] ∷ words) (Some found) → request_in words ≡ found_with found
unfolding request_in
found_is words found f =
    let items = f.0 in
    let given = f.1 in
    let asked : Option Request = option_and_then (request_with (value_of keep_name items) (value_of regions_name items)) (target_of items) in
    ap (option_and_then request_of_items) (said_forth option_names (are_names_of option_names refl) items words given.0 given.1)
    ∙ ap₂ (λ (a b : Bool). if a && b then asked else None) given.1 given.2
    ∙ ap₂ (λ (keep regions : Option Text). option_and_then (request_with keep regions) (target_of items)) (sym (f.2 keep_name refl)) (sym (f.2 regions_name refl))
    ∙ ap (option_and_then (request_with (found keep_name) (found regions_name))) (sym f.3)

-- if nothing is found there is none
pub nothing_found : (words : List Text) → Finds option_names ([] ∷ words) None → request_in words ≡ None
unfolding request_in
nothing_found words none = by (request_in words) refl
  where
    by : (o : Option Request) → request_in words ≡ o → o ≡ None
    by None e = refl
    by (Some r) e =
        let i = then_some (items_in option_names None words) request_of_items r e in
        let asked : Option Request = option_and_then (request_with (value_of keep_name i.0) (value_of regions_name i.0)) (target_of i.0) in
        let right = both_true (list_all (is_of_options option_names) i.0) (is_once i.0) (if_some (are_right i.0) asked r i.2).0 in
        absurd (none i.0 ((said_back option_names (are_names_of option_names refl) words).0 i.0 i.1, right.0, right.1))
