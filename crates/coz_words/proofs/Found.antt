-- What a parse finds of items, and the request that they make.
use Rattle.std.proofs.Common.{◌≡◌, Bool, true, false, not, ◌&&◌, ◌||◌, List, [], ◌∷◌, drop, Option, Some, None, refl, sym, ap, ap₂, subst, ◌∙◌, if◌then◌else◌}
use Rattle.std.specs.Prelude.{option_and_then, option_map}
use Rattle.std.specs.List.{list_all, list_any}
use Rattle.std.specs.Str.{bytes_eq}
use Rattle.std.proofs.Math.Path.{fun_ext}
use Rattle.std.proofs.lemmas.Slice.Eq.{bytes_eq-Decides}
use Rattle.clap.specs.Words.{first_value, found_of}
use Rattle.clap.specs.declared.parser.matches.ArgMatches.{ArgMatches}
use Rattle.coz_words.specs.Said.{Text, Item, option, target}
use Rattle.coz_words.specs.Answers.{option_value}
use Rattle.coz_words.specs.Parse.{target_id, Finds}
use Rattle.coz_words.specs.Request.{request_of_items, are_items_of, is_of_options, has_text, is_among, is_once, is_some_text, is_word, none_or, option_names, request_with, same_kind, target_of, value_of}
use Rattle.coz_words.specs.Slow.{command_in, command_of, items_in, request_in}
use Rattle.coz_words.specs.declared.command.Command.{Command}
use Rattle.coz_words.specs.declared.request.Request.{Request}
use Rattle.coz_words.proofs.Agree.{both_true}
use Rattle.coz_words.proofs.Exact.{are_names, then_some, if_some}
use Rattle.coz_words.proofs.Meaning.{said_back, said_forth, are_names_of}
use Rattle.coz_words.proofs.Turns.{not_false}

-- an option that the command lacks has no value
unknown_none : (names : List Text) (items : List Item) (name : Text) → list_all (is_of_options names) items ≡ true → is_among names name ≡ false → value_of name items ≡ None
unknown_none names [] name known out = refl
unknown_none names (target t ∷ items) name known out = unknown_none names items name known out
unknown_none names (option n v ∷ items) name known out =
    let both = both_true (is_among names n) (list_all (is_of_options names) items) known in
    by (bytes_eq n name) refl both.0 (unknown_none names items name both.1 out)
  where
    by : (b : Bool) → bytes_eq n name ≡ b → is_among names n ≡ true → value_of name items ≡ None → value_of name (option n v ∷ items) ≡ None
    by true e own more = absurd (let bad : true ≡ false = sym (subst (λ (t : Text). is_among names t ≡ true) ((bytes_eq-Decides n name).0 e) own) ∙ out in cc)
    by false e own more = rw e more

held_is : (c : Command) (items : List Item) (found : Text → Option Text) → list_all (is_of_options (option_names c)) items ≡ true
    → ((name : Text) → is_among (option_names c) name ≡ true → found name ≡ value_of name items) → option_value c found ≡ (λ name. value_of name items)
held_is c items found known finds = fun_ext (λ name. by name (is_among (option_names c) name) refl)
  where
    by : (name : Text) (b : Bool) → is_among (option_names c) name ≡ b → option_value c found name ≡ value_of name items
    by name true e = ap (λ (b : Bool). if b then found name else None) e ∙ finds name e
    by name false e = ap (λ (b : Bool). if b then found name else None) e ∙ sym (unknown_none (option_names c) items name known e)

-- ---- no text is empty

same_truth : (a b : Bool) → (a ≡ true → b ≡ true) → (b ≡ true → a ≡ true) → a ≡ b
same_truth true b to from = sym (to refl)
same_truth false true to from = from refl
same_truth false false to from = refl

every : {A : Type 0} (p : A → Bool) (xs : List A) → ((x : A) → p x ≡ true) → list_all p xs ≡ true
every p [] all = refl
every p (x ∷ xs) all = ap₂ ◌&&◌ (all x) (every p xs all)

target_text : (items : List Item) → list_all has_text items ≡ true → none_or is_some_text (target_of items) ≡ true
target_text [] all = refl
target_text (target t ∷ items) all = (both_true (is_some_text t) (list_all has_text items) all).0
target_text (option n v ∷ items) all = target_text items (both_true (is_some_text v) (list_all has_text items) all).1

value_text : (items : List Item) (name : Text) → list_all has_text items ≡ true → none_or is_some_text (value_of name items) ≡ true
value_text [] name all = refl
value_text (target t ∷ items) name all = value_text items name (both_true (is_some_text t) (list_all has_text items) all).1
value_text (option n v ∷ items) name all =
    let both = both_true (is_some_text v) (list_all has_text items) all in
    by (bytes_eq n name) refl both.0 (value_text items name both.1)
  where
    by : (b : Bool) → bytes_eq n name ≡ b → is_some_text v ≡ true → none_or is_some_text (value_of name items) ≡ true → none_or is_some_text (value_of name (option n v ∷ items)) ≡ true
    by true e own more = rw e own
    by false e own more = rw e more

second_false : (a b : Bool) → (a || b) ≡ false → (a ≡ false) × (b ≡ false)
second_false true b e = absurd cc
second_false false b e = (refl, e)

no_target : (t : Text) (items : List Item) → list_any (same_kind (target t)) items ≡ false → target_of items ≡ None
no_target t [] e = refl
no_target t (target u ∷ items) e = absurd cc
no_target t (option n v ∷ items) e = no_target t items e

no_value : (n v : Text) (items : List Item) → list_any (same_kind (option n v)) items ≡ false → value_of n items ≡ None
no_value n v [] e = refl
no_value n v (target u ∷ items) e = no_value n v items e
no_value n v (option m w ∷ items) e =
    let other = second_false (bytes_eq n m) (list_any (same_kind (option n v)) items) e in
    by (bytes_eq m n) refl other.0 (no_value n v items other.1)
  where
    by : (b : Bool) → bytes_eq m n ≡ b → bytes_eq n m ≡ false → value_of n items ≡ None → value_of n (option m w ∷ items) ≡ None
    by true d other more = absurd (let bad : true ≡ false = sym ((bytes_eq-Decides n m).1 (sym ((bytes_eq-Decides m n).0 d))) ∙ other in cc)
    by false d other more = rw d more

all_have : (names : List Text) (items : List Item) → list_all (is_of_options names) items ≡ true → is_once items ≡ true → none_or is_some_text (target_of items) ≡ true
    → ((name : Text) → is_among names name ≡ true → none_or is_some_text (value_of name items) ≡ true) → list_all has_text items ≡ true
all_have names [] known once path values = refl
all_have names (target t ∷ items) known once path values =
    let both = both_true (not (list_any (same_kind (target t)) items)) (is_once items) once in
    let none = no_target t items (not_false (list_any (same_kind (target t)) items) both.0) in
    ap₂ ◌&&◌ path (all_have names items known both.1 (ap (none_or is_some_text) none) values)
all_have names (option n v ∷ items) known once path values =
    let both = both_true (not (list_any (same_kind (option n v)) items)) (is_once items) once in
    let own = both_true (is_among names n) (list_all (is_of_options names) items) known in
    let none = no_value n v items (not_false (list_any (same_kind (option n v)) items) both.0) in
    ap₂ ◌&&◌ (first (values n own.0)) (all_have names items own.1 both.1 path (λ name among. rest name (bytes_eq n name) refl none (values name among)))
  where
    is_first : bytes_eq n n ≡ true → value_of n (option n v ∷ items) ≡ Some v
    is_first e = rw e refl

    first : none_or is_some_text (value_of n (option n v ∷ items)) ≡ true → is_some_text v ≡ true
    first e = subst (λ (o : Option Text). none_or is_some_text o ≡ true) (is_first ((bytes_eq-Decides n n).1 refl)) e

    is_later : (name : Text) → bytes_eq n name ≡ false → value_of name (option n v ∷ items) ≡ value_of name items
    is_later name e = rw e refl

    rest : (name : Text) (b : Bool) → bytes_eq n name ≡ b → value_of n items ≡ None → none_or is_some_text (value_of name (option n v ∷ items)) ≡ true → none_or is_some_text (value_of name items) ≡ true
    rest name true e none is = ap (none_or is_some_text) (subst (λ (t : Text). value_of t items ≡ None) ((bytes_eq-Decides n name).0 e) none)
    rest name false e none is = subst (λ (o : Option Text). none_or is_some_text o ≡ true) (is_later name e) is

among : (p : Text → Bool) (names : List Text) (name : Text) → list_all p names ≡ true → is_among names name ≡ true → p name ≡ true
among p [] name all own = absurd cc
among p (n ∷ names) name all own =
    let both = both_true (p n) (list_all p names) all in
    by (bytes_eq n name) refl both.0 (among p names name both.1)
  where
    by : (b : Bool) → bytes_eq n name ≡ b → p n ≡ true → (is_among names name ≡ true → p name ≡ true) → p name ≡ true
    by true e first more = subst (λ (t : Text). p t ≡ true) ((bytes_eq-Decides n name).0 e) first
    by false e first more = more (subst (λ (b : Bool). (b || is_among names name) ≡ true) e own)

texts_are : (names : List Text) (items : List Item) → list_all (is_of_options names) items ≡ true → is_once items ≡ true
    → (none_or is_some_text (target_of items) && list_all (λ name. none_or is_some_text (value_of name items)) names) ≡ list_all has_text items
texts_are names items known once = same_truth _ _ (λ all.
    let both = both_true (none_or is_some_text (target_of items)) (list_all (λ name. none_or is_some_text (value_of name items)) names) all in
    all_have names items known once both.0 (λ name own. among (λ n. none_or is_some_text (value_of n items)) names name both.1 own)
    ) (λ all. ap₂ ◌&&◌ (target_text items all) (every (λ name. none_or is_some_text (value_of name items)) names (λ name. value_text items name all)))

-- ---- the request

abbrev pub are_texts_of : Command → Option Text → (Text → Option Text) → Bool
are_texts_of c path value = none_or is_some_text path && list_all (λ name. none_or is_some_text (value name)) (option_names c)

asked_is : (c : Command) (items : List Item) → list_all (is_of_options (option_names c)) items ≡ true → is_once items ≡ true
    → request_of_items c items ≡ (if are_texts_of c (target_of items) (λ name. value_of name items) then request_with c (target_of items) (λ name. value_of name items) else None)
unfolding request_of_items
asked_is c items known once =
    let request : Option Request = request_with c (target_of items) (λ name. value_of name items) in
    ap₂ (λ (a b : Bool). if a && b && list_all has_text items then request else None) known once
    ∙ ap (λ (b : Bool). if b then request else None) (sym (texts_are (option_names c) items known once))

abbrev next : List Text → Command → Option Request
next rest c = option_and_then (request_of_items c) (items_in (option_names c) None rest)

request_by : (words : List Text) (c : Command) → command_in words ≡ Some c → request_in words ≡ next (drop 1 words) c
request_by [] c e = absurd cc
request_by (w ∷ rest) c e =
    let a = if_some (list_all is_word (w ∷ rest)) (command_of w) c e in
    ap (λ (b : Bool). if b then option_and_then (next rest) (command_of w) else None) a.0 ∙ ap (option_and_then (next rest)) a.1

pub no_command : (words : List Text) → command_in words ≡ None → request_in words ≡ None
no_command [] e = refl
no_command (w ∷ rest) e = by (list_all is_word (w ∷ rest)) refl
  where
    by : (b : Bool) → list_all is_word (w ∷ rest) ≡ b → request_in (w ∷ rest) ≡ None
    by false is = ap (λ (b : Bool). if b then option_and_then (next rest) (command_of w) else None) is
    by true is =
        let none : command_of w ≡ None = sym (ap (λ (b : Bool). if b then command_of w else None) is) ∙ e in
        ap (λ (b : Bool). if b then option_and_then (next rest) (command_of w) else None) is ∙ ap (option_and_then (next rest)) none

-- what is found gives the request
pub found_is : (words : List Text) (c : Command) (found : Text → Option Text) → command_in words ≡ Some c → Finds (option_names c) words (Some found)
    → request_in words ≡ (if are_texts_of c (found target_id) (option_value c found) then request_with c (found target_id) (option_value c found) else None)
found_is words c found named f =
    let items = f.0 in
    let given = f.1 in
    let names = option_names c in
    let said = said_forth names (are_names_of names (are_names c).right) items (drop 1 words) given.0 given.1 in
    request_by words c named ∙ ap (option_and_then (request_of_items c)) said ∙ asked_is c items given.1 given.2
    ∙ ap₂ (λ (path : Option Text) (value : Text → Option Text). if are_texts_of c path value then request_with c path value else None) (sym f.3) (sym (held_is c items found given.1 f.2))

-- if nothing is found there is none
pub nothing_found : (words : List Text) (c : Command) → command_in words ≡ Some c → Finds (option_names c) words None → request_in words ≡ None
unfolding request_of_items
nothing_found words c named none = by (request_in words) refl
  where
    by : (o : Option Request) → request_in words ≡ o → o ≡ None
    by None e = refl
    by (Some r) e =
        let names = option_names c in
        let i = then_some (items_in names None (drop 1 words)) (request_of_items c) r (sym (request_by words c named) ∙ e) in
        let right = (if_some (are_items_of c i.0) _ r i.2).0 in
        let own = both_true _ _ (both_true _ _ right).0 in
        let said = (said_back names (are_names_of names (are_names c).right) (drop 1 words)).0 i.0 i.1 in
        absurd (none i.0 (said, own.0, own.1))

-- ---- what is parsed

abbrev pub said_by : ArgMatches → Text → Option Text
said_by m = first_value (found_of m)

abbrev Parses : List Text → List Text → Option ArgMatches → Type 0
Parses names words m = Finds names words (option_map said_by m)

pub parsed_none : (words names : List Text) (c : Command) (m : Option ArgMatches) → command_in words ≡ Some c → names ≡ option_names c → Parses names words m → m ≡ None → request_in words ≡ None
parsed_none words names c m named own parses is =
    nothing_found words c named (subst (λ (o : Option ArgMatches). Parses (option_names c) words o) is (subst (λ (ns : List Text). Parses ns words m) own parses))

pub parsed_some : (words names : List Text) (c : Command) (m : Option ArgMatches) (a : ArgMatches) (b : Bool) → command_in words ≡ Some c → names ≡ option_names c → Parses names words m → m ≡ Some a
    → b ≡ are_texts_of c (said_by a target_id) (option_value c (said_by a)) → request_in words ≡ (if b then request_with c (said_by a target_id) (option_value c (said_by a)) else None)
parsed_some words names c m a b named own parses is texts =
    found_is words c (said_by a) named (subst (λ (o : Option ArgMatches). Parses (option_names c) words o) is (subst (λ (ns : List Text). Parses ns words m) own parses))
    ∙ ap (λ (t : Bool). if t then request_with c (said_by a target_id) (option_value c (said_by a)) else None) (sym texts)
