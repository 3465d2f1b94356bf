-- The request computed word by word is the one that the relation gives, and there is none if the relation gives none.
use Rattle.std.proofs.Common.{◌≡◌, Bool, true, false, List, [], ◌∷◌, Option, Some, None, refl, sym, ap, subst, ◌∙◌, if◌then◌else◌, find}
use Rattle.std.specs.Prelude.{option_and_then}
use Rattle.std.specs.List.{list_all}
use Rattle.std.specs.Str.{bytes_eq}
use Rattle.std.proofs.lemmas.Slice.Eq.{bytes_eq-Decides}
use Rattle.coz_words.specs.Said.{Text, Item}
use Rattle.coz_words.specs.Request.{commands, Requests, request_of_items, are_items_of, is_of_options, command_name, option_names, is_word}
use Rattle.coz_words.specs.declared.command.Command.{Command}
use Rattle.coz_words.specs.declared.request.Request.{Request}
use Rattle.coz_words.specs.Parse.{AreNames}
use Rattle.coz_words.specs.declared.command.Command.TheVariants.{Run, Really, Profile, Lines, Plot, Asm, Trial, Latency, Path}
use Rattle.coz_words.specs.Slow.{command_of, items_in, request_in}
use Rattle.coz_words.proofs.Agree.{both_true}
use Rattle.coz_words.proofs.Meaning.{said_back, said_forth, are_names_of}

pub are_names : (c : Command) → AreNames (option_names c)
are_names Run = record { right = refl; others = refl }
are_names Really = record { right = refl; others = refl }
are_names Profile = record { right = refl; others = refl }
are_names Lines = record { right = refl; others = refl }
are_names Plot = record { right = refl; others = refl }
are_names Asm = record { right = refl; others = refl }
are_names Trial = record { right = refl; others = refl }
are_names Latency = record { right = refl; others = refl }
are_names Path = record { right = refl; others = refl }

named_is : (c : Command) → command_of (command_name c) ≡ Some c
named_is Run = refl
named_is Really = refl
named_is Profile = refl
named_is Lines = refl
named_is Plot = refl
named_is Asm = refl
named_is Trial = refl
named_is Latency = refl
named_is Path = refl

pub find_passes : {A : Type 0} (p : A → Bool) (xs : List A) (x : A) → find p xs ≡ Some x → p x ≡ true
find_passes p [] x e = absurd cc
find_passes p (y ∷ xs) x e = by (find_passes p xs x) (p y) refl
  where
    by : (find p xs ≡ Some x → p x ≡ true) → (b : Bool) → p y ≡ b → p x ≡ true
    by more true d = let is : Some y ≡ Some x = sym (rw d refl) ∙ e in let same : y ≡ x = cc in subst (λ z. p z ≡ true) same d
    by more false d = more (sym (rw d refl) ∙ e)

pub then_some : {A B : Type 0} (o : Option A) (f : A → Option B) (y : B) → option_and_then f o ≡ Some y → (x : A) × (o ≡ Some x) × (f x ≡ Some y)
then_some None f y e = absurd cc
then_some (Some x) f y e = (x, refl, e)

pub if_some : {A : Type 0} (b : Bool) (o : Option A) (y : A) → (if b then o else None) ≡ Some y → (b ≡ true) × (o ≡ Some y)
if_some true o y e = (refl, e)
if_some false o y e = absurd cc

asked_items : (c : Command) (items : List Item) (r : Request) → request_of_items c items ≡ Some r → list_all (is_of_options (option_names c)) items ≡ true
unfolding request_of_items
asked_items c items r e =
    let first = (if_some (are_items_of c items) _ r e).0 in
    (both_true _ _ (both_true _ _ first).0).0

pub exact_back : (words : List Text) (r : Request) → request_in words ≡ Some r → Requests words r
exact_back [] r e = absurd cc
exact_back (word ∷ rest) r e =
    let a = if_some (list_all is_word (word ∷ rest)) (option_and_then (λ c. option_and_then (request_of_items c) (items_in (option_names c) None rest)) (command_of word)) r e in
    let n = then_some (command_of word) (λ c. option_and_then (request_of_items c) (items_in (option_names c) None rest)) r a.1 in
    let i = then_some (items_in (option_names n.0) None rest) (request_of_items n.0) r n.2 in
    let is : command_name n.0 ≡ word = (bytes_eq-Decides (command_name n.0) word).0 (find_passes (λ c. bytes_eq (command_name c) word) commands n.0 n.1) in
    record {
      command = n.0;
      rest = rest;
      items = i.0;
      whole = ap (λ (w : Text). w ∷ rest) (sym is);
      fit = a.0;
      said = (said_back (option_names n.0) (are_names_of (option_names n.0) (are_names n.0).right) rest).0 i.0 i.1;
      right = i.2;
    }

pub exact_forth : (words : List Text) (r : Request) → Requests words r → request_in words ≡ Some r
exact_forth words r q =
    let names = option_names q.command in
    let items = said_forth names (are_names_of names (are_names q.command).right) q.items q.rest q.said (asked_items q.command q.items r q.right) in
    let fit : list_all is_word (command_name q.command ∷ q.rest) ≡ true = subst (λ (ws : List Text). list_all is_word ws ≡ true) q.whole q.fit in
    ap request_in q.whole
    ∙ ap (λ (b : Bool). if b then option_and_then (λ c. option_and_then (request_of_items c) (items_in (option_names c) None q.rest)) (command_of (command_name q.command)) else None) fit
    ∙ ap (λ (o : Option Command). option_and_then (λ c. option_and_then (request_of_items c) (items_in (option_names c) None q.rest)) o) (named_is q.command)
    ∙ ap (λ (o : Option (List Item)). option_and_then (request_of_items q.command) o) items
    ∙ q.right
