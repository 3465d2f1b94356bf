-- The request computed word by word.
use Rattle.std.specs.Prelude.{◌==◌, true, false, List, [], ◌∷◌, ◌&&◌, drop, take, Option, Some, None, if◌then◌else◌, option_map, find}
use Rattle.std.specs.List.{list_all, list_any, before_first, after_first}
use Rattle.std.specs.Str.{bytes_eq}
use Rattle.coz_words.specs.Said.{Text, Item, option, target, is_own_word, dashes}
use Rattle.coz_words.specs.Request.{request_of_items, commands, command_name, option_names, is_among, is_word, ◌>>=◌}
use Rattle.coz_words.specs.declared.command.Command.{Command}
use Rattle.coz_words.specs.declared.request.Request.{Request}

-- what follows a word `--`
abbrev pub after_dashes : List Text → Option (List Item)
after_dashes [] = Some []
after_dashes (text ∷ []) = Some (target text ∷ [])
after_dashes _ = None

abbrev pub with_item : Item → Option (List Item) → Option (List Item)
with_item item = option_map (λ items. item ∷ items)

-- the argument after its two hyphens
abbrev pub name_in : Text → Text
name_in rest = before_first (λ b. b == 61) rest

abbrev pub value_in : Text → Text
value_in rest = after_first (λ b. b == 61) rest

-- the items, if `wanting` is the option whose value is to come
unfoldable pub items_in : List Text → Option Text → List Text → Option (List Item)
items_in names None [] = Some []
items_in names (Some name) [] = None
items_in names (Some name) (word ∷ words) = elim (is_own_word word) [
  | true ↦ with_item (option name word) (items_in names None words)
  | false ↦ None
]
items_in names None (word ∷ words) = elim (is_own_word word) [
  | true ↦ with_item (target word) (items_in names None words)
  | false ↦ elim (bytes_eq word dashes) [
    | true ↦ after_dashes words
    | false ↦ elim (bytes_eq (take 2 word) dashes && is_among names (name_in (drop 2 word))) [
      | false ↦ None
      | true ↦ elim (list_any (λ b. b == 61) (drop 2 word)) [
        | true ↦ with_item (option (name_in (drop 2 word)) (value_in (drop 2 word)))
            (items_in names None words)
        | false ↦ items_in names (Some (name_in (drop 2 word))) words
      ]
    ]
  ]
]

abbrev pub command_of : Text → Option Command
command_of word = find (λ c. bytes_eq (command_name c) word) commands

-- the command that the first word names, if each word may be one
abbrev pub command_in : List Text → Option Command
command_in [] = None
command_in (word ∷ rest) = if list_all is_word (word ∷ rest) then command_of word else None

-- the request of the words
abbrev pub request_in : List Text → Option Request
request_in [] = None
request_in (word ∷ rest) =
    if list_all is_word (word ∷ rest) then (
    command_of word >>= λ c.
    items_in (option_names c) None rest >>= λ items.
    request_of_items c items
    ) else None

-- the same, not unfolded by a search
unfoldable pub request_of : List Text → Option Request
request_of words = request_in words
