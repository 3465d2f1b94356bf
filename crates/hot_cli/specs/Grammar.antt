-- The arguments of the program as a grammar: which words ask for which request.
use Rattle.std.specs.Prelude.{◌≡◌, ◌⊎◌, ℕ, Bool, true, false, not, ◌&&◌, List, [], ◌∷◌, ◌++◌, take, codes, Some, None}
use Rattle.std.specs.Str.{bytes_eq}
use Rattle.coz_types.specs.Ranges.{last_word}
use Rattle.experiment_plan.specs.Lists.{number_in}
use Rattle.coz_words.specs.Said.{Text}
use Rattle.coz_words.specs.Request.{Requests, command_name}
use Rattle.coz_words.specs.declared.command.Command.TheVariants.{Run}
use Rattle.hot_cli.specs.declared.asked.HotRequest.{HotRequest}

-- ---- items

-- `--names`, `--top` with its value, or another word, which is one of the command `run`
pub data Item : Type 0 where
  names : Item
  top : Text → Item
  other : Text → Item

-- the word is no option of the program, and no option with its value
abbrev pub is_other : Text → Bool
is_other word =
    not (bytes_eq word (codes "--names")) && not (bytes_eq word (codes "--top"))
    && not (bytes_eq (take 6 word) (codes "--top="))

-- the words say this item; `--top` and its value are one word, or two
abbrev pub Says : Item → List Text → Type 0
Says names words = words ≡ codes "--names" ∷ []
Says (top value) words =
    (words ≡ (codes "--top=" ++ value) ∷ []) ⊎ (words ≡ codes "--top" ∷ value ∷ [])
Says (other word) words = (words ≡ word ∷ []) × (is_other word ≡ true)

-- the words say these items, one after the other, and nothing else
abbrev pub SaysAll : List Item → List Text → Type 0
SaysAll [] words = words ≡ []
SaysAll (item ∷ items) words = (front : List Text) × (rest : List Text)
    × (words ≡ front ++ rest) × Says item front × SaysAll items rest

-- ---- what the items give

-- the other words, in their order
abbrev pub others : List Item → List Text
others [] = []
others (other word ∷ items) = word ∷ others items
others (item ∷ items) = others items

-- the values of `--top`, one for each time that it is given
abbrev pub values : List Item → List Text
values [] = []
values (top value ∷ items) = value ∷ values items
values (item ∷ items) = values items

-- `true` for each time that `--names` is given
abbrev pub namings : List Item → List Bool
namings [] = []
namings (names ∷ items) = true ∷ namings items
namings (item ∷ items) = namings items

-- `--top` is not given, which allows all lines, or once with a number of 1 and up
abbrev pub IsTop : List Text → ℕ → Type 0
IsTop [] lines = lines ≡ last_word
IsTop (value ∷ []) lines = number_in 1 last_word value ≡ Some lines
IsTop values lines = ⊥

-- whether `--names` is given, which is at most once
abbrev pub IsNamed : List Bool → Bool → Type 0
IsNamed [] named = named ≡ false
IsNamed (given ∷ []) named = named ≡ given
IsNamed givens named = ⊥

-- ---- the request

-- the words ask for this request: each option at most once, in any order among words that make a
-- request of `run` with no line
pub record AsksHot (words : List Text) (request : HotRequest) : Type 0 where
  pub items : List Item
  pub said : SaysAll items words
  pub run : Requests (command_name Run ∷ others items) request.run
  pub no_line : request.run.line ≡ None
  pub top : IsTop (values items) request.top
  pub names : IsNamed (namings items) request.names
