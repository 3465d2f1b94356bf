-- The arguments of the program as a grammar: which words ask for which request.
use Rattle.std.specs.Prelude.{◌≡◌, ◌⊎◌, ℕ, Bool, true, false, List, [], ◌∷◌, ◌++◌, codes, Option, Some, None, if◌then◌else◌}
use Rattle.coz_types.specs.Labels.{Text, is_empty}
use Rattle.page_words.specs.declared.asked.TheConstants.{USUAL_TOP}
use Rattle.page_words.specs.Words.{Request, is_path, number_in}

-- ---- items

pub data Name : Type 0 where
  Top : Name
  File : Name
  Source : Name
  Title : Name
  Link : Name

-- the path of the profile, or an option and its value
pub data Item : Type 0 where
  path : Text → Item
  option : Name → Text → Item

abbrev pub word_of : Name → Text
word_of Top = codes "--top"
word_of File = codes "--file"
word_of Source = codes "--source"
word_of Title = codes "--title"
word_of Link = codes "--link"

-- the words say this item; an option and its value are one word, or two
abbrev pub Says : Item → List Text → Type 0
Says (path text) words = (words ≡ text ∷ []) × (is_path text ≡ true)
Says (option name value) words =
    (words ≡ (word_of name ++ (codes "=" ++ value)) ∷ []) ⊎ (words ≡ word_of name ∷ value ∷ [])

-- the words say these items, one after the other, and nothing else
abbrev pub SaysAll : List Item → List Text → Type 0
SaysAll [] words = words ≡ []
SaysAll (item ∷ items) words = (front : List Text) × (rest : List Text)
    × (words ≡ front ++ rest) × Says item front × SaysAll items rest

-- ---- what the items give

abbrev pub paths : List Item → List Text
paths [] = []
paths (path text ∷ items) = text ∷ paths items
paths (option name value ∷ items) = paths items

abbrev pub same_name : Name → Name → Bool
same_name Top Top = true
same_name File File = true
same_name Source Source = true
same_name Title Title = true
same_name Link Link = true
same_name a b = false

-- the values of an option, one for each time that it is given
abbrev pub values : Name → List Item → List Text
values name [] = []
values name (path text ∷ items) = values name items
values name (option other value ∷ items) =
    if same_name other name then value ∷ values name items else values name items

-- the option is not given, or once with a value that is not empty
abbrev pub IsGiven : List Text → Option Text → Type 0
IsGiven [] given = given ≡ None
IsGiven (value ∷ []) given = (given ≡ Some value) × (is_empty value ≡ false)
IsGiven values given = ⊥

-- `--top` is not given, which makes 20 lines, or once with the number of lines
abbrev pub IsTop : List Text → ℕ → Type 0
IsTop [] lines = lines ≡ USUAL_TOP
IsTop (value ∷ []) lines = number_in value ≡ Some lines
IsTop values lines = ⊥

-- ---- the request

-- the words ask for this request: one path, and each option at most once, in any order
pub record Asks (words : List Text) (request : Request) : Type 0 where
  pub items : List Item
  pub said : SaysAll items words
  pub profile : paths items ≡ request.profile ∷ []
  pub top : IsTop (values Top items) request.top
  pub file : IsGiven (values File items) request.file
  pub source : IsGiven (values Source items) request.source
  pub title : IsGiven (values Title items) request.title
  pub link : IsGiven (values Link items) request.link
