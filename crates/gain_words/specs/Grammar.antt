-- The arguments of the program as a grammar: which words ask for which request.
use Rattle.std.specs.Prelude.{◌≡◌, ◌⊎◌, ◌≤◌, List, [], ◌∷◌, ◌++◌, codes, Option, Some, None}
use Rattle.coz_words.specs.Said.{Text}
use Rattle.coz_words.specs.Request.{Requests, command_name}
use Rattle.coz_words.specs.declared.command.Command.TheVariants.{Profile}
use Rattle.timing_model.specs.Timing.{usual}
use Rattle.timing_steps.specs.declared.ticks.TheConstants.{MAX_TIMED_BUDGET}
use Rattle.gain_words.specs.declared.asked.GainRequest.{GainRequest}
use Rattle.gain_words.specs.declared.setting.Setting.{Setting}
use Rattle.gain_words.specs.declared.setting.Setting.TheVariants as settings
use Rattle.gain_words.specs.Words.{setting_word, setting_of, name_in, cores_in, slice_in, costs_in, charge_in, seed_in}

-- ---- items

-- an option of the machine with its value, or another word, which is one of the command `profile`
pub data Item : Type 0 where
  set : Setting → Text → Item
  other : Text → Item

-- the words say this item; an option and its value are one word, or two
abbrev pub Says : Item → List Text → Type 0
Says (set setting value) words =
    (words ≡ (setting_word setting ++ (codes "=" ++ value)) ∷ [])
    ⊎ (words ≡ setting_word setting ∷ value ∷ [])
Says (other word) words = (words ≡ word ∷ []) × (setting_of (name_in word) ≡ None)

-- the words say these items, one after the other, and nothing else
abbrev pub SaysAll : List Item → List Text → Type 0
SaysAll [] words = words ≡ []
SaysAll (item ∷ items) words = (front : List Text) × (rest : List Text)
    × (words ≡ front ++ rest) × Says item front × SaysAll items rest

-- ---- what the items give

-- the other words, in their order
abbrev pub others : List Item → List Text
others [] = []
others (other word ∷ items) = word ∷ others items
others (set setting value ∷ items) = others items

-- the values of an option, one for each time that it is given
abbrev pub values : Setting → List Item → List Text
values setting [] = []
values settings.Cores (set settings.Cores value ∷ items) = value ∷ values settings.Cores items
values settings.Slice (set settings.Slice value ∷ items) = value ∷ values settings.Slice items
values settings.Costs (set settings.Costs value ∷ items) = value ∷ values settings.Costs items
values settings.Charge (set settings.Charge value ∷ items) = value ∷ values settings.Charge items
values settings.Seed (set settings.Seed value ∷ items) = value ∷ values settings.Seed items
values setting (item ∷ items) = values setting items

-- an option is not given, and this is the usual value, or it is given once, and the value is this
abbrev pub Gives : {A : Type 0} → (Text → Option A) → List Text → A → A → Type 0
Gives read [] default x = x ≡ default
Gives read (value ∷ []) default x = read value ≡ Some x
Gives read values default x = ⊥

-- ---- the request

-- the words ask for this request: each option of the machine at most once, in any order among words
-- that make a request of `profile`
pub record AsksGain (words : List Text) (request : GainRequest) : Type 0 where
  pub items : List Item
  pub said : SaysAll items words
  pub profile : Requests (command_name Profile ∷ others items) request.profile
  pub few : request.profile.budget ≤ MAX_TIMED_BUDGET
  pub cores : Gives cores_in (values settings.Cores items) usual.cores request.timing.cores
  pub slice : Gives slice_in (values settings.Slice items) usual.slice request.timing.slice
  pub costs : Gives costs_in (values settings.Costs items) usual.costs request.timing.costs
  pub charge : Gives charge_in (values settings.Charge items) usual.charge request.timing.charge
  pub seed : Gives seed_in (values settings.Seed items) usual.seed request.timing.seed
